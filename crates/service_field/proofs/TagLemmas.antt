use Rattle.std.proofs.Common.{◌≡◌, ℕ, ◌+◌, ◌-◌, ◌<◌, ◌≤◌, Bool, true, false, cond, ltb, nat_lt, not, ◌&&◌, ◌==◌, List}
use Rattle.std.proofs.Common.{[], ◌∷◌, length, take, drop, Option, Some, None, unwrap_or, refl, sym, ap, ◌∙◌, inl, inr}
use Rattle.std.proofs.Common.{arith}
use Rattle.std.proofs.lemmas.Bool.{cases_lt, le-ltb, lt-ltb, ltb-false, not-true}
use Rattle.std.proofs.lemmas.Bool.Decides.{Decides-ltb}
use Rattle.std.proofs.lemmas.Option.{cond_some}
use Rattle.std.proofs.lemmas.List.{drop-drop, length-drop, length-take-le, take_all, take_rest}
use Rattle.std.proofs.lemmas.List.Splits.{length-slice_split, slice_split_first, slice_split_none}
use Rattle.std.proofs.lemmas.List.Sums.{prefix_len-le-length, prefix_len_passes}
use Rattle.std.specs.List.{after_first, before_first, list_all, position, position_or_len, slice_split}
use Rattle.std.specs.Option.{option_or}
use Rattle.service_field.specs.Faults.{ends_part, form_fault, part_fault, parts_fault}
use Rattle.service_field.specs.Fitting.{is_item, is_tag}
use Rattle.service_field.specs.Tags.{colon, cut_once, first_tag, tags_of}
use Rattle.service_field.specs.declared.alphabet.Alphabet.{Alphabet}
use Rattle.service_field.specs.declared.form.Form.{Form}
use Rattle.service_field.specs.declared.fault.ServiceFault.{ServiceFault}

unwrapped_at : (b : Bool) (n p : ℕ) → ltb p n ≡ b → p ≤ n → unwrap_or (cond b (Some p) None) n ≡ p
unwrapped_at true n p is le = refl
unwrapped_at false n p is le = omega (arith, ltb-false p n is)

-- a place that is found, or else the length
pub unwrapped : (r : Option ℕ) (n p : ℕ) → r ≡ cond (ltb p n) (Some p) None → p ≤ n → unwrap_or r n ≡ p
unwrapped r n p is le = ap (λ o. unwrap_or o n) is ∙ unwrapped_at (ltb p n) n p refl le

-- a list none of whose elements passes is one part
pub one_part : (p : ℕ → Bool) (xs : List ℕ) → position_or_len p xs ≡ length xs → slice_split p xs ≡ xs ∷ []
one_part p xs is =
    slice_split_none p xs (λ k d below. not-true _ (prefix_len_passes (λ x. not (p x)) xs k d (omega (arith, is, below))))

-- the first part of a text is at fault, or else a later one
some_first : (form : Form) (at : ℕ) (text : List ℕ) → (more : Option ServiceFault)
    × (form_fault form at text ≡ option_or (part_fault form at (take (position_or_len (ends_part form) text) text)) more)
some_first form at text =
    let p : ℕ → Bool = ends_part form in
    let n : ℕ = position_or_len p text in
    elim (cases_lt n (length text)) [
      | inl less ↦
          let size : length (take n text) ≡ n = length-take-le n text (omega (arith, less)) in (
            parts_fault (part_fault form) (at + (length (take n text) + 1)) (slice_split p (drop (n + 1) text)),
            ap (parts_fault (part_fault form) at) (slice_split_first p text 0 less),
          )
      | inr all ↦
          let whole : n ≡ length text = omega (arith, all, prefix_len-le-length (λ x. not (p x)) text) in
          (None, ap (parts_fault (part_fault form) at) (one_part p text whole) ∙ ap (λ t. option_or (part_fault form at t) None) (sym (take_all n text all)))
    ]

pub fault_first : (form : Form) (at n : ℕ) (text front : List ℕ) (fault : ServiceFault)
    → n ≡ position_or_len (ends_part form) text → front ≡ take n text → Some fault ≡ part_fault form at front
    → Some fault ≡ form_fault form at text
fault_first form at n text front fault place is found =
    let first = some_first form at text in
    ap (λ o. option_or o first.0) (found ∙ ap (part_fault form at) (is ∙ ap (λ k. take k text) place)) ∙ sym first.1

-- the last part is no fault
pub no_fault_last : (form : Form) (at n : ℕ) (text front back : List ℕ) → n ≡ position_or_len (ends_part form) text
    → n ≤ length text → front ≡ take n text → length back + n ≡ length text → length back < 1
    → None ≡ part_fault form at front → None ≡ form_fault form at text
no_fault_last form at n text front back place within is size end none =
    let whole : n ≡ length text = omega (arith, size, end) in
    ap (λ o. option_or o None) (none ∙ ap (part_fault form at) (is ∙ take_all n text (omega (arith, whole))))
    ∙ sym (ap (parts_fault (part_fault form) at) (one_part (ends_part form) text (sym place ∙ whole)))

-- the first part is no fault, and what stands after it is as faulty as the whole
pub no_fault_first : (form : Form) (at n : ℕ) (text front back : List ℕ) → n ≡ position_or_len (ends_part form) text
    → front ≡ take n text → back ≡ drop n text → length front ≡ n → length back + n ≡ length text → 1 ≤ length back
    → None ≡ part_fault form at front
    → form_fault form (at + (length front + 1)) (take (length back - 1) (drop 1 back)) ≡ form_fault form at text
no_fault_first form at n text front back place is rest long size some none =
    let p : ℕ → Bool = ends_part form in
    let less : position_or_len p text < length text = omega (arith, size, some, place) in
    let later : take (length back - 1) (drop 1 back) ≡ drop (n + 1) text =
    take_rest back 1 ∙ ap (drop 1) rest ∙ drop-drop 1 n text in
    ap (λ t. parts_fault (part_fault form) (at + (length front + 1)) (slice_split p t)) (later ∙ ap (λ k. drop (k + 1) text) place)
    ∙ ap (λ o. option_or o (parts_fault (part_fault form) (at + (length front + 1)) (slice_split p (drop (position_or_len p text + 1) text)))) none
    ∙ ap (λ t. option_or (part_fault form at t)
    (parts_fault (part_fault form) (at + (length t + 1)) (slice_split p (drop (position_or_len p text + 1) text))))
    (is ∙ ap (λ k. take k text) place)
    ∙ sym (ap (parts_fault (part_fault form) at) (slice_split_first p text 0 less))

-- what stands between colons is at least one part
pub item_test : (alphabet : Alphabet) (text : List ℕ) (r : Bool) → r ≡ list_all (is_tag alphabet) (tags_of text) → r ≡ is_item alphabet (tags_of text)
item_test alphabet text r is =
    is ∙ ap (λ b. b && list_all (is_tag alphabet) (tags_of text))
    (sym (lt-ltb 0 (length (tags_of text)) (omega (arith, length-slice_split (λ b. b == colon) text))))

-- the place and the length of what is left add up to no more than before
pub kept : (at front : ℕ) (back : List ℕ) (rest whole : ℕ) → front + length back ≡ rest → 1 ≤ length back
    → at + rest ≤ whole → at + (front + 1) + length (take (length back - 1) (drop 1 back)) ≤ whole
kept at front back rest whole is some le =
    rw take_rest (omega (arith, length-drop 1 back, is, some, le))

-- a text without a colon is one tag, and a text with one is cut there

pub not_cut : (text : List ℕ) → position_or_len (λ b. b == colon) text ≡ length text → (cut_once text ≡ text ∷ []) × (tags_of text ≡ text ∷ [])
not_cut text whole = (
  ap (λ x. cond x (before_first (λ b. b == colon) text ∷ after_first (λ b. b == colon) text ∷ []) (text ∷ []))
      (le-ltb (position_or_len (λ b. b == colon) text) (length text) (omega (arith, whole))),
  one_part (λ b. b == colon) text whole,
)

pub is_cut : (text : List ℕ) → position_or_len (λ b. b == colon) text < length text
    → (cut_once text ≡ before_first (λ b. b == colon) text ∷ after_first (λ b. b == colon) text ∷ [])
    × (tags_of text ≡ before_first (λ b. b == colon) text ∷ tags_of (after_first (λ b. b == colon) text))
is_cut text less = (
  ap (λ x. cond x (before_first (λ b. b == colon) text ∷ after_first (λ b. b == colon) text ∷ []) (text ∷ []))
      (lt-ltb (position_or_len (λ b. b == colon) text) (length text) less),
  slice_split_first (λ b. b == colon) text 0 less,
)

-- .. by the place that a search gives

by_test : (x : Bool) (p : ℕ) → ◌≡◌ {A = Option ℕ} None (cond x (Some p) None) → x ≡ false
by_test true p is = absurd (cc)
by_test false p is = refl

found : (text : List ℕ) (n : ℕ) → Some n ≡ position (λ b. b == colon) text
    → (n ≡ position_or_len (λ b. b == colon) text) × (position_or_len (λ b. b == colon) text < length text)
found text n is =
    let both = cond_some (nat_lt (position_or_len (λ b. b == colon) text) (length text)) (position_or_len (λ b. b == colon) text) n (sym is) in
    (sym both.1, (Decides-ltb (position_or_len (λ b. b == colon) text) (length text)).0 both.0)

missing : (text : List ℕ) → ◌≡◌ {A = Option ℕ} None (position (λ b. b == colon) text) → position_or_len (λ b. b == colon) text ≡ length text
missing text is =
    let past : length text ≤ position_or_len (λ b. b == colon) text =
    ltb-false (position_or_len (λ b. b == colon) text) (length text)
    (by_test (nat_lt (position_or_len (λ b. b == colon) text) (length text))
    (position_or_len (λ b. b == colon) text) is) in
    omega (arith, past, prefix_len-le-length (λ x. not (x == colon)) text)

pub first_there : (text : List ℕ) (n : ℕ) → Some n ≡ position (λ b. b == colon) text → take n text ≡ first_tag (tags_of text)
first_there text n is =
    let f = found text n is in
    ap (λ k. take k text) f.0 ∙ sym (ap first_tag (is_cut text f.1).1)

pub first_is_all : (text : List ℕ) → ◌≡◌ {A = Option ℕ} None (position (λ b. b == colon) text) → text ≡ first_tag (tags_of text)
first_is_all text is = sym (ap first_tag (not_cut text (missing text is)).1)
