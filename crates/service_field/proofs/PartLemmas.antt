-- Parts have no fault exactly where each is what it is to be.
use Rattle.std.proofs.Common.{◌≡◌, ℕ, ◌+◌, ◌<◌, ◌≤◌, Bool, true, false, not, ◌==◌, cond, nat_lt, List, [], ◌∷◌, ◌++◌}
use Rattle.std.proofs.Common.{length, map, ◌||◌, Option, Some, None, refl, sym, ap, ◌∙◌, subst, inl, inr, arith}
use Rattle.std.proofs.lemmas.Bool.{cases_lt, ltb-false, le-ltb, ne_eqb, true≢false, cond-false}
use Rattle.std.proofs.lemmas.List.Elements.{All-append, All-cons, All-head, All-nil, All-tail, All-weaker}
use Rattle.std.proofs.lemmas.List.Splits.{join_with_byte-slice_split, slice_split_none}
use Rattle.std.proofs.lemmas.List.Sums.{prefix_len-le-length, prefix_len_is, prefix_len_passes}
use Rattle.std.specs.List.{All, after_first, before_first, flat_map, join_with_byte, position_or_len, slice_split}
use Rattle.std.specs.Option.{option_or}
use Rattle.service_field.specs.Tags.{IsItem, IsPair, IsTag, begins_tag, colon, cut_once, is_tag_byte, items_of, tags_of}
use Rattle.service_field.specs.Faults.{fault_by_run, pair_fault, parts_fault, run_of, tag_fault}
use Rattle.service_field.specs.declared.alphabet.Alphabet.{Alphabet}
use Rattle.service_field.specs.declared.alphabet.Alphabet.TheVariants.{Snaptr}
use Rattle.service_field.specs.declared.fault.ServiceFault.{ServiceFault}
use Rattle.service_field.specs.declared.fault.ServiceFault.TheVariants.{BadTag, TagTooLong, Trailing}
use Rattle.service_field.proofs.SplitLemmas.{Lacks, cut, cut_twice, some_part}
use Rattle.service_field.proofs.TagLemmas.{is_cut, not_cut}

-- a text has no fault as a tag exactly where it is one

record Fills (size run : ℕ) : Type 0 where
  short : run ≤ 32
  whole : size ≤ run

by_tests : (at size run : ℕ) (y z : Bool) → nat_lt 32 run ≡ y → nat_lt run size ≡ z
    → ◌≡◌ {A = Option ServiceFault} (cond y (Some (TagTooLong at)) (cond z (Some (Trailing (at + run))) None)) None
    → Fills size run
by_tests at size run true z is_y is_z none = absurd (cc)
by_tests at size run false true is_y is_z none = absurd (cc)
by_tests at size run false false is_y is_z none = record {
  short = omega (arith, ltb-false 32 run is_y);
  whole = omega (arith, ltb-false run size is_z);
}

by_first : (at : ℕ) (o : Option ServiceFault) (x : Bool) → cond (not x) (Some (BadTag at)) o ≡ None → (x ≡ true) × (o ≡ None)
by_first at o true none = (refl, none)
by_first at o false none = absurd (cc)

not_not : (b : Bool) → not (not b) ≡ b
not_not true = refl
not_not false = refl

pub tag_of_part : (alphabet : Alphabet) (at : ℕ) (part : List ℕ) → tag_fault alphabet at part ≡ None → IsTag alphabet part
tag_of_part alphabet at part none =
    let run : ℕ = run_of alphabet part in
    let first = by_first at (fault_by_run at (length part) run) (begins_tag alphabet part) none in
    let fills : Fills (length part) run = by_tests at (length part) run (nat_lt 32 run) (nat_lt run (length part)) refl refl first.1 in
    let test : ℕ → Bool = λ b. not (not (is_tag_byte alphabet b)) in
    record {
      first = first.0;
      bytes = λ k d below. sym (not_not _) ∙ prefix_len_passes test part k d (omega (arith, below, fills.whole));
      short = omega (arith, fills.short, fills.whole);
    }

filled : (at size run : ℕ) → Fills size run → fault_by_run at size run ≡ None
filled at size run fills =
    cond-false (nat_lt 32 run) (Some (TagTooLong at)) _ (le-ltb 32 run fills.short)
    ∙ cond-false (nat_lt run size) (Some (Trailing (at + run))) None (le-ltb run size fills.whole)

pub part_of_tag : (alphabet : Alphabet) (at : ℕ) (part : List ℕ) → IsTag alphabet part → tag_fault alphabet at part ≡ None
part_of_tag alphabet at part tag =
    let test : ℕ → Bool = λ b. not (not (is_tag_byte alphabet b)) in
    let whole : run_of alphabet part ≡ length part =
    prefix_len_is test part (length part) 0 (omega arith) (λ k below. not_not _ ∙ tag.bytes k 0 below) (λ below. absurd (omega (arith, below))) in
    ap (λ x. cond (not x) (Some (BadTag at)) (fault_by_run at (length part) (run_of alphabet part))) tag.first
    ∙ filled at (length part) (run_of alphabet part) (record { short = omega (arith, whole, tag.short); whole = omega (arith, whole) })

-- a tag has a byte
some_of_first : (alphabet : Alphabet) (tag : List ℕ) → begins_tag alphabet tag ≡ true → 0 < length tag
some_of_first alphabet [] first = absurd (cc)
some_of_first alphabet (b ∷ tag) first = omega arith

pub tag_some : (alphabet : Alphabet) (tag : List ℕ) → IsTag alphabet tag → 0 < length tag
tag_some alphabet tag is = some_of_first alphabet tag is.first

-- parts have no fault exactly where none has one

first_none : (o p : Option ServiceFault) → option_or o p ≡ None → (o ≡ None) × (p ≡ None)
first_none None p is = (refl, is)
first_none (Some f) p is = absurd (cc)

pub all_of_none : (fault : ℕ → List ℕ → Option ServiceFault) (P : List ℕ → Type 0)
    → ((at : ℕ) (part : List ℕ) → fault at part ≡ None → P part) → (at : ℕ) (parts : List (List ℕ))
    → parts_fault fault at parts ≡ None → All P parts
all_of_none fault P each at [] none = All-nil P
all_of_none fault P each at (part ∷ parts) none =
    let both = first_none (fault at part) (parts_fault fault (at + (length part + 1)) parts) none in
    All-cons P part parts (each at part both.0) (all_of_none fault P each (at + (length part + 1)) parts both.1)

pub none_of_all : (fault : ℕ → List ℕ → Option ServiceFault) (P : List ℕ → Type 0)
    → ((at : ℕ) (part : List ℕ) → P part → fault at part ≡ None) → (at : ℕ) (parts : List (List ℕ)) → All P parts
    → parts_fault fault at parts ≡ None
none_of_all fault P each at [] all = refl
none_of_all fault P each at (part ∷ parts) all =
    ap (λ o. option_or o (parts_fault fault (at + (length part + 1)) parts)) (each at part (All-head P part parts all))
    ∙ none_of_all fault P each (at + (length part + 1)) parts (All-tail P part parts all)

pub tags_of_parts : (alphabet : Alphabet) (at : ℕ) (parts : List (List ℕ)) → parts_fault (tag_fault alphabet) at parts ≡ None → All (IsTag alphabet) parts
tags_of_parts alphabet at parts none = all_of_none (tag_fault alphabet) (IsTag alphabet) (tag_of_part alphabet) at parts none

pub parts_of_tags : (alphabet : Alphabet) (at : ℕ) (parts : List (List ℕ)) → All (IsTag alphabet) parts → parts_fault (tag_fault alphabet) at parts ≡ None
parts_of_tags alphabet at parts tags = none_of_all (tag_fault alphabet) (IsTag alphabet) (part_of_tag alphabet) at parts tags

-- a tag lacks what is no byte of a tag
pub tag_lacks : (alphabet : Alphabet) (byte : ℕ) → is_tag_byte alphabet byte ≡ false → (tag : List ℕ) → IsTag alphabet tag → Lacks byte tag
tag_lacks alphabet byte outside tag is =
    All-weaker (λ b. is_tag_byte alphabet b ≡ true) (λ b. (b == byte) ≡ false)
    (λ b inside. ne_eqb b byte (λ e. true≢false (sym inside ∙ ap (is_tag_byte alphabet) e ∙ outside))) tag is.bytes

-- a text has no fault as a pair exactly where its tags are a service and at most one protocol

one_tag : (tag : List ℕ) → IsTag Snaptr tag → IsPair (tag ∷ [])
one_tag tag is = record {
  is = record { tags = All-cons (IsTag Snaptr) tag [] is (All-nil (IsTag Snaptr)); some = omega arith };
  most = omega arith;
}

two_tags : (tag other : List ℕ) → IsTag Snaptr tag → IsTag Snaptr other → IsPair (tag ∷ other ∷ [])
two_tags tag other is also = record {
  is = record { tags = All-cons (IsTag Snaptr) tag (other ∷ []) is (All-cons (IsTag Snaptr) other [] also (All-nil (IsTag Snaptr))); some = omega arith };
  most = omega arith;
}

pub pair_of_part : (at : ℕ) (part : List ℕ) → pair_fault at part ≡ None → IsPair (tags_of part)
pair_of_part at part none =
    let tags : All (IsTag Snaptr) (cut_once part) = tags_of_parts Snaptr at (cut_once part) none in
    elim (cases_lt (position_or_len (λ b. b == colon) part) (length part)) [
      | inl less ↦
          let service : List ℕ = before_first (λ b. b == colon) part in
          let protocol : List ℕ = after_first (λ b. b == colon) part in
          let is = is_cut part less in
          let both : All (IsTag Snaptr) (service ∷ protocol ∷ []) = subst (All (IsTag Snaptr)) is.0 tags in
          let last : IsTag Snaptr protocol = All-head (IsTag Snaptr) protocol [] (All-tail (IsTag Snaptr) service (protocol ∷ []) both) in
          let single : tags_of protocol ≡ protocol ∷ [] = slice_split_none (λ b. b == colon) protocol (tag_lacks Snaptr colon refl protocol last) in
          subst IsPair (sym (is.1 ∙ ap (λ l. service ∷ l) single)) (two_tags service protocol (All-head (IsTag Snaptr) service (protocol ∷ []) both) last)
      | inr past ↦
          let whole : position_or_len (λ b. b == colon) part ≡ length part = omega (arith, past, prefix_len-le-length (λ x. not (x == colon)) part) in
          let is = not_cut part whole in
          subst IsPair (sym is.1) (one_tag part (All-head (IsTag Snaptr) part [] (subst (All (IsTag Snaptr)) is.0 tags)))
    ]

-- a text that is one tag is that tag
only_tag : (text : List ℕ) (tags : List (List ℕ)) → tags_of text ≡ tags → 0 < length tags → length tags ≤ 1 → tags ≡ text ∷ []
only_tag text [] is some most = absurd (omega (arith, some))
only_tag text (tag ∷ other ∷ tags) is some most = absurd (omega (arith, most))
only_tag text (tag ∷ []) is some most = ap (λ t. t ∷ []) (sym (ap (join_with_byte colon) is) ∙ join_with_byte-slice_split colon text)

pub part_of_pair : (at : ℕ) (part : List ℕ) → IsPair (tags_of part) → pair_fault at part ≡ None
part_of_pair at part pair =
    elim (cases_lt (position_or_len (λ b. b == colon) part) (length part)) [
      | inl less ↦
          let service : List ℕ = before_first (λ b. b == colon) part in
          let protocol : List ℕ = after_first (λ b. b == colon) part in
          let is = is_cut part less in
          let size : length (tags_of protocol) + 1 ≤ 2 = omega (arith, ap length is.1, pair.most) in
          let single : tags_of protocol ≡ protocol ∷ [] =
          only_tag protocol (tags_of protocol) refl (some_part (λ b. b == colon) protocol) (omega (arith, size)) in
          parts_of_tags Snaptr at (cut_once part) (subst (All (IsTag Snaptr)) (is.1 ∙ ap (λ l. service ∷ l) single ∙ sym is.0) pair.is.tags)
      | inr past ↦
          let whole : position_or_len (λ b. b == colon) part ≡ length part = omega (arith, past, prefix_len-le-length (λ x. not (x == colon)) part) in
          let is = not_cut part whole in
          parts_of_tags Snaptr at (cut_once part) (subst (All (IsTag Snaptr)) (is.1 ∙ sym is.0) pair.is.tags)
    ]

-- all of a front, and of what stands after it

All-front : (P : List ℕ → Type 0) (xs ys : List (List ℕ)) → All P (xs ++ ys) → All P xs
All-front P [] ys each = All-nil P
All-front P (x ∷ xs) ys each = All-cons P x xs (All-head P x (xs ++ ys) each) (All-front P xs ys (All-tail P x (xs ++ ys) each))

All-back : (P : List ℕ → Type 0) (xs ys : List (List ℕ)) → All P (xs ++ ys) → All P ys
All-back P [] ys each = each
All-back P (x ∷ xs) ys each = All-back P xs ys (All-tail P x (xs ++ ys) each)

items_of_tags : (alphabet : Alphabet) (texts : List (List ℕ)) → All (IsTag alphabet) (flat_map tags_of texts) → All (IsItem alphabet) (map tags_of texts)
items_of_tags alphabet [] tags = All-nil (IsItem alphabet)
items_of_tags alphabet (t ∷ ts) tags =
    All-cons (IsItem alphabet) (tags_of t) (map tags_of ts)
    (record { tags = All-front (IsTag alphabet) (tags_of t) (flat_map tags_of ts) tags; some = some_part (λ b. b == colon) t })
    (items_of_tags alphabet ts (All-back (IsTag alphabet) (tags_of t) (flat_map tags_of ts) tags))

tags_of_items : (alphabet : Alphabet) (texts : List (List ℕ)) → All (IsItem alphabet) (map tags_of texts) → All (IsTag alphabet) (flat_map tags_of texts)
tags_of_items alphabet [] items = All-nil (IsTag alphabet)
tags_of_items alphabet (t ∷ ts) items =
    All-append (IsTag alphabet) (tags_of t) (flat_map tags_of ts) (All-head (IsItem alphabet) (tags_of t) (map tags_of ts) items).tags
    (tags_of_items alphabet ts (All-tail (IsItem alphabet) (tags_of t) (map tags_of ts) items))

-- tags between colons and separators have no fault exactly where the items between separators are items

pub items_without_fault : (alphabet : Alphabet) (separator at : ℕ) (text : List ℕ)
    → parts_fault (tag_fault alphabet) at (slice_split (λ b. b == colon || b == separator) text) ≡ None
    → All (IsItem alphabet) (items_of separator text)
items_without_fault alphabet separator at text none =
    items_of_tags alphabet (cut separator text)
    (subst (All (IsTag alphabet)) (cut_twice (λ b. b == colon) (λ b. b == separator) text) (tags_of_parts alphabet at _ none))

pub no_fault_of_items : (alphabet : Alphabet) (separator at : ℕ) (text : List ℕ)
    → All (IsItem alphabet) (items_of separator text)
    → parts_fault (tag_fault alphabet) at (slice_split (λ b. b == colon || b == separator) text) ≡ None
no_fault_of_items alphabet separator at text items =
    ap (parts_fault (tag_fault alphabet) at) (cut_twice (λ b. b == colon) (λ b. b == separator) text)
    ∙ parts_of_tags alphabet at _ (tags_of_items alphabet (cut separator text) items)
