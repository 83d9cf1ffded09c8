-- A text is a number or has one fault.
use Rattle.std.proofs.Common.{◌≡◌, ◌⊎◌, inl, inr, ℕ, zero, suc, ◌<◌, ◌≤◌, true, false, cond, ◌||◌, List, [], ◌∷◌, ◌++◌}
use Rattle.std.proofs.Common.{length, take, drop, get_or, Some, refl, sym, ap, subst, ◌∙◌, arith, length-append, Result}
use Rattle.std.proofs.Common.{Ok, Err}
use Rattle.std.specs.Prelude.{slice_get, IfOk, IfErr}
use Rattle.std.proofs.lemmas.List.Elements.{filter-append}
use Rattle.std.proofs.lemmas.Option.{slice_get_within}
use Rattle.std.specs.List.{All}
use Rattle.std.specs.Char.{is_ascii_digit}
use Rattle.enum_app.specs.Number.{IsSpelled, IsNumber, HasNumberFault, digits_of, is_number_byte, is_separator, plus}
use Rattle.enum_app.specs.declared.number.NumberFault.{NumberFault}
use Rattle.enum_app.specs.declared.number.NumberFault.TheVariants.{NoPlus, NoDigit, TooLong, BadChar}

-- what breaks a spelled text at its next byte
abbrev BreaksNumber : List ℕ → ℕ → Type 0
BreaksNumber front byte =
    ((is_ascii_digit byte ≡ true) × (length (digits_of front) ≡ 15)) ⊎ (is_number_byte byte ≡ false)

-- a text is cut before one of its bytes
cut_at : (text : List ℕ) (at byte : ℕ) → slice_get text at ≡ Some byte → text ≡ take at text ++ byte ∷ drop (suc at) text
cut_at [] zero byte e = absurd (cc e)
cut_at [] (suc at) byte e = absurd (cc e)
cut_at (b ∷ text) zero byte e = ap (λ x. x ∷ text) (cc e)
cut_at (b ∷ text) (suc at) byte e = ap (λ x. b ∷ x) (cut_at text at byte e)

slice_get-take : (text : List ℕ) (n at : ℕ) → at < n → slice_get (take n text) at ≡ slice_get text at
slice_get-take text zero at h = absurd (omega arith)
slice_get-take [] (suc n) at h = refl
slice_get-take (b ∷ text) (suc n) zero h = refl
slice_get-take (b ∷ text) (suc n) (suc at) h = slice_get-take text n at (omega arith)

take-take_less : (text : List ℕ) (n m : ℕ) → n ≤ m → take n (take m text) ≡ take n text
take-take_less text zero m h = refl
take-take_less text (suc n) zero h = absurd (omega arith)
take-take_less [] (suc n) (suc m) h = refl
take-take_less (b ∷ text) (suc n) (suc m) h = ap (λ x. b ∷ x) (take-take_less text n m (omega arith))

-- a front with a sign is not empty
some_front : (text : List ℕ) (at : ℕ) → IsSpelled (take at text) → 0 < at
some_front text zero s = absurd (cc s.sign)
some_front text (suc at) s = omega arith

sign_of_front : (text : List ℕ) (at : ℕ) → IsSpelled (take at text) → slice_get text 0 ≡ Some plus
sign_of_front text at s = sym (slice_get-take text at 0 (some_front text at s)) ∙ s.sign

after_first : (b : ℕ) (rest front back : List ℕ) (byte : ℕ) → All (λ x. is_number_byte x ≡ true) rest → rest ≡ front ++ byte ∷ back → is_number_byte byte ≡ true
after_first b rest [] back byte all e =
    let h : is_number_byte (get_or rest 0 0) ≡ true = all 0 0 (omega (arith, ap length e)) in
    subst (λ x. is_number_byte (get_or x 0 0) ≡ true) e h
after_first b [] (c ∷ front) back byte all e = absurd (cc e)
after_first b (d ∷ rest) (c ∷ front) back byte all e =
    after_first b rest front back byte (λ k x h. all (suc k) x (omega arith)) (cc e)

number_byte : (text front back : List ℕ) (byte : ℕ) → IsSpelled text → text ≡ front ++ byte ∷ back → 0 < length front → is_number_byte byte ≡ true
number_byte text [] back byte s e some = absurd (omega arith)
number_byte [] (c ∷ front) back byte s e some = absurd (cc e)
number_byte (b ∷ text) (c ∷ front) back byte s e some = after_first b text front back byte s.bytes (cc e)

count_front : (text front back : List ℕ) (byte : ℕ) → text ≡ front ++ byte ∷ back → is_ascii_digit byte ≡ true
    → length (digits_of front) < length (digits_of text)
count_front text front back byte e digit =
    let all : digits_of text ≡ digits_of front ++ digits_of (byte ∷ back) = ap digits_of e ∙ filter-append is_ascii_digit front (byte ∷ back) in
    let one : digits_of (byte ∷ back) ≡ byte ∷ digits_of back = ap (λ t. cond t (byte ∷ digits_of back) (digits_of back)) digit in
    omega (arith, ap length all, length-append (digits_of front) (digits_of (byte ∷ back)), ap length one)

length_front : (text : List ℕ) (at byte : ℕ) → slice_get text at ≡ Some byte → 0 < at → 0 < length (take at text)
length_front [] at byte e some = absurd (omega (arith, slice_get_within [] at byte e))
length_front (b ∷ text) zero byte e some = absurd (omega arith)
length_front (b ∷ text) (suc at) byte e some = omega arith

-- a spelled text has no byte that breaks it
no_break : (text : List ℕ) (at byte : ℕ) → IsSpelled text → IsSpelled (take at text) → slice_get text at ≡ Some byte → BreaksNumber (take at text) byte → ⊥
no_break text at byte s front here (inl h) =
    let fewer : length (digits_of (take at text)) < length (digits_of text) =
    count_front text (take at text) (drop (suc at) text) byte (cut_at text at byte here) h.0 in
    let most = s.most in
    absurd (omega arith)
no_break text at byte s front here (inr h) =
    let good : is_number_byte byte ≡ true =
    number_byte text (take at text) (drop (suc at) text) byte s (cut_at text at byte here)
    (length_front text at byte here (some_front text at front)) in
    absurd (cc)

-- .. nor has a longer front that is spelled
no_break_before : (text : List ℕ) (at later byte : ℕ) → at < later → IsSpelled (take later text)
    → IsSpelled (take at text) → slice_get text at ≡ Some byte → BreaksNumber (take at text) byte → ⊥
no_break_before text at later byte less whole front here breaks =
    let same : take at (take later text) ≡ take at text = take-take_less text at later (omega arith) in
    no_break (take later text) at byte whole (subst IsSpelled (sym same) front)
    (slice_get-take text later at less ∙ here) (subst (λ f. BreaksNumber f byte) (sym same) breaks)

less_or_same : (n m : ℕ) → (n < m) ⊎ (n ≡ m) ⊎ (m < n)
less_or_same n m = grind arith

-- a text breaks at one place
one_place : (text : List ℕ) (at other byte byte' : ℕ) → IsSpelled (take at text) → slice_get text at ≡ Some byte
    → BreaksNumber (take at text) byte → IsSpelled (take other text) → slice_get text other ≡ Some byte'
    → BreaksNumber (take other text) byte' → at ≡ other
one_place text at other byte byte' s h b s' h' b' =
    elim (less_or_same at other) [
      | inl less ↦ absurd (no_break_before text at other byte less s' s h b)
      | inr (inl same) ↦ same
      | inr (inr less) ↦ absurd (no_break_before text other at byte' less s s' h' b')
    ]

-- a number has no fault
pub no_fault : (text : List ℕ) (fault : NumberFault) → IsNumber text → HasNumberFault text fault → ⊥
no_fault text NoPlus n h = h n.spelled.sign
no_fault text NoDigit n h = let some = n.some in absurd (omega (arith, ap length h.1))
no_fault text (TooLong at) n h = no_break text at h.byte n.spelled h.front h.here (inl h.breaks)
no_fault text (BadChar at) n h = no_break text at h.byte n.spelled h.front h.here (inr h.breaks)

-- a byte does not break a text in two ways
one_way : (byte byte' : ℕ) (text : List ℕ) (at at' : ℕ) → at ≡ at' → slice_get text at ≡ Some byte
    → slice_get text at' ≡ Some byte' → is_ascii_digit byte ≡ true → is_number_byte byte' ≡ false → ⊥
one_way byte byte' text at at' e h h' digit bad =
    let same : byte ≡ byte' = cc in
    let good : is_number_byte byte ≡ true = ap (λ t. t || is_separator byte) digit in
    absurd (cc)

-- a text has one fault
pub one_fault : (text : List ℕ) (one other : NumberFault) → HasNumberFault text one → HasNumberFault text other → one ≡ other
one_fault text NoPlus NoPlus h k = refl
one_fault text NoPlus NoDigit h k = absurd (h k.0.sign)
one_fault text NoPlus (TooLong at) h k = absurd (h (sign_of_front text at k.front))
one_fault text NoPlus (BadChar at) h k = absurd (h (sign_of_front text at k.front))
one_fault text NoDigit NoPlus h k = absurd (k h.0.sign)
one_fault text NoDigit NoDigit h k = refl
one_fault text NoDigit (TooLong at) h k = absurd (no_break text at k.byte h.0 k.front k.here (inl k.breaks))
one_fault text NoDigit (BadChar at) h k = absurd (no_break text at k.byte h.0 k.front k.here (inr k.breaks))
one_fault text (TooLong at) NoPlus h k = absurd (k (sign_of_front text at h.front))
one_fault text (TooLong at) NoDigit h k = absurd (no_break text at h.byte k.0 h.front h.here (inl h.breaks))
one_fault text (TooLong at) (TooLong at') h k =
    ap TooLong (one_place text at at' h.byte k.byte h.front h.here (inl h.breaks) k.front k.here (inl k.breaks))
one_fault text (TooLong at) (BadChar at') h k =
    absurd (one_way h.byte k.byte text at at'
    (one_place text at at' h.byte k.byte h.front h.here (inl h.breaks) k.front k.here
    (inr k.breaks)) h.here k.here h.breaks.0 k.breaks)
one_fault text (BadChar at) NoPlus h k = absurd (k (sign_of_front text at h.front))
one_fault text (BadChar at) NoDigit h k = absurd (no_break text at h.byte k.0 h.front h.here (inr h.breaks))
one_fault text (BadChar at) (TooLong at') h k =
    absurd (one_way k.byte h.byte text at' at
    (one_place text at' at k.byte h.byte k.front k.here (inl k.breaks) h.front h.here
    (inr h.breaks)) k.here h.here k.breaks.0 h.breaks)
one_fault text (BadChar at) (BadChar at') h k =
    ap BadChar (one_place text at at' h.byte k.byte h.front h.here (inr h.breaks) k.front k.here (inr k.breaks))

-- what is no fault of a text is a number, and the other way round

pub each_number : (text : List ℕ) (result : Result (List ℕ) NumberFault) → IfOk result (λ n. n ≡ digits_of text)
    → IfErr result (HasNumberFault text) → IsNumber text → result ≡ Ok (digits_of text)
each_number text (Ok n) is fault number = ap (λ (d : List ℕ). Ok d) is
each_number text (Err f) is fault number = absurd (no_fault text f number fault)

pub each_fault : (text : List ℕ) (result : Result (List ℕ) NumberFault) → IfOk result (λ n. IsNumber text)
    → IfErr result (HasNumberFault text) → (other : NumberFault) → HasNumberFault text other → result ≡ Err other
each_fault text (Ok n) number is other fault = absurd (no_fault text other number fault)
each_fault text (Err f) number is other fault = ap (λ (e : NumberFault). Err e) (one_fault text f other is fault)
