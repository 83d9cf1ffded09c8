-- Numbers in decimal, read again.
use Rattle.std.proofs.Common.{◌≡◌, ◌∙◌, ℕ, ◌+◌, ◌-◌, ◌*◌, ◌^◌, ◌<◌, ◌≤◌, List, [], ◌∷◌, ◌++◌, length, take, drop}
use Rattle.std.proofs.Common.{decimal, Bool, true, false, Some, None, Ok, refl, sym, ap, arith, append_assoc}
use Rattle.std.proofs.Common.{length-append}
use Rattle.std.specs.Prelude.{not, ◌==◌, nat_le, nat_lt, option_map, position}
use Rattle.std.specs.Char.{is_ascii_digit, digit_value}
use Rattle.std.specs.List.{AllByRecursion, fold, list_all, prefix_len, position_or_len}
use Rattle.std.specs.Result.{result_ok}
use Rattle.std.specs.Str.Parse.{AllDigits, digits_value_after}
use Rattle.std.proofs.lemmas.Bool.{cond-true, cond-false, ne_eqb, eq-eqb, le-leb, and_from, lt-ltb}
use Rattle.std.proofs.lemmas.Bool.Decides.{nat_tests}
use Rattle.std.proofs.lemmas.List.{append-nil}
use Rattle.std.proofs.Math.Seq.{take-append_seam, drop-append_seam}
use Rattle.std.proofs.lemmas.Str.{digit_value_digit}
use Rattle.std.proofs.lemmas.Str.Parse.{digit_from_value}
use Rattle.std.proofs.lemmas.Fmt.{decimal_is_IsNumeral}
use Rattle.enum_base.specs.Decimal.{decimal_value, first_non_digit, up_to, unless_at, number_up_to}
use Rattle.zone_token.specs.Addresses.{cut, octet_of}
use Rattle.zone_token.specs.Times.{most_seconds, time_of}
use Rattle.zone_text.proofs.BareLemmas.{is_plain}

-- elements at the front that pass
prefix-all : (p : ℕ → Bool) (xs rest : List ℕ) → AllByRecursion (λ x. p x ≡ true) xs → prefix_len p (xs ++ rest) ≡ length xs + prefix_len p rest
prefix-all p [] rest all = omega arith
prefix-all p (x ∷ xs) rest all =
    let more = prefix-all p xs rest all.1 in cond-true (p x) _ _ all.0 ∙ omega arith

negated : (p : ℕ → Bool) (xs : List ℕ) → AllByRecursion (λ x. p x ≡ false) xs → AllByRecursion (λ x. not (p x) ≡ true) xs
negated p [] all = tt
negated p (x ∷ xs) all = (ap not all.0, negated p xs all.1)

pub position-none : (p : ℕ → Bool) (xs : List ℕ) → AllByRecursion (λ x. p x ≡ false) xs → position p xs ≡ None
position-none p xs all =
    let whole : position_or_len p xs ≡ length xs =
    ap (prefix_len (λ x. not (p x))) (sym (append-nil xs)) ∙ prefix-all (λ x. not (p x)) xs [] (negated p xs all)
    ∙ (let e : length xs + 0 ≡ length xs = omega arith in e) in
    let over : nat_lt (position_or_len p xs) (length xs) ≡ false = rw whole (grind (arith, nat_tests)) in
    cond-false (nat_lt (position_or_len p xs) (length xs)) _ _ over

pub position-at : (p : ℕ → Bool) (xs rest : List ℕ) (x : ℕ) → AllByRecursion (λ x. p x ≡ false) xs → p x ≡ true → position p (xs ++ x ∷ rest) ≡ Some (length xs)
position-at p xs rest x all here =
    let stops : prefix_len (λ y. not (p y)) (x ∷ rest) ≡ 0 = cond-false (not (p x)) _ _ (ap not here) in
    let place : position_or_len p (xs ++ x ∷ rest) ≡ length xs =
    prefix-all (λ y. not (p y)) xs (x ∷ rest) (negated p xs all)
    ∙ (let e : length xs + prefix_len (λ y. not (p y)) (x ∷ rest) ≡ length xs = omega arith in e) in
    let below : length xs < length (xs ++ x ∷ rest) = omega (arith, length-append xs (x ∷ rest)) in
    let within : nat_lt (position_or_len p (xs ++ x ∷ rest)) (length (xs ++ x ∷ rest)) ≡ true = rw place (lt-ltb (length xs) (length (xs ++ x ∷ rest)) below) in
    cond-true (nat_lt (position_or_len p (xs ++ x ∷ rest)) (length (xs ++ x ∷ rest))) _ _ within ∙ ap Some place

-- a text is cut at its first such byte
pub cut-at : (byte : ℕ) (part rest : List ℕ) → AllByRecursion (λ b. (b == byte) ≡ false) part → cut byte (part ++ byte ∷ rest) ≡ Some (part, rest)
unfolding cut
cut-at byte part rest all =
    let text : List ℕ = part ++ byte ∷ rest in
    let after : drop (length part + 1) text ≡ rest =
    ap (λ n. drop n text) (let e : length part + 1 ≡ length (part ++ byte ∷ []) = omega (arith, length-append part (byte ∷ [])) in e)
    ∙ ap (drop (length (part ++ byte ∷ []))) (sym (append_assoc part (byte ∷ []) rest)) ∙ drop-append_seam (part ++ byte ∷ []) rest in
    ap (option_map (λ at. (take at text, drop (at + 1) text))) (position-at (λ b. b == byte) part rest byte all (eq-eqb byte byte refl))
    ∙ ap (λ t. Some (t, drop (length part + 1) text)) (take-append_seam part (byte ∷ rest)) ∙ ap (λ t. Some (part, t)) after

pub cut-none : (byte : ℕ) (text : List ℕ) → AllByRecursion (λ b. (b == byte) ≡ false) text → cut byte text ≡ None
unfolding cut
cut-none byte text all = ap (option_map (λ at. (take at text, drop (at + 1) text))) (position-none (λ b. b == byte) text all)

-- a fact of all digits is one of a number's text
from_digits : (P : ℕ → Type 0) → ((c : ℕ) → 48 ≤ c → c ≤ 57 → P c) → (ds : List ℕ) → AllDigits 10 ds → AllByRecursion P ds
from_digits P each [] h = tt
from_digits P each (c ∷ cs) h = let r = digit_from_value c h.0 in (each c r.0 r.1, from_digits P each cs h.1)

pub of_decimal : (P : ℕ → Type 0) → ((c : ℕ) → 48 ≤ c → c ≤ 57 → P c) → (n : ℕ) → n < 2 ^ 64 → AllByRecursion P (decimal n)
of_decimal P each n fits = from_digits P each (decimal n) (decimal_is_IsNumeral n fits).0.1

pub decimal-some : (n : ℕ) → n < 2 ^ 64 → 0 < length (decimal n)
decimal-some n fits = (decimal_is_IsNumeral n fits).0.0

pub digit_plain : (c : ℕ) → 48 ≤ c → c ≤ 57 → is_plain c ≡ true
digit_plain c low high = grind (arith, nat_tests)

is_digit : (c : ℕ) → 48 ≤ c → c ≤ 57 → is_ascii_digit c ≡ true
is_digit c low high = and_from _ _ (le-leb 48 c low) (le-leb c 57 high)

-- the value of digits
value-after : (ds : List ℕ) (v : ℕ) → AllDigits 10 ds → fold (λ value digit. 10 * value + (digit - 48)) v ds ≡ digits_value_after 10 v ds
value-after [] v h = refl
value-after (c ∷ cs) v h =
    let d = digit_value_digit c (digit_from_value c h.0) in
    let same : 10 * v + (c - 48) ≡ v * 10 + digit_value c = omega arith in
    ap (λ n. fold (λ value digit. 10 * value + (digit - 48)) n cs) same ∙ value-after cs (v * 10 + digit_value c) h.1

-- a number is read from its text
pub number_back : (most n : ℕ) → n ≤ most → n < 2 ^ 64 → number_up_to most (decimal n) ≡ Ok n
number_back most n low fits =
    let text : List ℕ = decimal n in
    let numeral = decimal_is_IsNumeral n fits in
    let some : (length text == 0) ≡ false = ne_eqb (length text) 0 (λ e. omega (arith, e, numeral.0.0)) in
    let none : first_non_digit text ≡ None =
    position-none (λ b. not (is_ascii_digit b)) text
    (of_decimal (λ b. not (is_ascii_digit b) ≡ false) (λ c low high. ap not (is_digit c low high)) n fits) in
    let value : decimal_value text ≡ n = value-after text 0 numeral.0.1 ∙ numeral.1 in
    cond-false (length text == 0) _ _ some ∙ ap (λ o. unless_at o (up_to most (decimal_value text))) none
    ∙ ap (up_to most) value ∙ cond-true (nat_le n most) _ _ (le-leb n most low)

all_pass : (p : ℕ → Bool) (xs : List ℕ) → AllByRecursion (λ x. p x ≡ true) xs → list_all p xs ≡ true
all_pass p [] all = refl
all_pass p (x ∷ xs) all = and_from _ _ all.0 (all_pass p xs all.1)

-- a time is read from its text
pub time_back : (n : ℕ) → n ≤ most_seconds → time_of (decimal n) ≡ Some n
unfolding time_of
time_back n low =
    let fits : n < 2 ^ 64 = omega arith in
    cond-true (list_all is_ascii_digit (decimal n)) _ _ (all_pass is_ascii_digit (decimal n) (of_decimal (λ c. is_ascii_digit c ≡ true) is_digit n fits))
    ∙ ap result_ok (number_back most_seconds n low fits)

pub octet_back : (n : ℕ) → n < 256 → octet_of (decimal n) ≡ Some n
unfolding octet_of
octet_back n small = ap result_ok (number_back 255 n (omega arith) (omega arith))
