-- Digits that decode are bytes in hexadecimal, and no others are.
use Rattle.std.proofs.Common.{◌≡◌, ◌⊎◌, inl, inr, ℕ, zero, suc, ◌+◌, ◌*◌, ◌/◌, ◌%◌, ◌<◌, ◌≤◌, ◌==◌, Bool, true, false}
use Rattle.std.proofs.Common.{◌&&◌, ◌||◌, List, [], ◌∷◌, length, slice_index, Option, Some, None, Result, Ok, Err, refl}
use Rattle.std.proofs.Common.{sym, ap, subst, ◌∙◌, arith}
use Rattle.std.specs.Prelude.{not}
use Rattle.std.specs.List.{AllPass}
use Rattle.std.proofs.lemmas.Bool.{and_parts, cases_lt, eqb-true}
use Rattle.std.proofs.lemmas.List.{length-map}
use Rattle.std.proofs.lemmas.List.Elements.{All-cons, All-head, All-nil, All-tail}
use Rattle.enum_base.specs.Folding.{folded, folded_byte}
use Rattle.hex.specs.Hex.{decode_of, decode_pairs, digit_or_error, encode_with, hex_digit_value, is_hex_digit, lower_digits, pair_value, value_at, ◌>>=◌}
use Rattle.hex.specs.declared.error.FromHexError.{FromHexError}
use Rattle.hex.specs.declared.error.FromHexError.TheVariants.{OutOfMemory}
use Rattle.hex.proofs.HexLemmas.{decode_of-digits, decode_of-encode_lower, decode_of-even, decode_of-ok}
use Rattle.enum_top.specs.Showing.{IsHex}

-- a test of each number below one
abbrev all_below : (ℕ → Bool) → ℕ → Bool
all_below test zero = true
all_below test (suc n) = test n && all_below test n

all_below-at : (test : ℕ → Bool) (n k : ℕ) → all_below test n ≡ true → k < n → test k ≡ true
all_below-at test zero k h less = absurd (omega arith)
all_below-at test (suc n) k h less =
    let parts = and_parts (test n) (all_below test n) h in
    elim (cases_lt k n) [
      | inl below ↦ all_below-at test n k parts.1 below
      | inr top ↦ let e : k ≡ n = omega arith in rw e parts.0
    ]

-- a digit is the small digit of its value

abbrev is_small_of : ℕ → Option ℕ → Bool
is_small_of digit None = true
is_small_of digit (Some value) = slice_index lower_digits value == folded_byte digit

digit_below : (digit value : ℕ) → hex_digit_value digit ≡ Some value → digit < 103
digit_below digit value is = grind (arith)

value_below : (digit value : ℕ) → hex_digit_value digit ≡ Some value → value < 16
value_below digit value is = grind (arith)

small_digit : (digit value : ℕ) → hex_digit_value digit ≡ Some value → slice_index lower_digits value ≡ folded_byte digit
small_digit digit value is =
    let passes = all_below-at (λ c. is_small_of c (hex_digit_value c)) 103 digit refl (digit_below digit value is) in
    eqb-true (slice_index lower_digits value) (folded_byte digit) (subst (λ (found : Option ℕ). is_small_of digit found ≡ true) is passes)

-- .. and the digits of a byte are those of its halves
high_digit : (digit high low : ℕ) → hex_digit_value digit ≡ Some high → low < 16 → folded_byte digit ≡ slice_index lower_digits ((high * 16 + low) / 16)
high_digit digit high low is below =
    let half : (high * 16 + low) / 16 ≡ high = omega arith in
    sym (small_digit digit high is) ∙ ap (slice_index lower_digits) (sym half)

low_digit : (digit high low : ℕ) → hex_digit_value digit ≡ Some low → folded_byte digit ≡ slice_index lower_digits ((high * 16 + low) % 16)
low_digit digit high low is =
    let below = value_below digit low is in
    let half : (high * 16 + low) % 16 ≡ low = omega (arith, below) in
    sym (small_digit digit low is) ∙ ap (slice_index lower_digits) (sym half)

-- what is read in steps

both_steps : {A B : Type 0} (first : Result A FromHexError) (next : A → Result B FromHexError) (value : B)
    → (first >>= next) ≡ Ok value → (x : A) × (first ≡ Ok x) × (next x ≡ Ok value)
both_steps (Ok x) next value h = (x, refl, h)
both_steps (Err e) next value h = absurd (cc h)

digit_read : (digit place : ℕ) (found : Option ℕ) (value : ℕ) → digit_or_error digit place found ≡ Ok value → found ≡ Some value
digit_read digit place (Some v) value h = ap Some (cc h)
digit_read digit place None value h = absurd (cc h)

pairs_spelled : (place : ℕ) (digits bytes : List ℕ) → decode_pairs place digits ≡ Ok bytes → folded digits ≡ encode_with lower_digits bytes
unfolding decode_pairs encode_with
pairs_spelled place [] bytes h = let e : [] ≡ bytes = cc h in ap (encode_with lower_digits) e
pairs_spelled place (a ∷ []) bytes h = absurd (cc h)
pairs_spelled place (a ∷ b ∷ rest) bytes h =
    let whole = both_steps (pair_value a b place) _ bytes h in
    let first = both_steps (value_at a place) _ whole.0 whole.1 in
    let second = both_steps (value_at b (place + 1)) _ whole.0 first.2 in
    let more = both_steps (decode_pairs (place + 2) rest) _ bytes whole.2 in
    let high = digit_read a place (hex_digit_value a) first.0 first.1 in
    let low = digit_read b (place + 1) (hex_digit_value b) second.0 second.1 in
    let byte : first.0 * 16 + second.0 ≡ whole.0 = cc second.2 in
    let all : whole.0 ∷ more.0 ≡ bytes = cc more.2 in
    cc (
      high_digit a first.0 second.0 high (value_below b second.0 low),
      low_digit b first.0 second.0 low,
      pairs_spelled (place + 2) rest more.0 more.1,
    ) ∙ ap (λ (x : ℕ). encode_with lower_digits (x ∷ more.0)) byte
    ∙ ap (encode_with lower_digits) all

-- digits that decode are the bytes in hexadecimal
pub hex_of_decoded : (digits bytes : List ℕ) → decode_of digits ≡ Ok bytes → IsHex digits bytes
hex_of_decoded digits bytes h =
    let parts = decode_of-ok digits bytes h in
    record { in_range = parts.3; spelled = pairs_spelled 0 digits bytes (sym (decode_of-even digits parts.0) ∙ h) }

-- digits are those of one list of bytes at most
pub one_hex : (digits one other : List ℕ) → IsHex digits one → IsHex digits other → one ≡ other
one_hex digits one other h k =
    cc (sym (decode_of-encode_lower one h.in_range) ∙ ap decode_of (sym h.spelled ∙ k.spelled) ∙ decode_of-encode_lower other k.in_range)

-- a capital digit is a digit as its small one is

folded_above : (byte : ℕ) → 91 ≤ byte → folded_byte byte ≡ byte
folded_above byte above = grind (arith)

digit_of_small : (byte : ℕ) → is_hex_digit (folded_byte byte) ≡ true → is_hex_digit byte ≡ true
digit_of_small byte is =
    elim (cases_lt byte 91) [
      | inl below ↦
          implied (is_hex_digit (folded_byte byte)) (is_hex_digit byte)
          (all_below-at (λ c. not (is_hex_digit (folded_byte c)) || is_hex_digit c) 91 byte refl below) is
      | inr above ↦ subst (λ (c : ℕ). is_hex_digit c ≡ true) (folded_above byte (omega arith)) is
    ]
  where
    implied : (t u : Bool) → (not t || u) ≡ true → t ≡ true → u ≡ true
    implied true u h is = h
    implied false u h is = absurd (cc is)

digits_of_small : (digits : List ℕ) → AllPass is_hex_digit (folded digits) → AllPass is_hex_digit digits
digits_of_small [] h = All-nil (λ c. is_hex_digit c ≡ true)
digits_of_small (digit ∷ rest) h =
    All-cons (λ c. is_hex_digit c ≡ true) digit rest
    (digit_of_small digit (All-head (λ c. is_hex_digit c ≡ true) (folded_byte digit) (folded rest) h))
    (digits_of_small rest (All-tail (λ c. is_hex_digit c ≡ true) (folded_byte digit) (folded rest) h))

-- digits that are bytes in hexadecimal decode
pub hex_decodes : (digits bytes : List ℕ) → IsHex digits bytes → (found : List ℕ) × (decode_of digits ≡ Ok found)
hex_decodes digits bytes h =
    let small = decode_of-ok (folded digits) bytes (ap decode_of h.spelled ∙ decode_of-encode_lower bytes h.in_range) in
    let even : length digits % 2 ≡ 0 = subst (λ n. n % 2 ≡ 0) (length-map digits folded_byte) small.0 in
    decode_of-digits digits even (digits_of_small digits small.1)

-- .. so what is refused, but for memory, is none
pub no_hex : (digits : List ℕ) (fault : FromHexError) → (fault ≡ OutOfMemory → ⊥)
    → (fault ≡ OutOfMemory) ⊎ (decode_of digits ≡ Err fault) → (bytes : List ℕ) × IsHex digits bytes → ⊥
no_hex digits fault known (inl wanting) h = known wanting
no_hex digits fault known (inr refused) (bytes, hex) = let found = hex_decodes digits bytes hex in cc (sym refused ∙ found.1)
