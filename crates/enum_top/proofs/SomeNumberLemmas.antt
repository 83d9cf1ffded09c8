-- A text is a telephone number, or has a fault.
use Rattle.std.proofs.Common.{◌≡◌, ◌⊎◌, inl, inr, ℕ, zero, suc, ◌+◌, ◌<◌, ◌≤◌, ◌==◌, ◌||◌, Bool, true, false, List, []}
use Rattle.std.proofs.Common.{◌∷◌, length, set, get_or, refl, sym, ap, subst, ◌∙◌, arith}
use Rattle.std.proofs.lemmas.Bool.{eqb-true, eqb-false}
use Rattle.std.proofs.lemmas.List.{take_all}
use Rattle.std.proofs.lemmas.Option.{slice_get-get_or}
use Rattle.std.specs.Char.{is_ascii_digit}
use Rattle.enum_app.proofs.NumberLemmas.{IsRead, IsRead-digit, IsRead-separator}
use Rattle.enum_app.specs.Number.{IsSpelled, IsNumber, HasNumberFault, digits_of, is_separator, plus}
use Rattle.enum_app.specs.declared.number.NumberFault.{NumberFault}
use Rattle.enum_app.specs.declared.number.NumberFault.TheVariants.{NoPlus, NoDigit, TooLong, BadChar}
use Rattle.enum_base.specs.Padding.{padded}

abbrev pub NumberOrFault : List ℕ → Type 0
NumberOrFault text = IsNumber text ⊎ ((fault : NumberFault) × HasNumberFault text fault)

at_end : (text row : List ℕ) (at len : ℕ) → IsRead text row at len → at ≡ length text → NumberOrFault text
at_end text row at len read e = by (digits_of text) refl
  where
    whole : IsSpelled text
    whole = subst IsSpelled (take_all at text (omega (arith, e))) read.spelled

    by : (digits : List ℕ) → digits_of text ≡ digits → NumberOrFault text
    by [] f = inr (NoDigit, (whole, f))
    by (d ∷ ds) f = inl (record { spelled = whole; some = omega (arith, ap length f) })

full_or_not : (n : ℕ) → (n < 15) ⊎ (15 ≤ n)
full_or_not n = grind arith

-- what was read up to a place goes on, or breaks there
module _ (text row : List ℕ) (at len : ℕ) (some : 1 ≤ at) (within : at < length text) (read : IsRead text row at len)
    (on : (row' : List ℕ) (len' : ℕ) → IsRead text row' (at + 1) len' → NumberOrFault text) where
  digit_at : is_ascii_digit (get_or text at 0) ≡ true → (len < 15) ⊎ (15 ≤ len) → NumberOrFault text
  digit_at digit (inl room) = on (set row len (get_or text at 0)) (len + 1) (IsRead-digit text row at len some within read digit room)
  digit_at digit (inr full) =
      let most = read.spelled.most in
      let count = read.count in
      inr (
        TooLong at,
        record {
          front = read.spelled;
          byte = get_or text at 0;
          here = slice_get-get_or text at 0 within;
          breaks = (digit, omega (arith, full, most, count));
        },
      )

  byte_at : (d s : Bool) → is_ascii_digit (get_or text at 0) ≡ d → is_separator (get_or text at 0) ≡ s → NumberOrFault text
  byte_at true s digit e = digit_at digit (full_or_not len)
  byte_at false true digit e = on row len (IsRead-separator text row at len some within read digit e)
  byte_at false false digit e = inr (
    BadChar at,
    record {
      front = read.spelled;
      byte = get_or text at 0;
      here = slice_get-get_or text at 0 within;
      breaks = ap (λ t. t || is_separator (get_or text at 0)) digit ∙ e;
    },
  )

from : (text : List ℕ) (n at : ℕ) (row : List ℕ) (len : ℕ) → 1 ≤ at → at + n ≡ length text → IsRead text row at len → NumberOrFault text
from text zero at row len some e read = at_end text row at len read (omega (arith, e))
from text (suc n) at row len some e read =
    byte_at text row at len some (omega (arith, e)) read
    (λ row' len' more. from text n (at + 1) row' len' (omega arith) (omega (arith, e)) more)
    (is_ascii_digit (get_or text at 0)) (is_separator (get_or text at 0)) refl refl

signed : (rest : List ℕ) → NumberOrFault (plus ∷ rest)
signed rest = from (plus ∷ rest) (length rest) 1 (padded 15 []) 0 (omega arith) (omega arith) (record {
  spelled = record { sign = refl; bytes = λ k d h. absurd (omega arith); most = omega arith };
  digits = refl;
  count = refl;
})

pub number_or_fault : (text : List ℕ) → NumberOrFault text
number_or_fault [] = inr (NoPlus, (λ e. cc))
number_or_fault (b ∷ rest) = by (b == plus) refl
  where
    by : (t : Bool) → (b == plus) ≡ t → NumberOrFault (b ∷ rest)
    by true e = subst (λ c. NumberOrFault (c ∷ rest)) (sym (eqb-true b plus e)) (signed rest)
    by false e = inr (NoPlus, (λ f. eqb-false b plus e (cc f)))
