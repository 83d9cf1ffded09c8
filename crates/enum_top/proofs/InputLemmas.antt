-- What was read of the input.
use Rattle.std.proofs.Common.{◌≡◌, ℕ, ◌+◌, ◌<◌, ◌≤◌, Bool, true, false, List, length, replicate, Option, Some, None}
use Rattle.std.proofs.Common.{Result, Ok, Err, refl, sym, ap, subst, ◌∙◌, arith}
use Rattle.std.specs.Prelude.{nat_le, if◌then◌else◌}
use Rattle.std.proofs.lemmas.Bool.{le-leb}
use Rattle.std.proofs.lemmas.List.{length-replicate}
use Rattle.enum_base.specs.Outside.{WhereTold}
use Rattle.enum_top.specs.Inputs.{Inputs, fitting_input, most_input}
use Rattle.enum_top.specs.declared.cause.Cause.{Cause}
use Rattle.enum_top.specs.declared.cause.Cause.TheVariants.{InputTooLarge}

fits : (bytes : List ℕ) → length bytes ≤ most_input → fitting_input bytes ≡ Ok bytes
fits bytes short = ap (λ (t : Bool). if t then Ok bytes else Err InputTooLarge) (le-leb (length bytes) most_input short)

too_long : (bytes : List ℕ) → most_input < length bytes → fitting_input bytes ≡ Err InputTooLarge
too_long bytes long = by_test (nat_le (length bytes) most_input) refl
  where
    by_test : (t : Bool) → nat_le (length bytes) most_input ≡ t
        → ◌≡◌ {A = Result (List ℕ) Cause} (if t then Ok bytes else Err InputTooLarge) (Err InputTooLarge)
    by_test true is = let short : length bytes ≤ most_input = grind (arith, is) in absurd (omega (arith, short, long))
    by_test false is = refl

some_long : (n : ℕ) → most_input < n → (bytes : List ℕ) × (Err InputTooLarge ≡ fitting_input bytes)
some_long n long =
    (replicate n 0, sym (too_long (replicate n 0) (subst (λ m. most_input < m) (sym (length-replicate n 0)) long)))

-- all of it was read
pub input_read : (left : Option (List ℕ)) (bytes : List ℕ) → WhereTold left (λ told. bytes ≡ told) → length bytes ≤ most_input → Inputs left (Ok bytes)
input_read None bytes is short = (bytes, sym (fits bytes short))
input_read (Some told) bytes is short = sym (fits bytes short) ∙ ap fitting_input is

-- it is too large
pub input_large : (left : Option (List ℕ)) → WhereTold left (λ told. most_input < length told) → Inputs left (Err InputTooLarge)
input_large None long = some_long (most_input + 1) (omega arith)
input_large (Some told) long = sym (too_long told long)
