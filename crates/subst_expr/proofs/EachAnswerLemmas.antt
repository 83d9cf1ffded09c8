use Rattle.std.proofs.Common.{◌≡◌, ◌≢◌, ℕ, ◌<◌, ◌≤◌, ◌⊎◌, inl, inr, List, [], length, Result, Ok, Err, IfOk, refl, ap, subst, arith}
use Rattle.std.specs.Result.{IfErr}
use Rattle.subst_expr.specs.Regexp.{IsWellFormed, IsRegexpFault}
use Rattle.subst_expr.specs.Output.{IsOutput, IsUnmatched, IsApplied, IsApplyFault, IsAnswer}
use Rattle.subst_expr.specs.Laws.{OneFault, WellFormedHasNoFault, OneOutput, UnmatchedHasNoOutput}
use Rattle.subst_expr.specs.declared.regexp.RegexpFault.{RegexpFault}
use Rattle.subst_expr.specs.declared.regexp.RegexpFault.TheVariants.{Memory}
use Rattle.subst_expr.specs.declared.rule.Applied.{Applied}
use Rattle.subst_expr.specs.declared.rule.Applied.TheVariants.{Output, NoMatch}
use Rattle.subst_expr.specs.declared.rule.ApplyFault.{ApplyFault}

formed : (text aus bytes : List ℕ) → IsOutput text aus bytes → IsWellFormed text
formed text aus bytes (s, t, regexp, expands) = (s, t, regexp)

formed_too : (text aus : List ℕ) → IsUnmatched text aus → IsWellFormed text
formed_too text aus (s, t, regexp, none) = (s, t, regexp)

same_length : (xs ys : List ℕ) → xs ≡ ys → length xs ≡ length ys
same_length xs ys same = let P : List ℕ → Type 0 = λ z. length xs ≡ length z in subst P same refl

-- no output with bytes, where none is matched or the output is empty
no_bytes : OneOutput → UnmatchedHasNoOutput → (text aus bytes : List ℕ) → IsOutput text aus bytes → 0 < length bytes
    → IsUnmatched text aus ⊎ IsOutput text aus [] → ⊥
no_bytes one none text aus bytes is some (inl unmatched) = none text aus bytes unmatched is
no_bytes one none text aus bytes is some (inr empty) =
    let same : length bytes ≡ length {A = ℕ} [] = same_length bytes [] (one text aus bytes [] is empty) in
    omega (arith, same, some)

no_refusal : WellFormedHasNoFault → (text : List ℕ) (fault : RegexpFault) → IsWellFormed text → (fault ≢ Memory) → IsRegexpFault text fault → ⊥
no_refusal fine text fault formed other told = other (fine text fault formed told)

two_lengths : OneOutput → (text aus bytes others : List ℕ) → IsOutput text aus bytes → IsOutput text aus others → length bytes ≤ 1024 → 1024 < length others → ⊥
two_lengths one text aus bytes others is so few many =
    let same : length bytes ≡ length others = same_length bytes others (one text aus bytes others is so) in
    omega (arith, same, few, many)

pub output_comes : OneOutput → UnmatchedHasNoOutput → WellFormedHasNoFault
    → (text aus before after : List ℕ) (result : Result Applied ApplyFault)
    → IfOk result (λ applied. IsApplied text aus before after applied)
    → IfErr result (λ fault. IsApplyFault text aus fault) → (bytes : List ℕ) → IsOutput text aus bytes
    → 0 < length bytes → length bytes ≤ 1024 → IsAnswer result (Ok Output)
output_comes one none fine text aus before after (Ok Output) ok err bytes is some few = inl refl
output_comes one none fine text aus before after (Ok NoMatch) ok err bytes is some few = absurd (no_bytes one none text aus bytes is some ok.0)
output_comes one none fine text aus before after (Err (ApplyFault.IllFormed fault)) ok err bytes is some few =
    absurd (no_refusal fine text fault (formed text aus bytes is) err.0 err.1)
output_comes one none fine text aus before after (Err ApplyFault.TooLong) ok (others, so, many) bytes is some few =
    absurd (two_lengths one text aus bytes others is so few many)
output_comes one none fine text aus before after (Err ApplyFault.Memory) ok err bytes is some few = inr refl

either_formed : (text aus : List ℕ) → IsUnmatched text aus ⊎ IsOutput text aus [] → IsWellFormed text
either_formed text aus (inl unmatched) = formed_too text aus unmatched
either_formed text aus (inr empty) = formed text aus [] empty

more_than_none : (bytes : List ℕ) → 1024 < length bytes → 0 < length bytes
more_than_none bytes many = omega (arith, many)

pub no_match_comes : OneOutput → UnmatchedHasNoOutput → WellFormedHasNoFault
    → (text aus before after : List ℕ) (result : Result Applied ApplyFault)
    → IfOk result (λ applied. IsApplied text aus before after applied)
    → IfErr result (λ fault. IsApplyFault text aus fault) → IsUnmatched text aus ⊎ IsOutput text aus []
    → IsAnswer result (Ok NoMatch)
no_match_comes one none fine text aus before after (Ok Output) (bytes, is, some, few, grown) err why = absurd (no_bytes one none text aus bytes is some why)
no_match_comes one none fine text aus before after (Ok NoMatch) ok err why = inl refl
no_match_comes one none fine text aus before after (Err (ApplyFault.IllFormed fault)) ok err why =
    absurd (no_refusal fine text fault (either_formed text aus why) err.0 err.1)
no_match_comes one none fine text aus before after (Err ApplyFault.TooLong) ok (others, so, many) why =
    absurd (no_bytes one none text aus others so (more_than_none others many) why)
no_match_comes one none fine text aus before after (Err ApplyFault.Memory) ok err why = inr refl

pub too_long_comes : OneOutput → UnmatchedHasNoOutput → WellFormedHasNoFault
    → (text aus before after : List ℕ) (result : Result Applied ApplyFault)
    → IfOk result (λ applied. IsApplied text aus before after applied)
    → IfErr result (λ fault. IsApplyFault text aus fault) → (bytes : List ℕ) → IsOutput text aus bytes
    → 1024 < length bytes → IsAnswer result (Err ApplyFault.TooLong)
too_long_comes one none fine text aus before after (Ok Output) (others, so, some, few, grown) err bytes is many =
    absurd (two_lengths one text aus others bytes so is few many)
too_long_comes one none fine text aus before after (Ok NoMatch) ok err bytes is many =
    absurd (no_bytes one none text aus bytes is (more_than_none bytes many) ok.0)
too_long_comes one none fine text aus before after (Err (ApplyFault.IllFormed fault)) ok err bytes is many =
    absurd (no_refusal fine text fault (formed text aus bytes is) err.0 err.1)
too_long_comes one none fine text aus before after (Err ApplyFault.TooLong) ok err bytes is many = inl refl
too_long_comes one none fine text aus before after (Err ApplyFault.Memory) ok err bytes is many = inr refl

-- an ill-formed text is refused with its fault
pub refusal_comes : OneFault → WellFormedHasNoFault
    → (text aus before after : List ℕ) (result : Result Applied ApplyFault)
    → IfOk result (λ applied. IsApplied text aus before after applied)
    → IfErr result (λ fault. IsApplyFault text aus fault) → (fault : RegexpFault) → fault ≢ Memory
    → IsRegexpFault text fault → IsAnswer result (Err (ApplyFault.IllFormed fault))
refusal_comes one fine text aus before after (Ok Output) (bytes, is, some, few, grown) err fault other told =
    absurd (no_refusal fine text fault (formed text aus bytes is) other told)
refusal_comes one fine text aus before after (Ok NoMatch) ok err fault other told = absurd (no_refusal fine text fault (either_formed text aus ok.0) other told)
refusal_comes one fine text aus before after (Err (ApplyFault.IllFormed found)) ok err fault other told =
    inl (ap (λ f. Err (ApplyFault.IllFormed f)) (one text found fault err.0 other err.1 told))
refusal_comes one fine text aus before after (Err ApplyFault.TooLong) ok (others, so, many) fault other told =
    absurd (no_refusal fine text fault (formed text aus others so) other told)
refusal_comes one fine text aus before after (Err ApplyFault.Memory) ok err fault other told = inr refl

memory_or : (fault : RegexpFault) → (fault ≡ Memory) ⊎ (fault ≢ Memory)
memory_or (RegexpFault.Split fault) = inr (λ e. cc)
memory_or (RegexpFault.Ere fault) = inr (λ e. cc)
memory_or (RegexpFault.NoGroup at) = inr (λ e. cc)
memory_or RegexpFault.Memory = inl refl

-- .. by the check too
pub check_refuses : OneFault → WellFormedHasNoFault → {A : Type 0} (text : List ℕ) (result : Result A RegexpFault)
    → IfOk result (λ _. IsWellFormed text) → IfErr result (λ fault. IsRegexpFault text fault) → (fault : RegexpFault)
    → fault ≢ Memory → IsRegexpFault text fault → (result ≡ Err fault) ⊎ (result ≡ Err Memory)
check_refuses one fine text (Ok a) ok err fault other told = absurd (no_refusal fine text fault ok other told)
check_refuses one fine text (Err found) ok err fault other told = elim (memory_or found) [
  | inl none ↦ inr (ap (λ f. Err f) none)
  | inr some ↦ inl (ap (λ f. Err f) (one text found fault some other err told))
]
