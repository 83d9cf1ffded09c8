-- Whether a list has a byte, as a test.
use Rattle.std.proofs.Common.{◌≡◌, ℕ, ◌==◌, Bool, true, false, List, Contains, IsTrue, ◌↔◌, refl, sym, subst}
use Rattle.std.specs.List.{slice_index_or}
use Rattle.std.proofs.lemmas.Bool.{eqb-true, eq-eqb}
use Rattle.std.proofs.lemmas.List.Folds.{Any-from_list_any, list_any-from_Any}
use Rattle.submatch.specs.Bytes.{is_listed}

same_truth : (r s : Bool) → (r ≡ true → s ≡ true) → (s ≡ true → r ≡ true) → r ≡ s
same_truth true true to back = refl
same_truth true false to back = sym (to refl)
same_truth false true to back = back refl
same_truth false false to back = refl

pub listed_by : (bytes : List ℕ) (b : ℕ) (r : Bool) → IsTrue r ↔ Contains bytes b → r ≡ is_listed bytes b
listed_by bytes b r h = same_truth r (is_listed bytes b)
    (λ e. let c = h.0 e in list_any-from_Any (λ x. x == b) bytes (c.0, b, c.1, c.2, eq-eqb b b refl))
    (λ e. let a = Any-from_list_any (λ x. x == b) bytes e in
    let same : a.1 ≡ b = eqb-true a.1 b a.4 in
    h.1 (a.0, a.2, subst (λ x. slice_index_or bytes a.0 x ≡ x) same a.3))
