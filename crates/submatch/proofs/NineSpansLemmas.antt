-- The spans of nine groups, written in turn, are those of the groups' last entries.
use Rattle.std.proofs.Common.{◌≡◌, ℕ, zero, suc, ◌<◌, refl, sym, ◌∙◌, ap, arith, Bool, true, false, ◌==◌, ◌&&◌, nat_le}
use Rattle.std.proofs.Common.{if◌then◌else◌, List, [], ◌∷◌, ◌++◌, Option, Some, None, reverse, find, option_map}
use Rattle.std.proofs.Common.{replicate, append_assoc}
use Rattle.std.proofs.lemmas.List.{reverse-append, append-nil}
use Rattle.std.proofs.lemmas.Bool.Decides.{nat_tests}
use Rattle.submatch.specs.declared.spans.Span.{Span}
use Rattle.submatch.specs.Groups.{Taken, span_of, nine_spans, with_group, with_groups}

-- one entry more: it is the last of its group
one_more : (k : ℕ) (xs : List Taken) (y : Taken) → span_of k (xs ++ y ∷ []) ≡ (if y.number == k then Some y.span else span_of k xs)
one_more k xs y = rw (reverse-append {A = Taken} xs (y ∷ [])) (first_of_two (reverse xs) (y.number == k) refl)
  where
    first_of_two : (r : List Taken) (b : Bool) → (y.number == k) ≡ b →
        option_map (λ x. x.span) (find (λ x. x.number == k) (y ∷ r))
        ≡ (if y.number == k then Some y.span else option_map (λ x. x.span) (find (λ x. x.number == k) r))
    first_of_two r true e = rw e refl
    first_of_two r false e = rw e refl

-- the spans of nine groups by a function
abbrev nine : (ℕ → Option Span) → List (Option Span)
nine f = f 1 ∷ f 2 ∷ f 3 ∷ f 4 ∷ f 5 ∷ f 6 ∷ f 7 ∷ f 8 ∷ f 9 ∷ []

nine_same : (f g : ℕ → Option Span) → ((k : ℕ) → f k ≡ g k) → nine f ≡ nine g
nine_same f g h = cc (h 1, h 2, h 3, h 4, h 5, h 6, h 7, h 8, h 9)

not_nine : (m : ℕ) → 9 < m → (nat_le 1 m && nat_le m 9) ≡ false
not_nine m h = grind (arith, nat_tests)

not_equal : (m k : ℕ) → k < m → (m == k) ≡ false
not_equal m k h = grind (arith, nat_tests)

kept : (m k : ℕ) (s : Span) (o : Option Span) → k < m → o ≡ (if m == k then Some s else o)
kept m k s o h = rw (not_equal m k h) refl

-- a group past the ninth is not told
past : (m : ℕ) (s : Span) (f : ℕ → Option Span) → 9 < m →
    with_group (nine f) (record { number = m; span = s }) ≡ nine (λ k. if m == k then Some s else f k)
past m s f h = rw (not_nine m h)
    (cc (
      kept m 1 s (f 1) (omega arith),
      kept m 2 s (f 2) (omega arith),
      kept m 3 s (f 3) (omega arith),
      kept m 4 s (f 4) (omega arith),
      kept m 5 s (f 5) (omega arith),
      kept m 6 s (f 6) (omega arith),
      kept m 7 s (f 7) (omega arith),
      kept m 8 s (f 8) (omega arith),
      kept m 9 s (f 9) (omega arith),
    ))

-- one group written
written : (n : ℕ) (s : Span) (f : ℕ → Option Span) →
    with_group (nine f) (record { number = n; span = s }) ≡ nine (λ k. if n == k then Some s else f k)
written zero s f = refl
written (suc zero) s f = refl
written (suc (suc zero)) s f = refl
written (suc (suc (suc zero))) s f = refl
written (suc (suc (suc (suc zero)))) s f = refl
written (suc (suc (suc (suc (suc zero))))) s f = refl
written (suc (suc (suc (suc (suc (suc zero)))))) s f = refl
written (suc (suc (suc (suc (suc (suc (suc zero))))))) s f = refl
written (suc (suc (suc (suc (suc (suc (suc (suc zero)))))))) s f = refl
written (suc (suc (suc (suc (suc (suc (suc (suc (suc zero))))))))) s f = refl
written (suc (suc (suc (suc (suc (suc (suc (suc (suc (suc n)))))))))) s f = past (suc (suc (suc (suc (suc (suc (suc (suc (suc (suc n)))))))))) s f (omega arith)

with_one : (xs : List Taken) (y : Taken) → with_group (nine_spans xs) y ≡ nine_spans (xs ++ y ∷ [])
with_one xs y = written y.number y.span (λ k. span_of k xs) ∙
    sym (nine_same (λ k. span_of k (xs ++ y ∷ [])) (λ k. if y.number == k then Some y.span else span_of k xs) (λ k. one_more k xs y))

with_more : (xs ys : List Taken) → with_groups (nine_spans xs) ys ≡ nine_spans (xs ++ ys)
with_more xs [] = ap nine_spans (sym (append-nil xs))
with_more xs (y ∷ ys) = ap (λ x. with_groups x ys) (with_one xs y) ∙ with_more (xs ++ y ∷ []) ys ∙ ap nine_spans (append_assoc xs (y ∷ []) ys)

pub with_all : (ys : List Taken) → with_groups (replicate 9 None) ys ≡ nine_spans ys
with_all ys = with_more [] ys
