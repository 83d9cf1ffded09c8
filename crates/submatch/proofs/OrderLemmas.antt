-- The order of parses: it is irreflexive, transitive, and any two rows of parses compare.
use Rattle.std.proofs.Common.{◌≡◌, ℕ, ◌<◌, ◌⊎◌, inl, inr, refl, sym, subst, ◌∙◌, arith}
use Rattle.submatch.specs.Parses.{Parses, no_more, next}
use Rattle.submatch.specs.Greater.{Then, IsGreater, IsAtLeast, IsPartAtLeast}

pub greater_irreflexive : (ps : Parses) → IsGreater ps ps → ⊥
greater_irreflexive no_more h = h
greater_irreflexive (next e c a ps) (inl h) = omega arith
greater_irreflexive (next e c a ps) (inr (_, inl h)) = omega arith
greater_irreflexive (next e c a ps) (inr (_, inr (_, inl h))) = greater_irreflexive a h
greater_irreflexive (next e c a ps) (inr (_, inr (_, inr (_, h)))) = greater_irreflexive ps h

-- a comparison level by level is transitive if each level is
then_trans : {G S A G' S' A' G'' S'' A'' : Type 0} →
    (G → G' → G'') → (G → S' → G'') → (S → G' → G'') → (S → S' → S'') → (A → A' → A'') →
    Then G S A → Then G' S' A' → Then G'' S'' A''
then_trans gg gs sg ss aa (inl g) (inl h) = inl (gg g h)
then_trans gg gs sg ss aa (inl g) (inr (s, a)) = inl (gs g s)
then_trans gg gs sg ss aa (inr (s, a)) (inl h) = inl (sg s h)
then_trans gg gs sg ss aa (inr (s, a)) (inr (s', a')) = inr (ss s s', aa a a')

more_then_same : (a b c : Parses) → IsGreater a b → b ≡ c → IsGreater a c
more_then_same a b c h e = subst (λ x. IsGreater a x) e h

same_then_more : (a b c : Parses) → a ≡ b → IsGreater b c → IsGreater a c
same_then_more a b c e h = subst (λ x. IsGreater x c) (sym e) h

pub greater_transitive : (ps qs rs : Parses) → IsGreater ps qs → IsGreater qs rs → IsGreater ps rs
greater_transitive no_more qs rs h k = elim h [ ]
greater_transitive (next e c a ps) no_more rs h k = elim k [ ]
greater_transitive (next e c a ps) (next f d b qs) no_more h k = tt
greater_transitive (next e c a ps) (next f d b qs) (next g o x rs) h k =
    then_trans (λ (p : f < e) (q : g < f). omega arith) (λ (p : f < e) (q : f ≡ g). omega arith)
    (λ (p : e ≡ f) (q : g < f). omega arith) (λ (p : e ≡ f) (q : f ≡ g). p ∙ q)
    (then_trans (λ (p : c < d) (q : d < o). omega arith) (λ (p : c < d) (q : d ≡ o). omega arith)
    (λ (p : c ≡ d) (q : d < o). omega arith) (λ (p : c ≡ d) (q : d ≡ o). p ∙ q)
    (then_trans (greater_transitive a b x) (more_then_same a b x) (same_then_more a b x)
    (λ (p : a ≡ b) (q : b ≡ x). p ∙ q) (greater_transitive ps qs rs)))
    h k

pub greater_asymmetric : (ps qs : Parses) → IsGreater ps qs → IsGreater qs ps → ⊥
greater_asymmetric ps qs h k = greater_irreflexive ps (greater_transitive ps qs ps h k)

-- equal, or the first is greater, or the second is
abbrev AreCompared : Type 0 → Type 0 → Type 0 → Type 0
AreCompared Same First Second = Same ⊎ (First ⊎ Second)

-- what comes after decides where this level is the same
then_compared : {S S' G H Same A B : Type 0} → (S → S') → AreCompared S G H → AreCompared Same A B →
    AreCompared (S × Same) (Then G S A) (Then H S' B)
then_compared back (inl s) (inl same) = inl (s, same)
then_compared back (inl s) (inr (inl a)) = inr (inl (inr (s, a)))
then_compared back (inl s) (inr (inr b)) = inr (inr (inr (back s, b)))
then_compared back (inr (inl g)) rest = inr (inl (inl g))
then_compared back (inr (inr h)) rest = inr (inr (inl h))

numbers_compared : (m n : ℕ) → AreCompared (m ≡ n) (n < m) (m < n)
numbers_compared m n = grind arith

choices_compared : (c d : ℕ) → AreCompared (c ≡ d) (c < d) (d < c)
choices_compared c d = grind arith

-- the equations of all parts make one of the whole
joined : (e f c d : ℕ) (a b ps qs : Parses) → (e ≡ f) × ((c ≡ d) × ((a ≡ b) × (ps ≡ qs))) → next e c a ps ≡ next f d b qs
joined e f c d a b ps qs h = let p = h.0 in let q = h.1.0 in let r = h.1.1.0 in let s = h.1.1.1 in cc

pub compare_parses : (ps qs : Parses) → (ps ≡ qs) ⊎ (IsGreater ps qs ⊎ IsGreater qs ps)
compare_parses no_more no_more = inl refl
compare_parses no_more (next f d b qs) = inr (inr tt)
compare_parses (next e c a ps) no_more = inr (inl tt)
compare_parses (next e c a ps) (next f d b qs) =
    elim (then_compared sym (numbers_compared e f) (then_compared sym (choices_compared c d)
    (then_compared sym (compare_parses a b) (compare_parses ps qs)))) [
      | inl h ↦ inl (joined e f c d a b ps qs h)
      | inr h ↦ inr h
    ]

-- heads and then the rest compared
pub at_least_next : (e c d : ℕ) (a b ps qs : Parses) → IsPartAtLeast c a d b → IsAtLeast ps qs →
    IsAtLeast (next e c a ps) (next e d b qs)
at_least_next e c d a b ps qs (inl h) k = inr (inr (refl, inl h))
at_least_next e c d a b ps qs (inr (s, inr h)) k = inr (inr (refl, inr (s, inl h)))
at_least_next e c d a b ps qs (inr (s, inl r)) (inr k) = inr (inr (refl, inr (s, inr (r, k))))
at_least_next e c d a b ps qs (inr (s, inl r)) (inl p) = inl (cc)
