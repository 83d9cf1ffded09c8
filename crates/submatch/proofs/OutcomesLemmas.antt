-- Over a stretch of the text a part has a greatest parse, or none at all.
use Rattle.std.proofs.Common.{◌≡◌, ℕ, zero, suc, ◌+◌, ◌-◌, ◌<◌, ◌≤◌, max, ◌⊎◌, inl, inr, refl, sym, subst, ap, arith}
use Rattle.std.proofs.Common.{slice_get, Bool, true, false, List, length, Option, Some, None}
use Rattle.posix_ere.specs.Tree.{Atom, byte, any, set, start, end, Tree, atom, alt, branch, group, rep, Trees, none, more}
use Rattle.submatch.specs.Bytes.{Covers, CoversByte}
use Rattle.submatch.specs.Parses.{Parses, no_more, next, IsOneParse, AreParses, IsNext, AreNoParses, IsAlone, IsBelow}
use Rattle.submatch.specs.Parses.{IsIteration, AreIterations, IsParse, ArePieces, IsBranch}
use Rattle.submatch.specs.Greater.{IsPartAtLeast, AreGreatest, IsGreatestParse}
use Rattle.submatch.proofs.EndsLemmas.{IsWithin, EndsWithin, parse_within}
use Rattle.submatch.proofs.GreedyLemmas.{greatest_of_greedy, greatest_of_alone}

-- the greatest row for which P holds, or that there is none
pub data Outcome (P : Parses → Type 0) : Type 0 where
  found : (ps : Parses) → AreGreatest P ps → Outcome P
  nothing : ((ps : Parses) → P ps → ⊥) → Outcome P

-- the greatest choice and parses inside for which P holds, or that there are none
pub data Chosen (P : ℕ → Parses → Type 0) : Type 0 where
  chosen : (c : ℕ) (a : Parses) → IsGreatestParse P c a → Chosen P
  no_choice : ((c : ℕ) (a : Parses) → P c a → ⊥) → Chosen P

-- a parse that ends before d
abbrev EndsBefore : ℕ → IsOneParse → IsOneParse
EndsBefore d One i e c a = (e < d) × One i e c a

before_or_at : (e d : ℕ) → e < suc d → (e < d) ⊎ (e ≡ d)
before_or_at e d h = grind arith

module _ (One : IsOneParse) (More : AreParses) (i j : ℕ) where
  -- the rows whose first parse ends before d
  abbrev Before : ℕ → Parses → Type 0
  Before d = IsNext (EndsBefore d One) More i j

  -- no row has a first parse that ends at d
  abbrev NoneAt : ℕ → Type 0
  NoneAt d = (c : ℕ) (a rest : Parses) → One i d c a → More d j rest → ⊥

  narrowed : (d : ℕ) → NoneAt d → (ps : Parses) → Before (suc d) ps → Before d ps
  narrowed d none_at no_more h = elim h [ ]
  narrowed d none_at (next e c a rest) h = elim (before_or_at e d h.0.0) [
    | inl less ↦ ((less, h.0.1), h.1)
    | inr same ↦ absurd (none_at c a rest (subst (λ x. One i x c a) same h.0.1) (subst (λ x. More x j rest) same h.1))
  ]

  widened : (d : ℕ) (ps : Parses) → Before d ps → Before (suc d) ps
  widened d no_more h = elim h [ ]
  widened d (next e c a rest) h = let less : e < d = h.0.0 in ((omega arith, h.0.1), h.1)

  -- with no row at d, what is known before d holds before d + 1
  from_before : (d : ℕ) → NoneAt d → Outcome (Before d) → Outcome (Before (suc d))
  from_before d none_at (found ps g) = found ps (record {
    holds = widened d ps g.holds;
    most = λ qs h. g.most qs (narrowed d none_at qs h);
  })
  from_before d none_at (nothing never) = nothing (λ ps h. never ps (narrowed d none_at ps h))

  -- the longest head and the greatest rest make the greatest row
  at_head : (d c : ℕ) (a rest : Parses) → IsGreatestParse (One i d) c a → AreGreatest (More d j) rest →
      Outcome (Before (suc d))
  at_head d c a rest g best = found (next d c a rest)
      (greatest_of_greedy (EndsBefore (suc d) One) More i j d c a rest (record {
        longest = λ f o b qs one others. let less : f < suc d = one.0 in omega arith;
        first = record { holds = (omega arith, g.holds); most = λ o b h. g.most o b h.1 };
        others = best;
      }))

  module _ (heads : (e : ℕ) → Chosen (One i e)) (others : (e c : ℕ) (a : Parses) → One i e c a → Outcome (More e j)) where
    with_rest : (d c : ℕ) (a : Parses) → IsGreatestParse (One i d) c a → Outcome (Before d) → Outcome (More d j) →
        Outcome (Before (suc d))
    with_rest d c a g before (found rest best) = at_head d c a rest g best
    with_rest d c a g before (nothing never) = from_before d (λ o b rest one h. never rest h) before

    with_head : (d : ℕ) → Outcome (Before d) → Chosen (One i d) → Outcome (Before (suc d))
    with_head d before (chosen c a g) = with_rest d c a g before (others d c a g.holds)
    with_head d before (no_choice never) = from_before d (λ o b rest one h. never o b one) before

    before_outcome : (d : ℕ) → Outcome (Before d)
    before_outcome zero = nothing (elim [
      | no_more ↦ λ h. elim h [ ]
      | next e c a rest ↦ λ h. let less : e < 0 = h.0.0 in absurd (omega arith)
    ])
    before_outcome (suc d) = with_head d (before_outcome d) (heads d)

    -- all heads end by n
    all_before : (n : ℕ) → ((e c : ℕ) (a : Parses) → One i e c a → e ≤ n) → (ps : Parses) → IsNext One More i j ps → Before (suc n) ps
    all_before n ends no_more h = elim h [ ]
    all_before n ends (next e c a rest) h = let bound : e ≤ n = ends e c a h.0 in ((omega arith, h.0), h.1)

    any_of_before : (n : ℕ) (ps : Parses) → Before (suc n) ps → IsNext One More i j ps
    any_of_before n no_more h = elim h [ ]
    any_of_before n (next e c a rest) h = (h.0.1, h.1)

    widest : (n : ℕ) → ((e c : ℕ) (a : Parses) → One i e c a → e ≤ n) → Outcome (Before (suc n)) → Outcome (IsNext One More i j)
    widest n ends (found ps g) = found ps (record {
      holds = any_of_before n ps g.holds;
      most = λ qs h. g.most qs (all_before n ends qs h);
    })
    widest n ends (nothing never) = nothing (λ ps h. never ps (all_before n ends ps h))

    pub next_outcome : (n : ℕ) → ((e c : ℕ) (a : Parses) → One i e c a → e ≤ n) → Outcome (IsNext One More i j)
    next_outcome n ends = widest n ends (before_outcome (suc n))

below_or_not : (k : ℕ) (n : Option ℕ) → IsBelow k n ⊎ (IsBelow k n → ⊥)
below_or_not k None = inl tt
below_or_not k (Some n) = less_or_not k n
  where
    less_or_not : (k n : ℕ) → (k < n) ⊎ (k < n → ⊥)
    less_or_not k n = grind arith

advance_or_not : (m k i e : ℕ) → (i ≡ e → suc k ≤ max m 1) ⊎ ((i ≡ e → suc k ≤ max m 1) → ⊥)
advance_or_not m k i e = elim (same_or_not i e) [
  | inl same ↦ elim (counted k (max m 1)) [
    | inl h ↦ inl (λ s. h)
    | inr h ↦ inr (λ f. h (f same))
  ]
  | inr other ↦ inl (λ s. absurd (other s))
]
  where
    same_or_not : (i e : ℕ) → (i ≡ e) ⊎ (i ≡ e → ⊥)
    same_or_not i e = grind arith

    counted : (k x : ℕ) → (suc k ≤ x) ⊎ (suc k ≤ x → ⊥)
    counted k x = grind arith

module _ (One : IsOneParse) (m : ℕ) (n : Option ℕ) (w : ℕ) (ends : EndsWithin w One)
    (heads : (i e : ℕ) → i ≤ w → Chosen (One i e)) where
  iteration_of : (k i e : ℕ) → IsBelow k n → (i ≡ e → suc k ≤ max m 1) → Chosen (One i e) → Chosen (IsIteration One m n k i e)
  iteration_of k i e below advances (chosen c a g) = chosen c a (record {
    holds = record { allowed = below; advances = advances; holds = g.holds };
    most = λ d b h. g.most d b h.holds;
  })
  iteration_of k i e below advances (no_choice never) = no_choice (λ c a h. never c a h.holds)

  iteration_chosen : (k i e : ℕ) → i ≤ w → Chosen (IsIteration One m n k i e)
  iteration_chosen k i e within = elim (below_or_not k n) [
    | inr over ↦ no_choice (λ c a h. over h.allowed)
    | inl below ↦ elim (advance_or_not m k i e) [
      | inr stuck ↦ no_choice (λ c a h. stuck h.advances)
      | inl advances ↦ iteration_of k i e below advances (heads i e within)
    ]
  ]

  stop_or_not : (k i j : ℕ) → ((i ≡ j) × (m ≤ k)) ⊎ ((i ≡ j) × (m ≤ k) → ⊥)
  stop_or_not k i j = grind arith

  -- a further iteration if any row has one, and else none
  or_stop : (k i j : ℕ) → Outcome (IsNext (IsIteration One m n k) (AreIterations One m n (suc k)) i j) →
      Outcome (AreIterations One m n k i j)
  or_stop k i j (found no_more g) = elim (g.holds) [ ]
  or_stop k i j (found (next e c a rest) g) = found (next e c a rest) (record {
    holds = g.holds;
    most = elim [ no_more ↦ λ h. inr tt | next f d b qs ↦ λ h. g.most (next f d b qs) h ];
  })
  or_stop k i j (nothing never) = elim (stop_or_not k i j) [
    | inl stop ↦ found no_more (record {
      holds = stop;
      most = elim [ no_more ↦ λ h. inl refl | next f d b qs ↦ λ h. absurd (never (next f d b qs) h) ];
    })
    | inr go ↦ nothing (elim [ no_more ↦ λ h. go h | next f d b qs ↦ λ h. never (next f d b qs) h ])
  ]

  -- an iteration is among the first max m 1 or takes a byte, so the fuel falls
  less_left : (f k i e c : ℕ) (a : Parses) → (max m 1 - k) + (w - i) < suc f → i ≤ w →
      IsIteration One m n k i e c a → (max m 1 - suc k) + (w - e) < f
  less_left f k i e c a fuel within h =
      let here : IsWithin w i e = ends i e c a h.holds in
      elim (further i e here.forward) [
        | inl same ↦ let bound : suc k ≤ max m 1 = h.advances same in omega arith
        | inr less ↦ let inside : e ≤ w = here.inside within in omega arith
      ]
    where
      further : (i e : ℕ) → i ≤ e → (i ≡ e) ⊎ (i < e)
      further i e h = grind arith

  pub iterations_outcome : (f k i j : ℕ) → i ≤ w → (max m 1 - k) + (w - i) < f → Outcome (AreIterations One m n k i j)
  iterations_outcome zero k i j within fuel = absurd (omega arith)
  iterations_outcome (suc f) k i j within fuel = or_stop k i j
      (next_outcome (IsIteration One m n k) (AreIterations One m n (suc k)) i j
      (λ e. iteration_chosen k i e within)
      (λ e c a h. iterations_outcome f (suc k) e j ((ends i e c a h.holds).inside within)
      (less_left f k i e c a fuel within h))
      w (λ e c a h. (ends i e c a h.holds).inside within))

-- the choice is settled
pub settled_outcome : (P : Parses → Type 0) → Outcome P → Chosen (λ c a. (c ≡ 0) × P a)
settled_outcome P (found ps g) = chosen 0 ps (record {
  holds = (refl, g.holds);
  most = λ d b h. inr (sym h.0, g.most b h.1);
})
settled_outcome P (nothing never) = no_choice (λ c a h. never a h.1)

pub alone_outcome : (One : IsOneParse) (i j : ℕ) → Chosen (One i j) → Outcome (IsAlone One i j)
alone_outcome One i j (chosen c a g) = found (next j c a no_more) (greatest_of_alone One i j c a g)
alone_outcome One i j (no_choice never) = nothing (elim [
  | no_more ↦ λ h. elim h [ ]
  | next e c a rest ↦ λ h. never c a (subst (λ x. One i x c a) h.1.0 h.0)
])

none_outcome : (i j : ℕ) → Outcome (AreNoParses i j)
none_outcome i j = elim (same_or_not i j) [
  | inl same ↦ found no_more (record { holds = (same, refl); most = λ qs h. inl (sym h.1) })
  | inr other ↦ nothing (λ ps h. other h.0)
]
  where
    same_or_not : (i e : ℕ) → (i ≡ e) ⊎ (i ≡ e → ⊥)
    same_or_not i e = grind arith

-- a leaf has one parse or none
leaf_chosen : (A : Type 0) → A ⊎ (A → ⊥) → Chosen (λ c a. A × (c ≡ 0) × (a ≡ no_more))
leaf_chosen A (inl h) = chosen 0 no_more (record {
  holds = (h, refl, refl);
  most = λ d b k. inr (sym k.1, inl (sym k.2));
})
leaf_chosen A (inr h) = no_choice (λ c a k. h k.0)

-- a branch counted one further on
later_at_least : (c d : ℕ) (a b : Parses) → IsPartAtLeast c a d b → IsPartAtLeast (suc c) a (suc d) b
later_at_least c d a b (inl h) = inl (omega arith)
later_at_least c d a b (inr h) = inr (ap suc h.0, h.1)

-- the first branch where it has a parse, and else what the later ones have
first_or_later : (fold : Bool) (w : List ℕ) (t : Tree) (ts : Trees) (i j : ℕ) → Outcome (IsAlone (IsParse fold w t) i j) →
    Chosen (λ c a. IsBranch fold w ts c i j a) → Chosen (λ c a. IsBranch fold w (more t ts) c i j a)
first_or_later fold w t ts i j (found ps g) later = chosen 0 ps (record {
  holds = g.holds;
  most = elim [ zero ↦ λ b h. inr (refl, g.most b h) | suc d ↦ λ b h. inl (omega arith) ];
})
first_or_later fold w t ts i j (nothing never) (chosen c a g) = chosen (suc c) a (record {
  holds = g.holds;
  most = elim [ zero ↦ λ b h. absurd (never b h) | suc d ↦ λ b h. later_at_least c d a b (g.most d b h) ];
})
first_or_later fold w t ts i j (nothing never) (no_choice none_later) = no_choice (elim [
  | zero ↦ λ b h. never b h
  | suc d ↦ λ b h. none_later d b h
])

byte_or_not : (test : ℕ → Bool) (w : List ℕ) (i j : ℕ) → CoversByte test w i j ⊎ (CoversByte test w i j → ⊥)
byte_or_not test w i j = elim (same_or_not j (i + 1)) [
  | inr other ↦ inr (λ h. other h.0)
  | inl same ↦ read_or_not test w i j same (slice_get w i) refl
]
  where
    same_or_not : (i e : ℕ) → (i ≡ e) ⊎ (i ≡ e → ⊥)
    same_or_not i e = grind arith

    tested : (test : ℕ → Bool) (w : List ℕ) (i j b : ℕ) → j ≡ i + 1 → slice_get w i ≡ Some b → (v : Bool) → test b ≡ v →
        CoversByte test w i j ⊎ (CoversByte test w i j → ⊥)
    tested test w i j b same read true e = inl (same, b, read, e)
    tested test w i j b same read false e = inr (λ h.
        let p : b ≡ h.1 = cc (read, h.2) in
        let q : test b ≡ true = subst (λ x. test x ≡ true) (sym p) h.3 in cc (e, q))

    read_or_not : (test : ℕ → Bool) (w : List ℕ) (i j : ℕ) → j ≡ i + 1 → (o : Option ℕ) → slice_get w i ≡ o →
        CoversByte test w i j ⊎ (CoversByte test w i j → ⊥)
    read_or_not test w i j same None e = inr (λ h. cc (e, h.2))
    read_or_not test w i j same (Some b) e = tested test w i j b same e (test b) refl

covers_or_not : (fold : Bool) (w : List ℕ) (x : Atom) (i j : ℕ) → Covers fold w x i j ⊎ (Covers fold w x i j → ⊥)
covers_or_not fold w (byte x) i j = byte_or_not _ w i j
covers_or_not fold w any i j = byte_or_not _ w i j
covers_or_not fold w (set false bytes) i j = byte_or_not _ w i j
covers_or_not fold w (set true bytes) i j = byte_or_not _ w i j
covers_or_not fold w start i j = both_or_not i 0 j 0
  where
    both_or_not : (i a j b : ℕ) → ((i ≡ a) × (j ≡ b)) ⊎ ((i ≡ a) × (j ≡ b) → ⊥)
    both_or_not i a j b = grind arith
covers_or_not fold w end i j = both_or_not i (length w) j (length w)
  where
    both_or_not : (i a j b : ℕ) → ((i ≡ a) × (j ≡ b)) ⊎ ((i ≡ a) × (j ≡ b) → ⊥)
    both_or_not i a j b = grind arith

mutual
  -- from i to j a part has a greatest parse, or none
  pub part_chosen : (fold : Bool) (w : List ℕ) (t : Tree) → (i j : ℕ) → i ≤ length w → Chosen (IsParse fold w t i j)
  part_chosen fold w (atom x) i j within = leaf_chosen (Covers fold w x i j) (covers_or_not fold w x i j)
  part_chosen fold w (alt ts) i j within = branch_chosen fold w ts i j within
  part_chosen fold w (branch ts) i j within = settled_outcome (ArePieces fold w ts i j) (pieces_outcome fold w ts i j within)
  part_chosen fold w (group g t) i j within =
      settled_outcome (IsAlone (IsParse fold w t) i j) (alone_outcome (IsParse fold w t) i j (part_chosen fold w t i j within))
  part_chosen fold w (rep m n t) i j within = settled_outcome (AreIterations (IsParse fold w t) m n 0 i j)
      (iterations_outcome (IsParse fold w t) m n (length w) (parse_within fold w t) (λ k e h. part_chosen fold w t k e h)
      (suc ((max m 1 - 0) + (length w - i))) 0 i j within (omega arith))

  -- pieces have a greatest row, or none
  pub pieces_outcome : (fold : Bool) (w : List ℕ) (ts : Trees) → (i j : ℕ) → i ≤ length w → Outcome (ArePieces fold w ts i j)
  pieces_outcome fold w none i j within = none_outcome i j
  pieces_outcome fold w (more t ts) i j within = next_outcome (IsParse fold w t) (ArePieces fold w ts) i j
      (λ e. part_chosen fold w t i e within)
      (λ e c a h. pieces_outcome fold w ts e j ((parse_within fold w t i e c a h).inside within))
      (length w) (λ e c a h. (parse_within fold w t i e c a h).inside within)

  -- of branches, the earliest that has a parse has a greatest one
  pub branch_chosen : (fold : Bool) (w : List ℕ) (ts : Trees) → (i j : ℕ) → i ≤ length w → Chosen (λ c a. IsBranch fold w ts c i j a)
  branch_chosen fold w none i j within = no_choice (λ c a h. h)
  branch_chosen fold w (more t ts) i j within = first_or_later fold w t ts i j
      (alone_outcome (IsParse fold w t) i j (part_chosen fold w t i j within)) (branch_chosen fold w ts i j within)
