-- The greatest row of parses is the greedy one, and back; what this says of each kind of part.
use Rattle.std.proofs.Common.{◌≡◌, ℕ, suc, ◌<◌, ◌≤◌, ◌⊎◌, ◌↔◌, inl, inr, refl, sym, subst, ◌∙◌, arith, Option}
use Rattle.submatch.specs.Parses.{Parses, no_more, next, IsOneParse, AreParses, IsNext, AreNoParses, IsAlone}
use Rattle.submatch.specs.Parses.{IsIteration, AreIterations, IsParse, ArePieces, IsBranch}
use Rattle.submatch.specs.Greater.{IsAtLeast, IsPartAtLeast, AreGreatest, IsGreatestParse, IsGreedy}
use Rattle.submatch.specs.Laws.{PiecesAreGreedy, BranchHasGreatestPieces, RepetitionHasGreatestIterations}
use Rattle.submatch.specs.Laws.{GroupHasGreatestInside, IterationsAreGreedy, IterationsStopLast}
use Rattle.submatch.specs.Laws.{AlternativesTakeEarliest, AloneIsGreatest}
use Rattle.submatch.proofs.OrderLemmas.{greater_irreflexive, greater_asymmetric, at_least_next}

-- the end of the head of a greater row is not before that of a lesser one
head_not_before : (e c f d : ℕ) (a b ps qs : Parses) → IsAtLeast (next e c a ps) (next f d b qs) → f ≤ e
head_not_before e c f d a b ps qs (inl h) = let p : e ≡ f = cc h in omega arith
head_not_before e c f d a b ps qs (inr (inl h)) = omega arith
head_not_before e c f d a b ps qs (inr (inr h)) = let p : e ≡ f = h.0 in omega arith

-- with the same rest, the heads compare
head_at_least : (e c d : ℕ) (a b ps : Parses) → IsAtLeast (next e c a ps) (next e d b ps) → IsPartAtLeast c a d b
head_at_least e c d a b ps (inl h) = inr (cc h, inl (cc h))
head_at_least e c d a b ps (inr (inl h)) = absurd (omega arith)
head_at_least e c d a b ps (inr (inr (_, inl h))) = inl h
head_at_least e c d a b ps (inr (inr (_, inr (p, inl h)))) = inr (p, inr h)
head_at_least e c d a b ps (inr (inr (_, inr (p, inr (_, h))))) = absurd (greater_irreflexive ps h)

-- with the same head, the rests compare
rest_at_least : (e c : ℕ) (a ps qs : Parses) → IsAtLeast (next e c a ps) (next e c a qs) → IsAtLeast ps qs
rest_at_least e c a ps qs (inl h) = inl (cc h)
rest_at_least e c a ps qs (inr (inl h)) = absurd (omega arith)
rest_at_least e c a ps qs (inr (inr (_, inl h))) = absurd (omega arith)
rest_at_least e c a ps qs (inr (inr (_, inr (p, inl h)))) = absurd (greater_irreflexive a h)
rest_at_least e c a ps qs (inr (inr (_, inr (p, inr (_, h))))) = inr h

at_most : (f e : ℕ) → f ≤ e → (f ≡ e) ⊎ (f < e)
at_most f e h = grind arith

module _ (One : IsOneParse) (More : AreParses) (i j e c : ℕ) (a rest : Parses) where
  -- a row at least as great as each other: by the longer head, or at the same end by head and rest
  greedy_most : IsGreedy One More i j e c a rest → (f d : ℕ) (b qs : Parses) → (f ≡ e) ⊎ (f < e) → One i f d b → More f j qs →
      IsAtLeast (next e c a rest) (next f d b qs)
  greedy_most g f d b qs (inr h) one others = inr (inl h)
  greedy_most g f d b qs (inl h) one others =
      subst (λ x. IsAtLeast (next e c a rest) (next x d b qs)) (sym h)
      (at_least_next e c d a b rest qs (g.first.most d b (subst (λ x. One i x d b) h one))
      (g.others.most qs (subst (λ x. More x j qs) h others)))

  pub greatest_of_greedy : IsGreedy One More i j e c a rest → AreGreatest (IsNext One More i j) (next e c a rest)
  greatest_of_greedy g = record {
    holds = (g.first.holds, g.others.holds);
    most = elim [
      | no_more ↦ λ h. elim h [ ]
      | next f d b qs ↦ λ h. greedy_most g f d b qs (at_most f e (g.longest f d b qs h.0 h.1)) h.0 h.1
    ];
  }

  pub greedy_of_greatest : AreGreatest (IsNext One More i j) (next e c a rest) → IsGreedy One More i j e c a rest
  greedy_of_greatest g = record {
    longest = λ f d b qs one others. head_not_before e c f d a b rest qs (g.most (next f d b qs) (one, others));
    first = record {
      holds = g.holds.0;
      most = λ d b one. head_at_least e c d a b rest (g.most (next e d b rest) (one, g.holds.1));
    };
    others = record {
      holds = g.holds.1;
      most = λ qs others. rest_at_least e c a rest qs (g.most (next e c a qs) (g.holds.0, others));
    };
  }

-- the head of the iterations after k, and those after it
pub greatest_of_iterations : (One : IsOneParse) (m : ℕ) (n : Option ℕ) (k i j e c : ℕ) (a rest : Parses) →
    IsGreedy (IsIteration One m n k) (AreIterations One m n (suc k)) i j e c a rest →
    AreGreatest (AreIterations One m n k i j) (next e c a rest)
greatest_of_iterations One m n k i j e c a rest g =
    let best : AreGreatest (IsNext (IsIteration One m n k) (AreIterations One m n (suc k)) i j) (next e c a rest) =
    greatest_of_greedy (IsIteration One m n k) (AreIterations One m n (suc k)) i j e c a rest g in
    record {
      holds = best.holds;
      most = elim [
        | no_more ↦ λ h. inr tt
        | next f d b qs ↦ λ h. best.most (next f d b qs) h
      ];
    }

pub iterations_of_greatest : (One : IsOneParse) (m : ℕ) (n : Option ℕ) (k i j e c : ℕ) (a rest : Parses) →
    AreGreatest (AreIterations One m n k i j) (next e c a rest) →
    IsGreedy (IsIteration One m n k) (AreIterations One m n (suc k)) i j e c a rest
iterations_of_greatest One m n k i j e c a rest g =
    greedy_of_greatest (IsIteration One m n k) (AreIterations One m n (suc k)) i j e c a rest (record {
      holds = g.holds;
      most = elim [
        | no_more ↦ λ h. elim h [ ]
        | next f d b qs ↦ λ h. g.most (next f d b qs) h
      ];
    })

-- rows for which P holds are at most one greatest
pub greatest_is_one : (P : Parses → Type 0) (ps qs : Parses) → AreGreatest P ps → AreGreatest P qs → ps ≡ qs
greatest_is_one P ps qs g h =
    elim (g.most qs h.holds) [
      | inl e ↦ e
      | inr up ↦ elim (h.most ps g.holds) [
        | inl e ↦ sym e
        | inr down ↦ absurd (greater_asymmetric ps qs up down)
      ]
    ]

-- the choice is settled, so the parses inside alone compare
pub settled : (P : Parses → Type 0) (c : ℕ) (a : Parses) →
    IsGreatestParse (λ d b. (d ≡ 0) × P b) c a ↔ (c ≡ 0) × AreGreatest P a
settled P c a = (
  (λ g. (
    g.holds.0,
    record {
      holds = g.holds.1;
      most = λ b h. elim (g.most c b (g.holds.0, h)) [
        | inl less ↦ absurd (omega arith)
        | inr same ↦ same.1
      ];
    },
  )),
  (λ g. record {
    holds = (g.0, g.1.holds);
    most = λ d b h. inr (g.0 ∙ sym h.0, g.1.most b h.1);
  }),
)

-- the laws of the kinds of parts, as `Laws` of specs/ states them
pub pieces_are_greedy : PiecesAreGreedy
pieces_are_greedy fold w t ts i j e c a rest = (
  greedy_of_greatest (IsParse fold w t) (ArePieces fold w ts) i j e c a rest,
  greatest_of_greedy (IsParse fold w t) (ArePieces fold w ts) i j e c a rest,
)

pub branch_has_greatest_pieces : BranchHasGreatestPieces
branch_has_greatest_pieces fold w ts i j c a = settled (ArePieces fold w ts i j) c a

pub repetition_has_greatest_iterations : RepetitionHasGreatestIterations
repetition_has_greatest_iterations fold w t m n i j c a = settled (AreIterations (IsParse fold w t) m n 0 i j) c a

pub group_has_greatest_inside : GroupHasGreatestInside
group_has_greatest_inside fold w g t i j c a = settled (IsAlone (IsParse fold w t) i j) c a

pub iterations_are_greedy : IterationsAreGreedy
iterations_are_greedy fold w t m n k i j e c a rest = (
  iterations_of_greatest (IsParse fold w t) m n k i j e c a rest,
  greatest_of_iterations (IsParse fold w t) m n k i j e c a rest,
)

not_the_least : (e c : ℕ) (a rest : Parses) → IsAtLeast no_more (next e c a rest) → ⊥
not_the_least e c a rest (inl h) = cc h
not_the_least e c a rest (inr h) = h

pub iterations_stop_last : IterationsStopLast
iterations_stop_last fold w t m n k i j = (
  (λ g. (g.holds, λ e c a rest h. not_the_least e c a rest (g.most (next e c a rest) h))),
  (λ g. record {
    holds = g.0;
    most = elim [
      | no_more ↦ λ h. inl refl
      | next e c a rest ↦ λ h. absurd (g.1 e c a rest h)
    ];
  }),
)

-- a later branch is no more than an earlier one
not_later : (c d : ℕ) (a b : Parses) → IsPartAtLeast c a d b → d < c → ⊥
not_later c d a b (inl h) k = omega arith
not_later c d a b (inr h) k = let p : c ≡ d = h.0 in omega arith

same_branch : (c : ℕ) (a b : Parses) → IsPartAtLeast c a c b → IsAtLeast a b
same_branch c a b (inl h) = absurd (omega arith)
same_branch c a b (inr h) = h.1

order_of : (c d : ℕ) → (d < c) ⊎ ((c < d) ⊎ (c ≡ d))
order_of c d = grind arith

pub alternatives_take_earliest : AlternativesTakeEarliest
alternatives_take_earliest fold w ts i j c a = (
  (λ g. (
    (λ d b less h. not_later c d a b (g.most d b h) less),
    record {
      holds = g.holds;
      most = λ b h. same_branch c a b (g.most c b h);
    },
  )),
  (λ g. record {
    holds = g.1.holds;
    most = λ d b h. elim (order_of c d) [
      | inl less ↦ absurd (g.0 d b less h)
      | inr rest ↦ elim rest [
        | inl later ↦ inl later
        | inr same ↦ inr (same, g.1.most b (subst (λ x. IsBranch fold w ts x i j b) (sym same) h))
      ]
    ];
  }),
)

pub alone_of_greatest : (One : IsOneParse) (i j e c : ℕ) (a rest : Parses) →
    AreGreatest (IsAlone One i j) (next e c a rest) → (e ≡ j) × (rest ≡ no_more) × IsGreatestParse (One i j) c a
alone_of_greatest One i j e c a rest g =
    let end : e ≡ j = g.holds.1.0 in (
      end,
      g.holds.1.1,
      subst (λ x. IsGreatestParse (One i x) c a) end (greedy_of_greatest One AreNoParses i j e c a rest g).first,
    )

pub greatest_of_alone : (One : IsOneParse) (i j c : ℕ) (a : Parses) →
    IsGreatestParse (One i j) c a → AreGreatest (IsAlone One i j) (next j c a no_more)
greatest_of_alone One i j c a g = greatest_of_greedy One AreNoParses i j j c a no_more (record {
  longest = λ f d b qs one none. let e : f ≡ j = none.0 in omega arith;
  first = g;
  others = record { holds = (refl, refl); most = λ qs h. inl (sym h.1) };
})

pub alone_is_greatest : AloneIsGreatest
alone_is_greatest fold w t i j e c a rest = (
  alone_of_greatest (IsParse fold w t) i j e c a rest,
  (λ h. subst (λ x. AreGreatest (IsAlone (IsParse fold w t) i j) (next x c a rest)) (sym h.0)
      (subst (λ x. AreGreatest (IsAlone (IsParse fold w t) i j) (next j c a x)) (sym h.1)
      (greatest_of_alone (IsParse fold w t) i j c a h.2))),
)
