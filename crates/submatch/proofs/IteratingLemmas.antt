-- The last of the greatest iterations, found by going over them.
use Rattle.std.proofs.Common.{◌≡◌, ℕ, suc, ◌+◌, ◌*◌, ◌<◌, ◌≤◌, max, ◌⊎◌, inl, inr, refl, sym, ◌∙◌, subst, ap, arith, Bool, List, length, Option, Some, None}
use Rattle.std.proofs.lemmas.Nat.{mul-le}
use Rattle.posix_ere.specs.Tree.{Tree}
use Rattle.submatch.specs.declared.spans.Span.{Span}
use Rattle.submatch.specs.Parses.{Parses, no_more, next, IsParse, IsIteration, AreIterations}
use Rattle.submatch.specs.Greater.{AreGreatest, IsGreatestParse}
use Rattle.submatch.specs.Groups.{groups_of, groups_of_last}
use Rattle.submatch.specs.Ends.{Reaches, IsHeadEnd, IsLongest, TellsLongest, LeavesGroupsOf}
use Rattle.submatch.proofs.EndsLemmas.{IsWithin, parse_within}
use Rattle.submatch.proofs.GreedyLemmas.{iterations_of_greatest}
use Rattle.submatch.proofs.TurningLemmas.{none_allowed, head_is_longest, head_is_there}

module _ (fold : Bool) (w : List ℕ) (t : Tree) (m : ℕ) (n : Option ℕ) (from to : ℕ) where
  -- the groups that all iterations leave are those of the last one so far and of what is left
  abbrev LeavesSoFar : ℕ → Parses → Parses → Option Span → Type 0
  LeavesSoFar place ps qs None = groups_of_last (groups_of t) from ps ≡ groups_of_last (groups_of t) place qs
  LeavesSoFar place ps qs (Some s) = (s.to ≡ place) × (c : ℕ) × (a : Parses) × IsGreatestParse (IsParse fold w t s.from s.to) c a ×
      (groups_of_last (groups_of t) from ps ≡ groups_of_last (groups_of t) s.from (next s.to c a qs))

  -- what is left of the greatest iterations ps after the first k
  pub record IsLeft (k place : ℕ) (last : Option Span) (ps : Parses) : Type 0 where
    pub rest : Parses
    pub greatest : AreGreatest (AreIterations (IsParse fold w t) m n k place to) rest
    pub leaves : LeavesSoFar place ps rest last

  -- the last iteration so far begins in the text
  abbrev BeginsInside : Option Span → Type 0
  BeginsInside None = Unit {0}
  BeginsInside (Some s) = s.from ≤ length w

  -- the last iteration so far is one, and there is none only at the beginning
  abbrev IsOneSoFar : ℕ → Option Span → Type 0
  IsOneSoFar k None = k ≡ 0
  IsOneSoFar k (Some s) = Reaches (IsParse fold w t) s.from s.to

  -- the loop over iterations has come to this place after the first k
  pub record HasCome (k place : ℕ) (last : Option Span) : Type 0 where
    pub inside : place ≤ length w
    pub forward : from ≤ place
    pub counted : k + from ≤ max m 1 + place
    pub begins : BeginsInside last
    pub reached : IsOneSoFar k last
    pub left : (ps : Parses) → AreGreatest (AreIterations (IsParse fold w t) m n 0 from to) ps → IsLeft k place last ps

  pub has_begun : from ≤ length w → HasCome 0 from None
  has_begun within = record {
    inside = within;
    forward = omega arith;
    counted = omega arith;
    begins = tt;
    reached = refl;
    left = λ ps g. record { rest = ps; greatest = g; leaves = refl };
  }

  -- the head of what is left becomes the last iteration
  moved : (k place e c : ℕ) (a rest ps : Parses) (last : Option Span) → LeavesSoFar place ps (next e c a rest) last →
      IsGreatestParse (IsParse fold w t place e) c a → LeavesSoFar e ps rest (Some (record { from = place; to = e }))
  moved k place e c a rest ps None leaves g = (refl, c, a, g, leaves)
  moved k place e c a rest ps (Some s) leaves g = (
    refl,
    c,
    a,
    g,
    leaves.4 ∙ ap (λ x. groups_of_last (groups_of t) x (next e c a rest)) leaves.0,
  )

  first_parse : (k place e c : ℕ) (a : Parses) → IsGreatestParse (IsIteration (IsParse fold w t) m n k place e) c a →
      IsGreatestParse (IsParse fold w t place e) c a
  first_parse k place e c a g = record {
    holds = g.holds.holds;
    most = λ d b h. g.most d b (record { allowed = g.holds.allowed; advances = g.holds.advances; holds = h });
  }

  step_left : (k place e : ℕ) (last : Option Span) (ps qs : Parses) →
      IsLongest (IsHeadEnd (IsIteration (IsParse fold w t) m n k) (AreIterations (IsParse fold w t) m n (suc k)) place to) e →
      AreGreatest (AreIterations (IsParse fold w t) m n k place to) qs → LeavesSoFar place ps qs last →
      IsLeft (suc k) e (Some (record { from = place; to = e })) ps
  step_left k place e last ps no_more longest g leaves =
      absurd (not_stopped g (longest.holds))
    where
      not_stopped : AreGreatest (AreIterations (IsParse fold w t) m n k place to) no_more →
          IsHeadEnd (IsIteration (IsParse fold w t) m n k) (AreIterations (IsParse fold w t) m n (suc k)) place to e → ⊥
      not_stopped g h = elim (g.most (next e h.0.0 h.0.1 h.1.0) (h.0.2, h.1.1)) [
        | inl same ↦ cc same
        | inr less ↦ less
      ]
  step_left k place e last ps (next f c a rest) longest g leaves =
      let greedy = iterations_of_greatest (IsParse fold w t) m n k place to f c a rest g in
      let same : e ≡ f = head_is_longest (IsIteration (IsParse fold w t) m n k)
      (AreIterations (IsParse fold w t) m n (suc k)) place to f e c a rest greedy longest in
      subst (λ x. IsLeft (suc k) x (Some (record { from = place; to = x })) ps) (sym same) (record {
        rest = rest;
        greatest = greedy.others;
        leaves = moved k place f c a rest ps last leaves (first_parse k place f c a greedy.first);
      })

  pub has_gone_on : (k place e : ℕ) (last : Option Span) →
      IsLongest (IsHeadEnd (IsIteration (IsParse fold w t) m n k) (AreIterations (IsParse fold w t) m n (k + 1)) place to) e →
      HasCome k place last → HasCome (k + 1) e (Some (record { from = place; to = e }))
  has_gone_on k place e last longest so_far =
      let next_k : k + 1 ≡ suc k = omega arith in
      let longest' : IsLongest (IsHeadEnd (IsIteration (IsParse fold w t) m n k) (AreIterations (IsParse fold w t) m n (suc k)) place to) e =
      subst (λ x. IsLongest (IsHeadEnd (IsIteration (IsParse fold w t) m n k) (AreIterations (IsParse fold w t) m n x) place to) e) next_k longest in
      let it = longest.holds.0.2 in
      let here : IsWithin (length w) place e = parse_within fold w t place e longest.holds.0.0 longest.holds.0.1 it.holds in
      record {
        inside = here.inside so_far.inside;
        forward = let a : from ≤ place = so_far.forward in let b : place ≤ e = here.forward in omega arith;
        counted = let a : from ≤ place = so_far.forward in let b : place ≤ e = here.forward in
            let counted_here : k + from ≤ max m 1 + place = so_far.counted in
            elim (same_or_less place e b) [
              | inl same ↦ let first : suc k ≤ max m 1 = it.advances same in omega arith
              | inr less ↦ omega arith
            ];
        begins = so_far.inside;
        reached = (longest.holds.0.0, longest.holds.0.1, it.holds);
        left = λ ps g. let l : IsLeft k place last ps = so_far.left ps g in
            subst (λ x. IsLeft x e (Some (record { from = place; to = e })) ps) (sym next_k)
            (step_left k place e last ps l.rest longest' l.greatest l.leaves);
      }
    where
      same_or_less : (i j : ℕ) → i ≤ j → (i ≡ j) ⊎ (i < j)
      same_or_less i j h = grind arith

  stopped : (place : ℕ) (last : Option Span) (ps : Parses) → LeavesSoFar place ps no_more last → LeavesGroupsOf fold w t from ps last
  stopped place None ps leaves = leaves
  stopped place (Some s) ps leaves = (leaves.1, leaves.2, leaves.3, leaves.4)

  pub has_stopped : (k place : ℕ) (last : Option Span) →
      TellsLongest (IsHeadEnd (IsIteration (IsParse fold w t) m n k) (AreIterations (IsParse fold w t) m n (k + 1)) place to) None →
      HasCome k place last → (ps : Parses) → AreGreatest (AreIterations (IsParse fold w t) m n 0 from to) ps → LeavesGroupsOf fold w t from ps last
  has_stopped k place last never so_far ps g =
      let l : IsLeft k place last ps = so_far.left ps g in
      let next_k : k + 1 ≡ suc k = omega arith in
      let never' : TellsLongest (IsHeadEnd (IsIteration (IsParse fold w t) m n k) (AreIterations (IsParse fold w t) m n (suc k)) place to) None =
      subst (λ x. TellsLongest (IsHeadEnd (IsIteration (IsParse fold w t) m n k) (AreIterations (IsParse fold w t) m n x) place to) None) next_k never in
      stopped place last ps (no_rest l.rest l.greatest never' l.leaves)
    where
      no_rest : (qs : Parses) → AreGreatest (AreIterations (IsParse fold w t) m n k place to) qs →
          TellsLongest (IsHeadEnd (IsIteration (IsParse fold w t) m n k) (AreIterations (IsParse fold w t) m n (suc k)) place to) None →
          LeavesSoFar place ps qs last → LeavesSoFar place ps no_more last
      no_rest no_more g never leaves = leaves
      no_rest (next e c a rest) g never leaves = absurd (head_is_there (IsIteration (IsParse fold w t) m n k)
          (AreIterations (IsParse fold w t) m n (suc k)) place to e c a rest (iterations_of_greatest (IsParse fold w t) m n k place to e c a rest g) never)

-- no more iterations than the bound can come
pub at_the_bound : (fold : Bool) (w : List ℕ) (t : Tree) (m : ℕ) (n : Option ℕ) (from to k bound place : ℕ) (last : Option Span) → k ≡ bound →
    ((x : ℕ) → n ≡ Some x → bound ≡ x) → (n ≡ None → bound ≡ max m 1 + length w + 1) → HasCome fold w t m n from to k place last →
    TellsLongest (IsHeadEnd (IsIteration (IsParse fold w t) m n k) (AreIterations (IsParse fold w t) m n (k + 1)) place to) None
at_the_bound fold w t m (Some x) from to k bound place last e some none so_far =
    none_allowed fold w t m (Some x) k place to (λ below. let same : bound ≡ x = some x refl in omega arith)
at_the_bound fold w t m None from to k bound place last e some none so_far =
    let a : place ≤ length w = so_far.inside in
    let b : k + from ≤ max m 1 + place = so_far.counted in
    let c : bound ≡ max m 1 + length w + 1 = none refl in absurd (omega arith)

-- what all turns look up
pub turns_within : (s t k bound most n : ℕ) → k ≤ bound → bound ≤ most → t ≤ s + k * (n + 2) → t ≤ s + most * (n + 2)
turns_within s t k bound most n less up h = let a : k * (n + 2) ≤ most * (n + 2) = mul-le k (n + 2) most (n + 2) (omega arith) (omega arith) in omega arith
