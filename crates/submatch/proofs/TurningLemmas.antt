-- The longest place, gone over from the last place down, and what the columns that lead there say of it.
use Rattle.std.proofs.Common.{◌≡◌, ℕ, suc, ◌+◌, ◌-◌, ◌<◌, ◌≤◌, max, ◌⊎◌, inl, inr, refl, sym, subst, arith, Bool, true}
use Rattle.std.proofs.Common.{List, length, Option, Some, None, IsTrue}
use Rattle.posix_ere.specs.Tree.{Tree, branch, rep, Trees}
use Rattle.posix_ere.specs.Parts.{count_of, part, parts_of}
use Rattle.posix_ere.specs.Nodes.{node_of}
use Rattle.posix_ere.specs.declared.node.Node.TheVariants.{Branch, Rep}
use Rattle.submatch.specs.Parses.{Parses, IsOneParse, AreParses, IsParse, ArePieces, IsBelow, IsIteration, AreIterations}
use Rattle.submatch.specs.Greater.{IsGreedy}
use Rattle.submatch.specs.Rows.{Row, IsColumn, IsTurn}
use Rattle.submatch.specs.Table.{TableValue, HasRest, AreRests, IsUpTo, last_count}
use Rattle.submatch.specs.Ends.{Reaches, RowReaches, IsHeadEnd, IsLongest, TellsLongest, parts_from}
use Rattle.submatch.proofs.EndsLemmas.{IsWithin, parse_within}
use Rattle.submatch.proofs.EndsOfNodesLemmas.{is_branch, is_rep}

module _ (P : ℕ → Type 0) where
  at_or_after : (e f : ℕ) → e ≤ f → (e ≡ f) ⊎ (e + 1 ≤ f)
  at_or_after e f h = grind arith

  -- nor at the place before
  pub none_from : (e n : ℕ) → n ≡ e + 1 → (P e → ⊥) → ((f : ℕ) → n ≤ f → P f → ⊥) → (f : ℕ) → e ≤ f → P f → ⊥
  none_from e n next here later f past holds = elim (at_or_after e f past) [
    | inl same ↦ here (subst P (sym same) holds)
    | inr after ↦ later f (omega arith) holds
  ]

  pub longest_here : (e n : ℕ) → n ≡ e + 1 → P e → ((f : ℕ) → n ≤ f → P f → ⊥) → IsLongest P e
  longest_here e n next here later = record { holds = here; most = λ f holds. at_most f holds }
    where
      compare : (e f : ℕ) → (f ≤ e) ⊎ (e + 1 ≤ f)
      compare e f = grind arith

      at_most : (f : ℕ) → P f → f ≤ e
      at_most f holds = elim (compare e f) [
        | inl less ↦ less
        | inr after ↦ absurd (later f (omega arith) holds)
      ]

-- the same by another name
renamed_longest : (P Q : ℕ → Type 0) → ((f : ℕ) → P f → Q f) → ((f : ℕ) → Q f → P f) → (r : Option ℕ) → TellsLongest P r → TellsLongest Q r
renamed_longest P Q to back None never = λ f h. never f (back f h)
renamed_longest P Q to back (Some e) longest = record { holds = to e longest.holds; most = λ f h. longest.most f (back f h) }

-- a piece, and those after it
pub piece_turns : (fold : Bool) (w : List ℕ) (ts : Trees) (k from to : ℕ) (one rest : List Row) (r : Option ℕ) → from ≤ length w →
    IsColumn (length w) (Reaches (IsParse fold w (part ts k))) one → IsColumn (length w) (RowReaches (ArePieces fold w (parts_from (k + 1) ts))) rest →
    TellsLongest (IsTurn true one rest from to) r →
    TellsLongest (IsHeadEnd (IsParse fold w (part ts k)) (ArePieces fold w (parts_from (k + 1) ts)) from to) r
piece_turns fold w ts k from to one rest r within first others = renamed_longest (IsTurn true one rest from to)
    (IsHeadEnd (IsParse fold w (part ts k)) (ArePieces fold w (parts_from (k + 1) ts)) from to)
    (λ f turn. (first.each from f turn.leads, others.each f to turn.others))
    (λ f h.
    let e : IsWithin (length w) from f = parse_within fold w (part ts k) from f h.0.0 h.0.1 h.0.2 in
    record { leads = first.all from f within h.0; allowed = λ same. refl; others = others.all f to (e.inside within) h.1 }) r

-- an iteration, and further ones
pub iteration_turns : (fold : Bool) (w : List ℕ) (t : Tree) (m : ℕ) (n : Option ℕ) (k from to : ℕ) (empties : Bool) (one rest : List Row) (r : Option ℕ) →
    from ≤ length w → IsBelow k n → (suc k ≤ max m 1 → IsTrue empties) → (IsTrue empties → suc k ≤ max m 1) →
    IsColumn (length w) (Reaches (IsParse fold w t)) one →
    IsColumn (length w) (RowReaches (AreIterations (IsParse fold w t) m n (k + 1))) rest → TellsLongest (IsTurn empties one rest from to) r →
    TellsLongest (IsHeadEnd (IsIteration (IsParse fold w t) m n k) (AreIterations (IsParse fold w t) m n (k + 1)) from to) r
iteration_turns fold w t m n k from to empties one rest r within below free_to free_from first others =
    renamed_longest (IsTurn empties one rest from to)
    (IsHeadEnd (IsIteration (IsParse fold w t) m n k) (AreIterations (IsParse fold w t) m n (k + 1)) from to)
    (λ f turn. let h = first.each from f turn.leads in (
      (h.0, h.1, record { allowed = below; advances = λ same. free_from (turn.allowed same); holds = h.2 }),
      others.each f to turn.others,
    ))
    (λ f h.
    let e : IsWithin (length w) from f = parse_within fold w t from f h.0.0 h.0.1 h.0.2.holds in
    record {
      leads = first.all from f within (h.0.0, h.0.1, h.0.2.holds);
      allowed = λ same. free_to (h.0.2.advances same);
      others = others.all f to (e.inside within) h.1;
    }) r

-- past the greatest count there is no iteration
pub none_allowed : (fold : Bool) (w : List ℕ) (t : Tree) (m : ℕ) (n : Option ℕ) (k from to : ℕ) → (IsBelow k n → ⊥) →
    TellsLongest (IsHeadEnd (IsIteration (IsParse fold w t) m n k) (AreIterations (IsParse fold w t) m n (k + 1)) from to) None
none_allowed fold w t m n k from to over f h = over h.0.2.allowed

-- the rows that a greedy head and rest make
pub head_is_longest : (One : IsOneParse) (More : AreParses) (i j e d c : ℕ) (a rest : Parses) → IsGreedy One More i j e c a rest →
    IsLongest (IsHeadEnd One More i j) d → d ≡ e
head_is_longest One More i j e d c a rest g longest =
    let up : e ≤ d = longest.most e ((c, a, g.first.holds), (rest, g.others.holds)) in
    let down : d ≤ e = g.longest d longest.holds.0.0 longest.holds.0.1 longest.holds.1.0 longest.holds.0.2 longest.holds.1.1 in
    omega arith

pub head_is_there : (One : IsOneParse) (More : AreParses) (i j e c : ℕ) (a rest : Parses) → IsGreedy One More i j e c a rest →
    TellsLongest (IsHeadEnd One More i j) None → ⊥
head_is_there One More i j e c a rest g none_there = none_there e ((c, a, g.first.holds), (rest, g.others.holds))

-- the column of what is left of the pieces of a branch, by its place in the list
pub rest_of_branch : (fold : Bool) (w : List ℕ) (T : TableValue) (rests : List ℕ) (t : Tree) (k place : ℕ) → node_of t ≡ Branch →
    k < count_of (parts_of t) → place ≡ count_of (parts_of t) - 1 - k → AreRests fold w T rests t →
    HasRest (length w) T rests place (RowReaches (ArePieces fold w (parts_from k (parts_of t))))
rest_of_branch fold w T rests t k place e less is h =
    let left : AreRests fold w T rests (branch (parts_of t)) = subst (AreRests fold w T rests) (is_branch t e) h in
    let same : count_of (parts_of t) - suc k ≡ place = omega arith in
    subst (λ x. HasRest (length w) T rests x (RowReaches (ArePieces fold w (parts_from k (parts_of t))))) same (left k less)

-- and of the iterations of a repetition
pub rest_of_rep : (fold : Bool) (w : List ℕ) (T : TableValue) (rests : List ℕ) (t : Tree) (m : ℕ) (o : Option ℕ) (k place : ℕ) → node_of t ≡ Rep m o →
    IsUpTo k o → place ≡ last_count m o - k → AreRests fold w T rests t →
    HasRest (length w) T rests place (RowReaches (AreIterations (IsParse fold w (part (parts_of t) 0)) m o k))
rest_of_rep fold w T rests t m o k place e up is h =
    let left : AreRests fold w T rests (rep m o (part (parts_of t) 0)) = subst (AreRests fold w T rests) (is_rep t m o e) h in
    subst (λ x. HasRest (length w) T rests x (RowReaches (AreIterations (IsParse fold w (part (parts_of t) 0)) m o k))) (sym is) (left k up)
