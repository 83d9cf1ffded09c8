-- The ends of pieces and of iterations, one before what is left of them.
use Rattle.std.proofs.Common.{◌≡◌, ℕ, zero, suc, ◌+◌, ◌<◌, ◌≤◌, max, ◌⊎◌, inl, inr, refl, sym, ◌∙◌, subst, arith, Bool}
use Rattle.std.proofs.Common.{true, false, List, [], length, set, IsTrue, Option, Some, None}
use Rattle.std.proofs.lemmas.List.{get_or-set_same, get_or-set_other, length-set}
use Rattle.posix_ere.specs.Tree.{Tree, Trees, none, more}
use Rattle.posix_ere.specs.Parts.{count_of, part}
use Rattle.submatch.specs.Parses.{Parses, no_more, next, IsParse, ArePieces, IsBelow, AreIterations}
use Rattle.submatch.specs.Rows.{Row, Has, AreEnds, Leads, IsColumn, AreForward, IsAllowed, IsThrough, StopsOrGoes, IsClosedFrom}
use Rattle.submatch.specs.Ends.{Reaches, RowReaches, parts_from}
use Rattle.submatch.proofs.EndsLemmas.{IsWithin, parse_within}
use Rattle.submatch.proofs.ColumnLemmas.{renamed_column, leads_at, leads_has, leads_inside}

-- the parts from k on, where there are some
pub parts_split : (k : ℕ) (ts : Trees) → k < count_of ts → parts_from k ts ≡ more (part ts k) (parts_from (suc k) ts)
parts_split k none less = absurd (omega arith)
parts_split zero (more t ts) less = refl
parts_split (suc k) (more t ts) less = parts_split k ts (omega arith)

pub parts_end : (ts : Trees) → parts_from (count_of ts) ts ≡ none
parts_end none = refl
parts_end (more t ts) = parts_end ts

-- one part and then what is left
pub record IsStepThen (One Rest : ℕ → ℕ → Type 0) (empties : Bool) (i j : ℕ) : Type 0 where
  pub at : ℕ
  pub first : One i at
  pub allowed : IsAllowed empties i at
  pub others : Rest at j

-- a column of the ends of a part goes on forward
pub forward_column : (fold : Bool) (w : List ℕ) (t : Tree) (rows : List Row) → IsColumn (length w) (Reaches (IsParse fold w t)) rows →
    AreForward (length w) rows
forward_column fold w t rows column i j h =
    let inside : i < length rows = leads_inside rows i j h in
    let short : length rows ≤ length w + 1 = column.short in
    let r = column.each i j h in
    let e : IsWithin (length w) i j = parse_within fold w t i j r.0 r.1 r.2 in
    (e.forward, e.inside (omega arith))

module _ (fold : Bool) (w : List ℕ) (t : Tree) (Rest : ℕ → ℕ → Type 0) (empties : Bool) (part rest : List Row) where
  -- going through both columns is one step and then the rest
  pub through_to : IsColumn (length w) (Reaches (IsParse fold w t)) part → IsColumn (length w) Rest rest → (i j : ℕ) →
      IsThrough empties part rest i j → IsStepThen (Reaches (IsParse fold w t)) Rest empties i j
  through_to one others i j h = record {
    at = h.at;
    first = one.each i h.at h.leads;
    allowed = h.allowed;
    others = others.each h.at j h.others;
  }

  pub through_from : IsColumn (length w) (Reaches (IsParse fold w t)) part → IsColumn (length w) Rest rest → (i j : ℕ) → i ≤ length w →
      IsStepThen (Reaches (IsParse fold w t)) Rest empties i j → IsThrough empties part rest i j
  through_from one others i j within h =
      let e : IsWithin (length w) i h.at = parse_within fold w t i h.at h.first.0 h.first.1 h.first.2 in
      record {
        at = h.at;
        leads = one.all i h.at within h.first;
        allowed = h.allowed;
        others = others.all h.at j (e.inside within) h.others;
      }

module _ (fold : Bool) (w : List ℕ) (ts : Trees) where
  -- what is left of the pieces after the first k
  abbrev pub Pieces : ℕ → ℕ → ℕ → Type 0
  Pieces k = RowReaches (ArePieces fold w (parts_from k ts))

  join_more : (t : Tree) (others : Trees) (i j : ℕ) → IsStepThen (Reaches (IsParse fold w t)) (RowReaches (ArePieces fold w others)) true i j →
      RowReaches (ArePieces fold w (more t others)) i j
  join_more t others i j s = (next s.at s.first.0 s.first.1 s.others.0, (s.first.2, s.others.1))

  split_row : (t : Tree) (others : Trees) (i j : ℕ) (ps : Parses) → ArePieces fold w (more t others) i j ps →
      IsStepThen (Reaches (IsParse fold w t)) (RowReaches (ArePieces fold w others)) true i j
  split_row t others i j no_more h = absurd h
  split_row t others i j (next e c a rest) h =
      record { at = e; first = (c, a, h.0); allowed = λ same. refl; others = (rest, h.1) }

  split_pieces : (k : ℕ) → k < count_of ts → (i j : ℕ) → Pieces k i j → IsStepThen (Reaches (IsParse fold w (part ts k))) (Pieces (suc k)) true i j
  split_pieces k less i j h = split_row (part ts k) (parts_from (suc k) ts) i j h.0
      (subst (λ x. ArePieces fold w x i j h.0) (parts_split k ts less) h.1)

  join_pieces : (k : ℕ) → k < count_of ts → (i j : ℕ) → IsStepThen (Reaches (IsParse fold w (part ts k))) (Pieces (suc k)) true i j → Pieces k i j
  join_pieces k less i j s = subst (λ x. RowReaches (ArePieces fold w x) i j) (sym (parts_split k ts less))
      (join_more (part ts k) (parts_from (suc k) ts) i j s)

  -- one piece more, before the others
  pub pieces_column : (k : ℕ) (one rest new : List Row) → k < count_of ts → IsColumn (length w) (Reaches (IsParse fold w (part ts k))) one →
      IsColumn (length w) (Pieces (suc k)) rest → IsColumn (length w) (StopsOrGoes false true one rest) new → IsColumn (length w) (Pieces k) new
  pieces_column k one rest new less first others column = renamed_column (length w) (StopsOrGoes false true one rest) (Pieces k) new
      (λ i j within h. elim h [
        | inl stop ↦ absurd (let e : false ≡ true = stop.0 in cc e)
        | inr go ↦ join_pieces k less i j (through_to fold w (part ts k) (Pieces (suc k)) true one rest first others i j go)
      ])
      (λ i j within h. inr (through_from fold w (part ts k) (Pieces (suc k)) true one rest first others i j within (split_pieces k less i j h)))
      column

  -- the last piece alone
  pub last_piece : (k : ℕ) (one : List Row) → suc k ≡ count_of ts → IsColumn (length w) (Reaches (IsParse fold w (part ts k))) one →
      IsColumn (length w) (Pieces k) one
  last_piece k one last column = renamed_column (length w) (Reaches (IsParse fold w (part ts k))) (Pieces k) one
      (λ i j within h. join_pieces k (omega arith) i j (record { at = j; first = h; allowed = λ same. refl; others = nothing j }))
      (λ i j within h. ended i j (split_pieces k (omega arith) i j h))
      column
    where
      nothing : (j : ℕ) → Pieces (suc k) j j
      nothing j = subst (λ x. RowReaches (ArePieces fold w x) j j) (sym (subst (λ x. parts_from x ts ≡ none) (sym last) (parts_end ts))) (no_more, (refl, refl))

      ended : (i j : ℕ) → IsStepThen (Reaches (IsParse fold w (part ts k))) (Pieces (suc k)) true i j → Reaches (IsParse fold w (part ts k)) i j
      ended i j s =
          let rest : RowReaches (ArePieces fold w none) s.at j =
          subst (λ x. RowReaches (ArePieces fold w x) s.at j) (subst (λ x. parts_from x ts ≡ none) (sym last) (parts_end ts)) s.others in
          subst (λ x. Reaches (IsParse fold w (part ts k)) i x) rest.1.0 s.first

  -- no pieces
  pub no_pieces : (rows : List Row) → count_of ts ≡ 0 → IsColumn (length w) (λ i j. IsTrue true × (i ≡ j)) rows → IsColumn (length w) (Pieces 0) rows
  no_pieces rows e column = renamed_column (length w) (λ i j. IsTrue true × (i ≡ j)) (Pieces 0) rows
      (λ i j within h. subst (λ x. RowReaches (ArePieces fold w x) i j) (sym empty) (no_more, (h.1, refl)))
      (λ i j within h. (refl, (subst (λ x. RowReaches (ArePieces fold w x) i j) empty h).1.0))
      column
    where
      empty : parts_from 0 ts ≡ none
      empty = subst (λ x. parts_from x ts ≡ none) e (parts_end ts)

  -- with a piece that never matches, the pieces never do
  pub dead_pieces : (k n : ℕ) → k + n < count_of ts → ((i j : ℕ) → i ≤ length w → Reaches (IsParse fold w (part ts (k + n))) i j → ⊥) →
      (i j : ℕ) → i ≤ length w → Pieces k i j → ⊥
  dead_pieces k zero less never i j within h =
      let e : k + zero ≡ k = omega arith in
      let s = split_pieces k (omega arith) i j h in
      never i s.at within (subst (λ x. Reaches (IsParse fold w (part ts x)) i s.at) (sym e) s.first)
  dead_pieces k (suc n) less never i j within h =
      let e : k + suc n ≡ suc k + n = omega arith in
      let s = split_pieces k (omega arith) i j h in
      let inside : IsWithin (length w) i s.at = parse_within fold w (part ts k) i s.at s.first.0 s.first.1 s.first.2 in
      dead_pieces (suc k) n (omega arith)
      (λ a b in_text r. never a b in_text (subst (λ x. Reaches (IsParse fold w (part ts x)) a b) (sym e) r))
      s.at j (inside.inside within) s.others

module _ (fold : Bool) (w : List ℕ) (t : Tree) (m : ℕ) (n : Option ℕ) where
  -- what is left of the iterations after the first k
  abbrev pub Iterations : ℕ → ℕ → ℕ → Type 0
  Iterations k = RowReaches (AreIterations (IsParse fold w t) m n k)

  -- no further iteration, or one and then the rest
  iterations_split : (k : ℕ) (empties : Bool) → (suc k ≤ max m 1 → IsTrue empties) → (i j : ℕ) (ps : Parses) →
      AreIterations (IsParse fold w t) m n k i j ps →
      ((i ≡ j) × (m ≤ k)) ⊎ (IsBelow k n × IsStepThen (Reaches (IsParse fold w t)) (Iterations (suc k)) empties i j)
  iterations_split k empties free i j no_more h = inl h
  iterations_split k empties free i j (next e c a rest) h = inr (
    (h.0).allowed,
    record { at = e; first = (c, a, (h.0).holds); allowed = λ same. free ((h.0).advances same); others = (rest, h.1) },
  )

  iterations_join : (k : ℕ) (empties : Bool) → (IsTrue empties → suc k ≤ max m 1) → IsBelow k n → (i j : ℕ) →
      IsStepThen (Reaches (IsParse fold w t)) (Iterations (suc k)) empties i j → Iterations k i j
  iterations_join k empties free below i j s = (
    next s.at s.first.0 s.first.1 s.others.0,
    (record { allowed = below; advances = λ same. free (s.allowed same); holds = s.first.2 }, s.others.1),
  )

  -- one iteration more, before the others
  pub iterations_column : (k : ℕ) (stops empties : Bool) (one rest new : List Row) → IsBelow k n → (m ≤ k → IsTrue stops) → (IsTrue stops → m ≤ k) →
      (suc k ≤ max m 1 → IsTrue empties) → (IsTrue empties → suc k ≤ max m 1) →
      IsColumn (length w) (Reaches (IsParse fold w t)) one → IsColumn (length w) (Iterations (suc k)) rest →
      IsColumn (length w) (StopsOrGoes stops empties one rest) new → IsColumn (length w) (Iterations k) new
  iterations_column k stops empties one rest new below stops_to stops_from free_to free_from first others column =
      renamed_column (length w) (StopsOrGoes stops empties one rest) (Iterations k) new
      (λ i j within h. elim h [
        | inl stop ↦ (no_more, (stop.1, stops_from stop.0))
        | inr go ↦ iterations_join k empties free_from below i j (through_to fold w t (Iterations (suc k)) empties one rest first others i j go)
      ])
      (λ i j within h. elim (iterations_split k empties free_to i j h.0 h.1) [
        | inl stop ↦ inl (stops_to stop.1, stop.0)
        | inr go ↦ inr (through_from fold w t (Iterations (suc k)) empties one rest first others i j within go.1)
      ])
      column

module _ (fold : Bool) (w : List ℕ) (t : Tree) (m : ℕ) where
  -- the greatest count of iterations has come
  pub last_iterations : (n : ℕ) (stops : Bool) (rows : List Row) → (m ≤ n → IsTrue stops) → (IsTrue stops → m ≤ n) →
      IsColumn (length w) (λ i j. IsTrue stops × (i ≡ j)) rows → IsColumn (length w) (Iterations fold w t m (Some n) n) rows
  last_iterations n stops rows to back column = renamed_column (length w) (λ i j. IsTrue stops × (i ≡ j)) (Iterations fold w t m (Some n) n) rows
      (λ i j within h. (no_more, (h.1, back h.0)))
      (λ i j within h. ended i j h.0 h.1)
      column
    where
      ended : (i j : ℕ) (ps : Parses) → AreIterations (IsParse fold w t) m (Some n) n i j ps → IsTrue stops × (i ≡ j)
      ended i j no_more h = (to h.1, h.0)
      ended i j (next e c a rest) h = let less : n < n = (h.0).allowed in absurd (omega arith)

  -- once no iteration may be empty, it no longer matters how many came before
  pub loops : (k l : ℕ) → max m 1 ≤ k → max m 1 ≤ l → (i j : ℕ) (ps : Parses) → AreIterations (IsParse fold w t) m None k i j ps →
      AreIterations (IsParse fold w t) m None l i j ps
  loops k l first second i j no_more h = (h.0, omega arith)
  loops k l first second i j (next e c a rest) h = (
    record { allowed = tt; advances = λ same. let more : suc k ≤ max m 1 = (h.0).advances same in absurd (omega arith); holds = (h.0).holds },
    loops (suc k) (suc l) (omega arith) (omega arith) e j rest h.1,
  )

  -- what is left of the iterations once none may be empty
  abbrev pub Loop : ℕ → ℕ → Type 0
  Loop = Iterations fold w t m None (max m 1)

  loop_stop : (i : ℕ) → Loop i i
  loop_stop i = (no_more, (refl, omega arith))

  loop_go : (i j : ℕ) → IsStepThen (Reaches (IsParse fold w t)) Loop false i j → Loop i j
  loop_go i j s = (
    next s.at s.first.0 s.first.1 s.others.0,
    (
      record { allowed = tt; advances = λ same. let e : false ≡ true = s.allowed same in cc e; holds = s.first.2 },
      loops (max m 1) (suc (max m 1)) (omega arith) (omega arith) s.at j s.others.0 s.others.1,
    ),
  )

  loop_split : (i j : ℕ) (ps : Parses) → AreIterations (IsParse fold w t) m None (max m 1) i j ps →
      (i ≡ j) ⊎ IsStepThen (Reaches (IsParse fold w t)) Loop false i j
  loop_split i j no_more h = inl h.0
  loop_split i j (next e c a rest) h = inr (record {
    at = e;
    first = (c, a, (h.0).holds);
    allowed = λ same. let more : suc (max m 1) ≤ max m 1 = (h.0).advances same in absurd (omega arith);
    others = (rest, loops (suc (max m 1)) (max m 1) (omega arith) (omega arith) e j rest h.1);
  })

  -- the loop goes on after itself
  loop_through : (i j l : ℕ) (ps : Parses) → AreIterations (IsParse fold w t) m None (max m 1) i j ps → Loop j l → Loop i l
  loop_through i j l no_more h others = subst (λ x. Loop x l) (sym h.0) others
  loop_through i j l (next e c a rest) h others = loop_go i l (record {
    at = e;
    first = (c, a, (h.0).holds);
    allowed = λ same. let more : suc (max m 1) ≤ max m 1 = (h.0).advances same in absurd (omega arith);
    others = loop_through e j l rest (loops (suc (max m 1)) (max m 1) (omega arith) (omega arith) e j rest h.1) others;
  })

  -- the rows from place k on are those of the loop
  pub record IsLoopedFrom (k : ℕ) (rows : List Row) : Type 0 where
    pub long : length rows ≡ length w + 1
    pub each : (i j : ℕ) → k ≤ i → Leads rows i j → Loop i j
    pub all : (i j : ℕ) → k ≤ i → i ≤ length w → Loop i j → Leads rows i j

  at_or_after : (k i : ℕ) → k ≤ i → (i ≡ k) ⊎ (k + 1 ≤ i)
  at_or_after k i h = grind arith

  pub looped_next : (k : ℕ) (part rows new : List Row) (row : Row) → k ≤ length w → IsColumn (length w) (Reaches (IsParse fold w t)) part →
      new ≡ set rows k row → AreEnds (StopsOrGoes true false part rows k) row → IsLoopedFrom (k + 1) rows → IsLoopedFrom k new
  looped_next k one_rows rows new row inside one e ends later = subst (λ x. IsLoopedFrom k x) (sym e) (record {
    long = length-set rows k row ∙ later.long;
    each = λ i j from h. elim (at_or_after k i from) [
      | inl same ↦ subst (λ x. Loop x j) (sym same) (here j (subst (λ r. Has r j) (get_or-set_same rows k row [] (omega (arith, later.long)))
          (leads_has (set rows k row) k j [] (subst (λ x. Leads (set rows k row) x j) same h))))
      | inr after ↦ later.each i j after (old_leads i j after h)
    ];
    all = λ i j from within h. elim (at_or_after k i from) [
      | inl same ↦ subst (λ x. Leads (set rows k row) x j) (sym same) (new_leads j (there j (subst (λ x. Loop x j) same h)))
      | inr after ↦ kept_leads i j after (later.all i j after within h)
    ];
  })
    where
      past : (at : ℕ) → k ≤ at → IsAllowed false k at → k + 1 ≤ at
      past at up allowed = elim (at_or_after k at up) [
        | inl same ↦ let e : false ≡ true = allowed (sym same) in cc e
        | inr after ↦ after
      ]

      old_leads : (i j : ℕ) → k + 1 ≤ i → Leads (set rows k row) i j → Leads rows i j
      old_leads i j after h =
          let inside : i < length (set rows k row) = leads_inside (set rows k row) i j h in
          let long : length (set rows k row) ≡ length rows = length-set rows k row in
          leads_at rows i j [] (omega arith)
          (subst (λ r. Has r j) (get_or-set_other rows k i row [] (λ same. omega arith))
          (leads_has (set rows k row) i j [] h))

      kept_leads : (i j : ℕ) → k + 1 ≤ i → Leads rows i j → Leads (set rows k row) i j
      kept_leads i j after h =
          let inside : i < length rows = leads_inside rows i j h in
          let long : length (set rows k row) ≡ length rows = length-set rows k row in
          leads_at (set rows k row) i j [] (omega arith)
          (subst (λ r. Has r j) (sym (get_or-set_other rows k i row [] (λ same. omega arith)))
          (leads_has rows i j [] h))

      new_leads : (j : ℕ) → Has row j → Leads (set rows k row) k j
      new_leads j h =
          let long : length (set rows k row) ≡ length rows = length-set rows k row in
          let e : length rows ≡ length w + 1 = later.long in
          leads_at (set rows k row) k j [] (omega arith) (subst (λ r. Has r j) (sym (get_or-set_same rows k row [] (omega arith))) h)

      here : (j : ℕ) → Has row j → Loop k j
      here j h = elim (ends.each j h) [
        | inl stop ↦ subst (λ x. Loop k x) stop.1 (loop_stop k)
        | inr go ↦
            let r = one.each k go.at go.leads in
            let e : IsWithin (length w) k go.at = parse_within fold w t k go.at r.0 r.1 r.2 in
            let up : k ≤ go.at = e.forward in
            loop_go k j (record { at = go.at; first = r; allowed = go.allowed; others = later.each go.at j (past go.at up go.allowed) go.others })
      ]

      there : (j : ℕ) → Loop k j → Has row j
      there j h = ends.all j (elim (loop_split k j h.0 h.1) [
        | inl stop ↦ inl (refl, stop)
        | inr go ↦
            let e : IsWithin (length w) k go.at = parse_within fold w t k go.at go.first.0 go.first.1 go.first.2 in
            let up : k ≤ go.at = e.forward in
            inr (record {
              at = go.at;
              leads = one.all k go.at inside go.first;
              allowed = go.allowed;
              others = later.all go.at j (past go.at up go.allowed) (e.inside inside) go.others;
            })
      ])

  pub looped_closed : (k : ℕ) (rows : List Row) → IsLoopedFrom k rows → IsClosedFrom k rows
  looped_closed k rows looped i j l up after first second =
      let inside : i < length rows = leads_inside rows i j first in
      let long : length rows ≡ length w + 1 = looped.long in
      let go = looped.each i j up first in
      looped.all i l up (omega arith) (loop_through i j l go.0 go.1 (looped.each j l after second))

  pub loop_closed : (rows : List Row) → IsColumn (length w) Loop rows → IsClosedFrom 0 rows
  loop_closed rows column i j l up after first second =
      let inside : i < length rows = leads_inside rows i j first in
      let short : length rows ≤ length w + 1 = column.short in
      let go = column.each i j first in
      column.all i l (omega arith) (loop_through i j l go.0 go.1 (column.each j l second))

  pub looped_none : (rows : List Row) → length rows ≡ length w + 1 → (k : ℕ) → k ≡ length w + 1 → IsLoopedFrom k rows
  looped_none rows long k e = record {
    long = long;
    each = λ i j from h. let inside : i < length rows = leads_inside rows i j h in absurd (omega arith);
    all = λ i j from within h. absurd (omega arith);
  }

  pub looped_all : (rows : List Row) → IsLoopedFrom 0 rows → IsColumn (length w) Loop rows
  looped_all rows h = record {
    short = let e : length rows ≡ length w + 1 = h.long in omega arith;
    each = λ i j. h.each i j (omega arith);
    all = λ i j. h.all i j (omega arith);
  }
