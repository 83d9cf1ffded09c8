-- The ends of each kind of part.
use Rattle.std.proofs.Common.{◌≡◌, ℕ, zero, suc, ◌+◌, ◌<◌, ◌≤◌, ◌⊎◌, inl, inr, refl, sym, ◌∙◌, subst, ap, arith, Bool}
use Rattle.std.proofs.Common.{true, false, List, length, IsTrue, Option, slice_get, slice_index, get_or, Some}
use Rattle.std.proofs.Math.Dec.{ltb}
use Rattle.std.proofs.lemmas.List.{get_or_default}
use Rattle.std.proofs.lemmas.Option.{slice_get_read, slice_get_within}
use Rattle.std.proofs.lemmas.Bool.{ltb-true, ltb-false}
use Rattle.posix_ere.specs.Tree.{byte, any, set, start, end, Tree, atom, alt, branch, group, rep, Trees, none, more}
use Rattle.posix_ere.specs.Parts.{count_of, part, parts_of}
use Rattle.posix_ere.specs.Nodes.{node_of}
use Rattle.posix_ere.specs.declared.node.Node.{Node}
use Rattle.posix_ere.specs.declared.node.Node.TheVariants.{Alt, Branch, Byte, Any, Set, Start, End, Group, Rep}
use Rattle.submatch.specs.Bytes.{CoversByte}
use Rattle.submatch.specs.Parses.{Parses, no_more, next, IsAlone, IsParse, IsBranch}
use Rattle.submatch.specs.Rows.{Row, AreEnds, IsColumn}
use Rattle.submatch.specs.Table.{TableValue, LeadsSome, column_at, part_at}
use Rattle.submatch.specs.Ends.{Reaches, RowReaches, IsLeaf, takes_byte}
use Rattle.submatch.proofs.ColumnLemmas.{renamed_ends, renamed_column}
use Rattle.submatch.proofs.EndsOfRowsLemmas.{Pieces, Iterations}

pub is_start : (t : Tree) → node_of t ≡ Start → t ≡ atom start
is_start (atom (byte b)) e = cc e
is_start (atom any) e = cc e
is_start (atom (set n bytes)) e = cc e
is_start (atom start) e = refl
is_start (atom end) e = cc e
is_start (alt ts) e = cc e
is_start (branch ts) e = cc e
is_start (group g t) e = cc e
is_start (rep m n t) e = cc e

pub is_end : (t : Tree) → node_of t ≡ End → t ≡ atom end
is_end (atom (byte b)) e = cc e
is_end (atom any) e = cc e
is_end (atom (set n bytes)) e = cc e
is_end (atom start) e = cc e
is_end (atom end) e = refl
is_end (alt ts) e = cc e
is_end (branch ts) e = cc e
is_end (group g t) e = cc e
is_end (rep m n t) e = cc e

pub is_alt : (t : Tree) → node_of t ≡ Alt → t ≡ alt (parts_of t)
is_alt (atom (byte b)) e = cc e
is_alt (atom any) e = cc e
is_alt (atom (set n bytes)) e = cc e
is_alt (atom start) e = cc e
is_alt (atom end) e = cc e
is_alt (alt ts) e = refl
is_alt (branch ts) e = cc e
is_alt (group g t) e = cc e
is_alt (rep m n t) e = cc e

pub is_branch : (t : Tree) → node_of t ≡ Branch → t ≡ branch (parts_of t)
is_branch (atom (byte b)) e = cc e
is_branch (atom any) e = cc e
is_branch (atom (set n bytes)) e = cc e
is_branch (atom start) e = cc e
is_branch (atom end) e = cc e
is_branch (alt ts) e = cc e
is_branch (branch ts) e = refl
is_branch (group g t) e = cc e
is_branch (rep m n t) e = cc e

pub is_group : (t : Tree) (h : ℕ) → node_of t ≡ Group h → t ≡ group h (part (parts_of t) 0)
is_group (atom (byte b)) h e = cc e
is_group (atom any) h e = cc e
is_group (atom (set n bytes)) h e = cc e
is_group (atom start) h e = cc e
is_group (atom end) h e = cc e
is_group (alt ts) h e = cc e
is_group (branch ts) h e = cc e
is_group (group g t) h e = let same : g ≡ h = cc e in ap (λ x. group x t) same
is_group (rep m n t) h e = cc e

pub is_rep : (t : Tree) (l : ℕ) (o : Option ℕ) → node_of t ≡ Rep l o → t ≡ rep l o (part (parts_of t) 0)
is_rep (atom (byte b)) l o e = cc e
is_rep (atom any) l o e = cc e
is_rep (atom (set n bytes)) l o e = cc e
is_rep (atom start) l o e = cc e
is_rep (atom end) l o e = cc e
is_rep (alt ts) l o e = cc e
is_rep (branch ts) l o e = cc e
is_rep (group g t) l o e = cc e
is_rep (rep m n t) l o e = let p : m ≡ l = cc e in let q : n ≡ o = cc e in cc (p, q)

-- a group or a repetition has a part
pub has_part_of_group : (t : Tree) (h : ℕ) → node_of t ≡ Group h → 0 < count_of (parts_of t)
has_part_of_group t h e = subst (λ x. 0 < count_of (parts_of x)) (sym (is_group t h e)) (omega arith)

-- a part for one byte
abbrev pub IsByteNode : Node → Type 0
IsByteNode (Byte b) = Unit {0}
IsByteNode Any = Unit {0}
IsByteNode (Set negated) = Unit {0}
IsByteNode _ = ⊥

module _ (fold : Bool) (w : List ℕ) where
  pub ends_of_start : (t : Tree) (from : ℕ) (places : Row) (Holds : Type 0) → node_of t ≡ Start → (Holds → from ≡ 0) → (from ≡ 0 → Holds) →
      AreEnds (λ j. Holds × (from ≡ j)) places → AreEnds (Reaches (IsParse fold w t) from) places
  ends_of_start t from places Holds e there back ends =
      subst (λ x. AreEnds (Reaches (IsParse fold w x) from) places) (sym (is_start t e))
      (renamed_ends (λ j. Holds × (from ≡ j)) (Reaches (IsParse fold w (atom start)) from) places
      (λ j h. (0, no_more, ((there h.0, sym h.1 ∙ there h.0), refl, refl)))
      (λ j h. (back h.2.0.0, h.2.0.0 ∙ sym h.2.0.1)) ends)

  pub ends_of_end : (t : Tree) (from : ℕ) (places : Row) (Holds : Type 0) → node_of t ≡ End → (Holds → from ≡ length w) → (from ≡ length w → Holds) →
      AreEnds (λ j. Holds × (from ≡ j)) places → AreEnds (Reaches (IsParse fold w t) from) places
  ends_of_end t from places Holds e there back ends =
      subst (λ x. AreEnds (Reaches (IsParse fold w x) from) places) (sym (is_end t e))
      (renamed_ends (λ j. Holds × (from ≡ j)) (Reaches (IsParse fold w (atom end)) from) places
      (λ j h. (0, no_more, ((there h.0, sym h.1 ∙ there h.0), refl, refl)))
      (λ j h. (back h.2.0.0, h.2.0.0 ∙ sym h.2.0.1)) ends)

  pub byte_ends : (t : Tree) (from : ℕ) (places : Row) → IsByteNode (node_of t) →
      AreEnds (CoversByte (takes_byte fold t) w from) places → AreEnds (Reaches (IsParse fold w t) from) places
  byte_ends (atom (byte b)) from places h ends = renamed_ends _ _ places (λ j k. (0, no_more, (k, refl, refl))) (λ j k. k.2.0) ends
  byte_ends (atom any) from places h ends = renamed_ends _ _ places (λ j k. (0, no_more, (k, refl, refl))) (λ j k. k.2.0) ends
  byte_ends (atom (set false bytes)) from places h ends = renamed_ends _ _ places (λ j k. (0, no_more, (k, refl, refl))) (λ j k. k.2.0) ends
  byte_ends (atom (set true bytes)) from places h ends = renamed_ends _ _ places (λ j k. (0, no_more, (k, refl, refl))) (λ j k. k.2.0) ends
  byte_ends (atom start) from places h ends = absurd h
  byte_ends (atom end) from places h ends = absurd h
  byte_ends (alt ts) from places h ends = absurd h
  byte_ends (branch ts) from places h ends = absurd h
  byte_ends (group g t) from places h ends = absurd h
  byte_ends (rep m n t) from places h ends = absurd h

  -- a row of one parse is that parse
  pub alone_to : (t : Tree) (i j : ℕ) → RowReaches (IsAlone (IsParse fold w t)) i j → Reaches (IsParse fold w t) i j
  alone_to t i j h = of_row h.0 h.1
    where
      of_row : (ps : Parses) → IsAlone (IsParse fold w t) i j ps → Reaches (IsParse fold w t) i j
      of_row no_more h = absurd h
      of_row (next e c a rest) h = (c, a, subst (λ x. IsParse fold w t i x c a) h.1.0 h.0)

  alone_from : (t : Tree) (i j : ℕ) → Reaches (IsParse fold w t) i j → RowReaches (IsAlone (IsParse fold w t)) i j
  alone_from t i j h = (next j h.0 h.1 no_more, (h.2, (refl, refl)))

  pub column_of_group : (t : Tree) (g : ℕ) (rows : List Row) → node_of t ≡ Group g →
      IsColumn (length w) (Reaches (IsParse fold w (part (parts_of t) 0))) rows → IsColumn (length w) (Reaches (IsParse fold w t)) rows
  column_of_group t g rows e column =
      subst (λ x. IsColumn (length w) (Reaches (IsParse fold w x)) rows) (sym (is_group t g e))
      (renamed_column (length w) (Reaches (IsParse fold w (part (parts_of t) 0))) (Reaches (IsParse fold w (group g (part (parts_of t) 0)))) rows
      (λ i j within h. let row = alone_from (part (parts_of t) 0) i j h in (0, row.0, (refl, row.1)))
      (λ i j within h. alone_to (part (parts_of t) 0) i j (h.1, h.2.1)) column)

  pub column_of_branch : (t : Tree) (rows : List Row) → node_of t ≡ Branch →
      IsColumn (length w) (Pieces fold w (parts_of t) 0) rows → IsColumn (length w) (Reaches (IsParse fold w t)) rows
  column_of_branch t rows e column =
      subst (λ x. IsColumn (length w) (Reaches (IsParse fold w x)) rows) (sym (is_branch t e))
      (renamed_column (length w) (Pieces fold w (parts_of t) 0) (Reaches (IsParse fold w (branch (parts_of t)))) rows
      (λ i j within h. (0, h.0, (refl, h.1))) (λ i j within h. (h.1, h.2.1)) column)

  pub column_of_rep : (t : Tree) (m : ℕ) (n : Option ℕ) (rows : List Row) → node_of t ≡ Rep m n →
      IsColumn (length w) (Iterations fold w (part (parts_of t) 0) m n 0) rows → IsColumn (length w) (Reaches (IsParse fold w t)) rows
  column_of_rep t m n rows e column =
      subst (λ x. IsColumn (length w) (Reaches (IsParse fold w x)) rows) (sym (is_rep t m n e))
      (renamed_column (length w) (Iterations fold w (part (parts_of t) 0) m n 0) (Reaches (IsParse fold w (rep m n (part (parts_of t) 0)))) rows
      (λ i j within h. (0, h.0, (refl, h.1))) (λ i j within h. (h.1, h.2.1)) column)

  -- branch number k alone, where there is one
  pub branch_to : (ts : Trees) (k i j : ℕ) (ps : Parses) → IsBranch fold w ts k i j ps → IsAlone (IsParse fold w (part ts k)) i j ps
  branch_to none k i j ps h = absurd h
  branch_to (more t ts) zero i j ps h = h
  branch_to (more t ts) (suc k) i j ps h = branch_to ts k i j ps h

  pub branch_from : (ts : Trees) (k i j : ℕ) (ps : Parses) → k < count_of ts → IsAlone (IsParse fold w (part ts k)) i j ps → IsBranch fold w ts k i j ps
  branch_from none k i j ps less h = absurd (omega arith)
  branch_from (more t ts) zero i j ps less h = h
  branch_from (more t ts) (suc k) i j ps less h = branch_from ts k i j ps (omega arith) h

  pub branch_counted : (ts : Trees) (k i j : ℕ) (ps : Parses) → IsBranch fold w ts k i j ps → k < count_of ts
  branch_counted none k i j ps h = absurd h
  branch_counted (more t ts) zero i j ps h = omega arith
  branch_counted (more t ts) (suc k) i j ps h = let less : k < count_of ts = branch_counted ts k i j ps h in omega arith

  -- one branch alone
  pub column_of_single : (t : Tree) (rows : List Row) → node_of t ≡ Alt → count_of (parts_of t) ≡ 1 →
      IsColumn (length w) (Reaches (IsParse fold w (part (parts_of t) 0))) rows → IsColumn (length w) (Reaches (IsParse fold w t)) rows
  column_of_single t rows e one column =
      subst (λ x. IsColumn (length w) (Reaches (IsParse fold w x)) rows) (sym (is_alt t e))
      (renamed_column (length w) (Reaches (IsParse fold w (part (parts_of t) 0))) (Reaches (IsParse fold w (alt (parts_of t)))) rows
      (λ i j within h. let row = alone_from (part (parts_of t) 0) i j h in
      (0, row.0, branch_from (parts_of t) 0 i j row.0 (omega arith) row.1))
      (λ i j within h.
      let less : h.0 < count_of (parts_of t) = branch_counted (parts_of t) h.0 i j h.1 h.2 in
      let first : h.0 ≡ 0 = omega arith in
      alone_to (part (parts_of t) 0) i j (h.1, branch_to (parts_of t) 0 i j h.1 (subst (λ x. IsBranch fold w (parts_of t) x i j h.1) first h.2)))
      column)

  -- no branch
  pub no_branches : (t : Tree) → node_of t ≡ Alt → count_of (parts_of t) ≡ 0 → (i j : ℕ) → Reaches (IsParse fold w t) i j → ⊥
  no_branches t e zero_count i j h =
      let r : Reaches (IsParse fold w (alt (parts_of t))) i j = subst (λ x. Reaches (IsParse fold w x) i j) (is_alt t e) h in
      let less : r.0 < count_of (parts_of t) = branch_counted (parts_of t) r.0 i j r.1 r.2 in omega arith

  -- all branches
  pub column_of_alt : (t : Tree) (T : TableValue) (inside : List ℕ) (n : ℕ) (rows : List Row) → node_of t ≡ Alt → n ≡ count_of (parts_of t) →
      ((k : ℕ) → k < count_of (parts_of t) →
      IsColumn (length w) (Reaches (IsParse fold w (part (parts_of t) k))) (column_at T (part_at T (slice_index inside k)).own)) →
      IsColumn (length w) (λ i j. LeadsSome T inside n i j) rows → IsColumn (length w) (Reaches (IsParse fold w t)) rows
  column_of_alt t T inside n rows e count each column =
      subst (λ x. IsColumn (length w) (Reaches (IsParse fold w x)) rows) (sym (is_alt t e))
      (renamed_column (length w) (λ i j. LeadsSome T inside n i j) (Reaches (IsParse fold w (alt (parts_of t)))) rows
      (λ i j within h.
      let less : h.number < count_of (parts_of t) = subst (λ x. h.number < x) count h.among in
      let row = alone_from (part (parts_of t) h.number) i j ((each h.number less).each i j h.leads) in
      (h.number, row.0, branch_from (parts_of t) h.number i j row.0 less row.1))
      (λ i j within h.
      let less : h.0 < count_of (parts_of t) = branch_counted (parts_of t) h.0 i j h.1 h.2 in
      record {
        number = h.0;
        among = subst (λ x. h.0 < x) (sym count) less;
        leads = (each h.0 less).all i j within (alone_to (part (parts_of t) h.0) i j (h.1, branch_to (parts_of t) h.0 i j h.1 h.2));
      })
      column)

-- the byte at a place in the text
byte_at : (w : List ℕ) (i b d : ℕ) → i < length w → b ≡ get_or w i d → slice_get w i ≡ Some b
byte_at w i b d inside e = slice_get_read w (length w) i b refl inside (e ∙ get_or_default w i d b inside)

pub end_after_byte : (test : ℕ → Bool) (w : List ℕ) (i at b d : ℕ) (taken : Bool) (places : Row) → at ≡ i →
    true ≡ ltb at (length w) → b ≡ get_or w at d → taken ≡ test b →
    AreEnds (λ j. IsTrue taken × (i + 1 ≡ j)) places → AreEnds (CoversByte test w i) places
end_after_byte test w i at b d taken places same inside read passed ends =
    let less : i < length w = subst (λ x. x < length w) same (ltb-true at (length w) (sym inside)) in
    let here : slice_get w i ≡ Some b = byte_at w i b d less (subst (λ x. b ≡ get_or w x d) same read) in
    renamed_ends (λ j. IsTrue taken × (i + 1 ≡ j)) (CoversByte test w i) places
    (λ j h. (sym h.1, b, here, sym passed ∙ h.0))
    (λ j h. let e : b ≡ h.1 = cc (here, h.2) in (passed ∙ subst (λ x. test x ≡ true) (sym e) h.3, sym h.0)) ends

pub no_end_after : (test : ℕ → Bool) (w : List ℕ) (i at : ℕ) (places : Row) → at ≡ i → false ≡ ltb at (length w) →
    AreEnds (λ j. IsTrue false × (i ≡ j)) places → AreEnds (CoversByte test w i) places
no_end_after test w i at places same over ends =
    let past : length w ≤ i = subst (λ x. length w ≤ x) same (ltb-false at (length w) (sym over)) in
    renamed_ends (λ j. IsTrue false × (i ≡ j)) (CoversByte test w i) places
    (λ j h. let e : false ≡ true = h.0 in cc e)
    (λ j h. let less : i < length w = slice_get_within w i h.1 h.2 in absurd (omega arith)) ends

pub is_byte_node : (n : Node) → ((b : ℕ) × (n ≡ Byte b)) ⊎ ((n ≡ Any) ⊎ ((negated : Bool) × (n ≡ Set negated))) → IsByteNode n
is_byte_node n (inl h) = subst IsByteNode (sym h.1) tt
is_byte_node n (inr (inl h)) = subst IsByteNode (sym h) tt
is_byte_node n (inr (inr h)) = subst IsByteNode (sym h.1) tt

-- no part for a byte or a place
pub not_leaf : (n : Node) → (n ≡ Alt) ⊎ ((n ≡ Branch) ⊎ (((g : ℕ) × (n ≡ Group g)) ⊎ ((m : ℕ) × (o : Option ℕ) × (n ≡ Rep m o)))) → IsLeaf n → ⊥
not_leaf n (inl e) h = subst IsLeaf e h
not_leaf n (inr (inl e)) h = subst IsLeaf e h
not_leaf n (inr (inr (inl e))) h = subst IsLeaf e.1 h
not_leaf n (inr (inr (inr e))) h = subst IsLeaf e.2 h

pub is_leaf : (n : Node) → ((b : ℕ) × (n ≡ Byte b)) ⊎ ((n ≡ Any) ⊎ (((negated : Bool) × (n ≡ Set negated)) ⊎ ((n ≡ Start) ⊎ (n ≡ End)))) → IsLeaf n
is_leaf n (inl h) = subst IsLeaf (sym h.1) tt
is_leaf n (inr (inl h)) = subst IsLeaf (sym h) tt
is_leaf n (inr (inr (inl h))) = subst IsLeaf (sym h.1) tt
is_leaf n (inr (inr (inr (inl h)))) = subst IsLeaf (sym h) tt
is_leaf n (inr (inr (inr (inr h)))) = subst IsLeaf (sym h) tt
