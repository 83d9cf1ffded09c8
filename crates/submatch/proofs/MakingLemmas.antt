-- Parts made over the parts inside them.
use Rattle.std.proofs.Common.{◌≡◌, ℕ, zero, suc, ◌+◌, ◌-◌, ◌<◌, ◌≤◌, ◌⊎◌, inl, inr, refl, sym, ◌∙◌, subst, ap, arith}
use Rattle.std.proofs.Common.{Bool, true, false, List, [], ◌∷◌, ◌++◌, length, get_or, slice_index, Option, Some, None}
use Rattle.std.proofs.Common.{max, IsTrue}
use Rattle.std.proofs.Math.Dec.{eqb}
use Rattle.std.proofs.lemmas.List.{get_or_default}
use Rattle.posix_ere.specs.Tree.{Tree, branch, Trees}
use Rattle.posix_ere.specs.Parts.{count_of, part, parts_of}
use Rattle.posix_ere.specs.Nodes.{tree_at, node_of}
use Rattle.posix_ere.specs.declared.node.Node.TheVariants.{Alt, Branch, Group, Rep}
use Rattle.submatch.specs.Parses.{IsParse, IsBelow}
use Rattle.submatch.specs.Ends.{Reaches}
use Rattle.submatch.specs.Rows.{Row, IsColumn, AreForward, IsClosedFrom}
use Rattle.submatch.specs.Table.{TableValue, PartValue, column_at, part_at, HasColumn, AreInside, HasRest, AreRests}
use Rattle.submatch.specs.Table.{AreParts, Grows, IsMade, PassesOn, AddsJoined, LeadsSome, AreAlive, last_count, IsUpTo}
use Rattle.submatch.proofs.ColumnLemmas.{leads_inside, renamed_column, dead_column}
use Rattle.submatch.proofs.EndsOfRowsLemmas.{Pieces, Iterations, forward_column, dead_pieces, no_pieces, pieces_column}
use Rattle.submatch.proofs.EndsOfRowsLemmas.{iterations_column, last_piece, loops, loop_closed}
use Rattle.submatch.proofs.EndsOfNodesLemmas.{is_alt, is_branch, is_group, is_rep, column_of_group, column_of_single}
use Rattle.submatch.proofs.EndsOfNodesLemmas.{column_of_alt, column_of_branch, column_of_rep, has_part_of_group}
use Rattle.submatch.proofs.GrowingLemmas.{grows_same, column_added, new_column, kept_inside, kept_column, AreBuilt, built_next}

-- an element that is read with itself for want of another
pub index_is : (xs : List ℕ) (i x : ℕ) → i < length xs → x ≡ get_or xs i x → x ≡ slice_index xs i
index_is xs i x inside e = e ∙ get_or_default xs i x 0 inside

pub some_of : (n : ℕ) → eqb n 0 ≡ false → 1 ≤ n
some_of zero e = cc e
some_of (suc n) e = omega arith

pub two_of : (n : ℕ) → eqb n 0 ≡ false → (n ≡ 1 → ⊥) → 2 ≤ n
two_of zero e other = cc e
two_of (suc zero) e other = absurd (other refl)
two_of (suc (suc n)) e other = omega arith

-- a group and a repetition have one part inside
pub one_inside : (trees : List Tree) (T : TableValue) (at m : ℕ) (o : Option ℕ) (inside : List ℕ) → node_of (tree_at trees at) ≡ Rep m o →
    AreInside trees T (length T.parts) inside (parts_of (tree_at trees at)) → length inside ≡ 1
one_inside trees T at m o inside e are =
    are.count ∙ subst (λ x. count_of (parts_of x) ≡ 1) (sym (is_rep (tree_at trees at) m o e)) refl

pub group_inside : (trees : List Tree) (T : TableValue) (at g : ℕ) (inside : List ℕ) → node_of (tree_at trees at) ≡ Group g →
    AreInside trees T (length T.parts) inside (parts_of (tree_at trees at)) → length inside ≡ 1
group_inside trees T at g inside e are = are.count ∙ subst (λ x. count_of (parts_of x) ≡ 1) (sym (is_group (tree_at trees at) g e)) refl

module _ (fold : Bool) (w : List ℕ) (trees : List Tree) where
  -- the column of a part inside
  pub inside_column : (T : TableValue) (inside : List ℕ) (ts : Trees) (k : ℕ) → AreParts fold w trees T → AreInside trees T (length T.parts) inside ts →
      k < count_of ts → HasColumn (length w) T (part_at T (slice_index inside k)).own (Reaches (IsParse fold w (part ts k)))
  inside_column T inside ts k parts are less =
      subst (λ t. HasColumn (length w) T (part_at T (slice_index inside k)).own (Reaches (IsParse fold w t))) (are.trees_are k less)
      (parts (slice_index inside k) (are.before k less)).own

  pub made_of : (old new : TableValue) (at own : ℕ) (rests inside : List ℕ) (p : PartValue) →
      p ≡ record { at = at; own = own; rests = rests; inside = inside } → Grows old new → new.parts ≡ old.parts → at < length trees →
      HasColumn (length w) new own (Reaches (IsParse fold w (tree_at trees at))) →
      AreInside trees old (length old.parts) inside (parts_of (tree_at trees at)) →
      ((i j : ℕ) → i ≤ length w → Reaches (IsParse fold w (tree_at trees at)) i j → AreRests fold w new rests (tree_at trees at)) →
      IsMade fold w trees old new at p
  made_of old new at own rests inside p is grows parts known column are left = subst (IsMade fold w trees old new at) (sym is) (record {
    grows = grows;
    parts = parts;
    number = refl;
    part = record {
      known = known;
      own = column;
      inside = kept_inside old new grows trees (length old.parts) inside (parts_of (tree_at trees at)) (omega arith) are;
      rests = left;
    };
  })

  pub group_passes : (t : Tree) (g : ℕ) → node_of t ≡ Group g → PassesOn fold w t
  group_passes t g e = record {
    some = has_part_of_group t g e;
    ends = λ rows. column_of_group fold w t g rows e;
    rests = λ T rests. subst (λ x. AreRests fold w T rests x) (sym (is_group t g e)) tt;
  }

  pub single_passes : (t : Tree) → node_of t ≡ Alt → count_of (parts_of t) ≡ 1 → PassesOn fold w t
  single_passes t e one = record {
    some = omega arith;
    ends = λ rows. column_of_single fold w t rows e one;
    rests = λ T rests. subst (λ x. AreRests fold w T rests x) (sym (is_alt t e)) tt;
  }

  pub through_made : (T : TableValue) (at own : ℕ) (rests inside : List ℕ) (p : PartValue) →
      p ≡ record { at = at; own = own; rests = rests; inside = inside } → at < length trees → PassesOn fold w (tree_at trees at) →
      AreParts fold w trees T → AreInside trees T (length T.parts) inside (parts_of (tree_at trees at)) →
      own ≡ (part_at T (slice_index inside 0)).own → IsMade fold w trees T T at p
  through_made T at own rests inside p is known passes parts are number =
      let one : HasColumn (length w) T own (Reaches (IsParse fold w (part (parts_of (tree_at trees at)) 0))) =
      subst (λ c. HasColumn (length w) T c (Reaches (IsParse fold w (part (parts_of (tree_at trees at)) 0)))) (sym number)
      (inside_column T inside (parts_of (tree_at trees at)) 0 parts are passes.some) in
      made_of T T at own rests inside p is (grows_same T) refl known
      (record { there = one.there; exact = passes.ends (column_at T own) one.exact }) are
      (λ i j within h. passes.rests T rests)

  pub dead_made : (old new : TableValue) (at own : ℕ) (column : List Row) (rests inside : List ℕ) (p : PartValue) →
      p ≡ record { at = at; own = own; rests = rests; inside = inside } → at < length trees →
      ((i j : ℕ) → i ≤ length w → Reaches (IsParse fold w (tree_at trees at)) i j → ⊥) →
      AreInside trees old (length old.parts) inside (parts_of (tree_at trees at)) → column ≡ [] → own ≡ length old.columns →
      new.columns ≡ old.columns ++ column ∷ [] → new.parts ≡ old.parts → IsMade fold w trees old new at p
  dead_made old new at own column rests inside p is known never are none number columns parts =
      made_of old new at own rests inside p is (column_added old new column columns parts) parts known
      (subst (λ c. HasColumn (length w) new c (Reaches (IsParse fold w (tree_at trees at)))) (sym number)
      (new_column (length w) (Reaches (IsParse fold w (tree_at trees at))) old new column columns
      (dead_column (length w) (Reaches (IsParse fold w (tree_at trees at))) column none never))) are
      (λ i j within h. absurd (never i j within h))

  pub several_column : (T : TableValue) (at n : ℕ) (inside : List ℕ) (rows : List Row) → node_of (tree_at trees at) ≡ Alt → AreParts fold w trees T →
      AreInside trees T (length T.parts) inside (parts_of (tree_at trees at)) → n ≡ count_of (parts_of (tree_at trees at)) →
      IsColumn (length w) (λ i j. LeadsSome T inside n i j) rows → IsColumn (length w) (Reaches (IsParse fold w (tree_at trees at))) rows
  several_column T at n inside rows e parts are count column = column_of_alt fold w (tree_at trees at) T inside n rows e count
      (λ k less. (inside_column T inside (parts_of (tree_at trees at)) k parts are less).exact) column

  pub alt_made : (old new : TableValue) (at own n : ℕ) (column : List Row) (rests inside : List ℕ) (p : PartValue) →
      p ≡ record { at = at; own = own; rests = rests; inside = inside } → at < length trees → node_of (tree_at trees at) ≡ Alt →
      AreParts fold w trees old → AreInside trees old (length old.parts) inside (parts_of (tree_at trees at)) →
      IsColumn (length w) (λ i j. LeadsSome old inside (length inside) i j) column → own ≡ length old.columns →
      new.columns ≡ old.columns ++ column ∷ [] → new.parts ≡ old.parts → IsMade fold w trees old new at p
  alt_made old new at own n column rests inside p is known e all_parts are exact number columns parts =
      made_of old new at own rests inside p is (column_added old new column columns parts) parts known
      (subst (λ c. HasColumn (length w) new c (Reaches (IsParse fold w (tree_at trees at)))) (sym number)
      (new_column (length w) (Reaches (IsParse fold w (tree_at trees at))) old new column columns
      (several_column old at (length inside) inside column e all_parts are are.count exact))) are
      (λ i j within h. subst (λ x. AreRests fold w new rests x) (sym (is_alt (tree_at trees at) e)) tt)

  pub empty_made : (old new : TableValue) (at own : ℕ) (column : List Row) (rests inside : List ℕ) (p : PartValue) →
      p ≡ record { at = at; own = own; rests = rests; inside = inside } → at < length trees → node_of (tree_at trees at) ≡ Branch →
      count_of (parts_of (tree_at trees at)) ≡ 0 → AreInside trees old (length old.parts) inside (parts_of (tree_at trees at)) →
      IsColumn (length w) (λ i j. IsTrue true × (i ≡ j)) column → own ≡ length old.columns →
      new.columns ≡ old.columns ++ column ∷ [] → new.parts ≡ old.parts → IsMade fold w trees old new at p
  empty_made old new at own column rests inside p is known e none are exact number columns parts =
      made_of old new at own rests inside p is (column_added old new column columns parts) parts known
      (subst (λ c. HasColumn (length w) new c (Reaches (IsParse fold w (tree_at trees at)))) (sym number)
      (new_column (length w) (Reaches (IsParse fold w (tree_at trees at))) old new column columns
      (column_of_branch fold w (tree_at trees at) column e (no_pieces fold w (parts_of (tree_at trees at)) column none exact)))) are
      (λ i j within h. subst (λ x. AreRests fold w new rests x) (sym (is_branch (tree_at trees at) e)) (λ k less. absurd (omega arith)))

  -- with a part inside that is not alive, a branch never matches
  pub dead_branch : (T : TableValue) (at : ℕ) (inside : List ℕ) → node_of (tree_at trees at) ≡ Branch → AreParts fold w trees T →
      AreInside trees T (length T.parts) inside (parts_of (tree_at trees at)) → (AreAlive T inside → ⊥) →
      (i j : ℕ) → i ≤ length w → Reaches (IsParse fold w (tree_at trees at)) i j → ⊥
  dead_branch T at inside e parts are dead i j within h = dead (λ k less. elim (some_row (length (column_at T (part_at T (slice_index inside k)).own))) [
    | inl alive ↦ alive
    | inr none ↦
        let in_branch : k < count_of (parts_of (tree_at trees at)) = subst (λ x. k < x) are.count less in
        let column = (inside_column T inside (parts_of (tree_at trees at)) k parts are in_branch).exact in
        absurd (dead_pieces fold w (parts_of (tree_at trees at)) 0 k (omega arith)
        (λ a b in_text r. let l : a < length (column_at T (part_at T (slice_index inside k)).own) =
        leads_inside (column_at T (part_at T (slice_index inside k)).own) a b (column.all a b in_text
        (subst (λ x. Reaches (IsParse fold w (part (parts_of (tree_at trees at)) x)) a b) (zero_and k) r)) in omega arith)
        i j within (of_branch (tree_at trees at) (is_branch (tree_at trees at) e) h))
  ])
    where
      some_row : (n : ℕ) → (0 < n) ⊎ (n ≡ 0)
      some_row n = grind arith

      zero_and : (k : ℕ) → 0 + k ≡ k
      zero_and k = omega arith

      of_branch : (t : Tree) → t ≡ branch (parts_of t) → Reaches (IsParse fold w t) i j → Pieces fold w (parts_of t) 0 i j
      of_branch t is h = let r : Reaches (IsParse fold w (branch (parts_of t))) i j = subst (λ x. Reaches (IsParse fold w x) i j) is h in (r.1, r.2.1)

  -- a branch whose pieces were joined
  pub built_branch : (old new : TableValue) (at own last : ℕ) (rests inside : List ℕ) (p : PartValue) →
      p ≡ record { at = at; own = own; rests = rests; inside = inside } → at < length trees → node_of (tree_at trees at) ≡ Branch →
      AreInside trees old (length old.parts) inside (parts_of (tree_at trees at)) → last + 1 ≡ count_of (parts_of (tree_at trees at)) →
      AreBuilt (length w) (Pieces fold w (parts_of (tree_at trees at))) old new last 0 own rests → IsMade fold w trees old new at p
  built_branch old new at own last rests inside p is known e are count built = made_of old new at own rests inside p is built.grows built.parts known
      (record { there = built.here.there; exact = column_of_branch fold w (tree_at trees at) (column_at new own) e built.here.exact }) are
      (λ i j within h. subst (λ x. AreRests fold w new rests x) (sym (is_branch (tree_at trees at) e)) (λ k less.
      let same : last - k ≡ count_of (parts_of (tree_at trees at)) - suc k = omega arith in
      subst (λ x. HasRest (length w) new rests x (Pieces fold w (parts_of (tree_at trees at)) k)) same (built.from_here k (omega arith) (omega arith))))

  -- iterations that were joined
  pub built_rep : (old new : TableValue) (at own m : ℕ) (o : Option ℕ) (rests inside : List ℕ) (p : PartValue) →
      p ≡ record { at = at; own = own; rests = rests; inside = inside } → at < length trees → node_of (tree_at trees at) ≡ Rep m o →
      AreInside trees old (length old.parts) inside (parts_of (tree_at trees at)) →
      AreBuilt (length w) (Iterations fold w (part (parts_of (tree_at trees at)) 0) m o) old new (last_count m o) 0 own rests →
      IsMade fold w trees old new at p
  built_rep old new at own m o rests inside p is known e are built = made_of old new at own rests inside p is built.grows built.parts known
      (record { there = built.here.there; exact = column_of_rep fold w (tree_at trees at) m o (column_at new own) e built.here.exact }) are
      (λ i j within h. subst (λ x. AreRests fold w new rests x) (sym (is_rep (tree_at trees at) m o e)) (left o built))
    where
      t : Tree
      t = part (parts_of (tree_at trees at)) 0

      up_to : (k l : ℕ) → (k ≤ l) ⊎ (l < k)
      up_to k l = grind arith

      left : (o : Option ℕ) → AreBuilt (length w) (Iterations fold w t m o) old new (last_count m o) 0 own rests → (k : ℕ) → IsUpTo k o →
          HasRest (length w) new rests (last_count m o - k) (Iterations fold w t m o k)
      left (Some n) built k up = built.from_here k (omega arith) up
      left None built k up = elim (up_to k (max m 1)) [
        | inl before ↦ built.from_here k (omega arith) before
        | inr past ↦
            let last : HasRest (length w) new rests (max m 1 - max m 1) (Iterations fold w t m None (max m 1)) =
            built.from_here (max m 1) (omega arith) (omega arith) in
            let same : max m 1 - max m 1 ≡ max m 1 - k = omega arith in
            looped_rest (max m 1 - k) k past (subst (λ x. HasRest (length w) new rests x (Iterations fold w t m None (max m 1))) same last)
      ]
        where
          looped_rest : (c k : ℕ) → max m 1 < k → HasRest (length w) new rests c (Iterations fold w t m None (max m 1))
              → HasRest (length w) new rests c (Iterations fold w t m None k)
          looped_rest c k past h = record {
            listed = h.listed;
            column = record {
              there = h.column.there;
              exact = renamed_column (length w) (Iterations fold w t m None (max m 1)) (Iterations fold w t m None k) (column_at new (slice_index rests c))
                  (λ i j within r. (r.0, loops fold w t m (max m 1) k (omega arith) (omega arith) i j r.0 r.1))
                  (λ i j within r. (r.0, loops fold w t m k (max m 1) (omega arith) (omega arith) i j r.0 r.1))
                  h.column.exact;
            };
          }

  -- a part inside, in a table that grew
  pub record IsThere (now : TableValue) (x : ℕ) (t : Tree) : Type 0 where
    pub number : x < length now.parts
    pub column : HasColumn (length w) now (part_at now x).own (Reaches (IsParse fold w t))

  pub inside_now : (old now : TableValue) (inside : List ℕ) (ts : Trees) (k x : ℕ) → AreParts fold w trees old →
      AreInside trees old (length old.parts) inside ts → Grows old now → k < count_of ts → x ≡ slice_index inside k → IsThere now x (part ts k)
  inside_now old now inside ts k x parts are grows less is = subst (λ y. IsThere now y (part ts k)) (sym is) (record {
    number = (grows.parts (slice_index inside k) (are.before k less)).0;
    column = subst (λ p. HasColumn (length w) now p.own (Reaches (IsParse fold w (part ts k))))
        (sym ((grows.parts (slice_index inside k) (are.before k less)).1))
        (kept_column old now grows (length w) (part_at old (slice_index inside k)).own (Reaches (IsParse fold w (part ts k)))
        (inside_column old inside ts k parts are less));
  })

  pub there_forward : (now : TableValue) (x : ℕ) (t : Tree) → IsThere now x t → AreForward (length w) (column_at now (part_at now x).own)
  there_forward now x t h = forward_column fold w t (column_at now (part_at now x).own) h.column.exact

  pub branch_begun : (T : TableValue) (inside : List ℕ) (ts : Trees) (last own : ℕ) → AreParts fold w trees T → AreInside trees T (length T.parts) inside ts →
      last + 1 ≡ count_of ts → own ≡ (part_at T (slice_index inside last)).own → HasColumn (length w) T own (Pieces fold w ts last)
  branch_begun T inside ts last own parts are count number =
      let one : HasColumn (length w) T own (Reaches (IsParse fold w (part ts last))) =
      subst (λ c. HasColumn (length w) T c (Reaches (IsParse fold w (part ts last)))) (sym number) (inside_column T inside ts last parts are (omega arith)) in
      record { there = one.there; exact = last_piece fold w ts last (column_at T own) (omega arith) one.exact }

  pub pieces_next : (old now later : TableValue) (inside : List ℕ) (ts : Trees) (last k x own number : ℕ) (rests more : List ℕ) →
      AreParts fold w trees old → AreInside trees old (length old.parts) inside ts → last + 1 ≡ count_of ts → k + 1 ≤ last → x ≡ slice_index inside k →
      AreBuilt (length w) (Pieces fold w ts) old now last (k + 1) own rests → AddsJoined (length w) false true now later x own rests more number →
      AreBuilt (length w) (Pieces fold w ts) old later last k number more
  pieces_next old now later inside ts last k x own number rests more' parts are count less is built added =
      let there : IsThere now x (part ts k) = inside_now old now inside ts k x parts are built.grows (omega arith) is in
      let same : k + 1 ≡ suc k = omega arith in
      built_next (length w) (Pieces fold w ts) old last now later k own number rests more' added.column less added.columns added.parts added.is added.listed
      (pieces_column fold w ts k (column_at now (part_at now x).own) (column_at now own) added.column (omega arith) there.column.exact
      (subst (λ y. IsColumn (length w) (Pieces fold w ts y) (column_at now own)) same built.here.exact) added.exact) built

  below_last : (m k : ℕ) (o : Option ℕ) → k + 1 ≤ last_count m o → IsBelow k o
  below_last m k None h = tt
  below_last m k (Some n) h = omega arith

  pub rep_begun : (old now : TableValue) (t : Tree) (m : ℕ) (o : Option ℕ) (own : ℕ) (column : List Row) → own ≡ length old.columns →
      now.columns ≡ old.columns ++ column ∷ [] → IsColumn (length w) (Iterations fold w t m o (last_count m o)) column →
      HasColumn (length w) now own (Iterations fold w t m o (last_count m o))
  rep_begun old now t m o own column number columns exact =
      subst (λ c. HasColumn (length w) now c (Iterations fold w t m o (last_count m o))) (sym number)
      (new_column (length w) (Iterations fold w t m o (last_count m o)) old now column columns exact)

  -- before the first iteration that there may be any number of, the column that was built is closed
  pub rep_closed : (old now : TableValue) (t : Tree) (m : ℕ) (o : Option ℕ) (top k own : ℕ) (rests : List ℕ) → top ≡ last_count m o → k ≡ top → o ≡ None →
      AreBuilt (length w) (Iterations fold w t m o) old now top k own rests → IsClosedFrom 0 (column_at now own)
  rep_closed old now t m (Some n) top k own rests e last none built = absurd (cc none)
  rep_closed old now t m None top k own rests e last none built = loop_closed fold w t m (column_at now own)
      (subst (λ x. IsColumn (length w) (Iterations fold w t m None x) (column_at now own)) (last ∙ e) built.here.exact)

  pub iterations_next : (old now later : TableValue) (inside : List ℕ) (ts : Trees) (m : ℕ) (o : Option ℕ)
      (k x own number : ℕ) (stops empties : Bool) (rests more : List ℕ) →
      AreParts fold w trees old → AreInside trees old (length old.parts) inside ts → 0 < count_of ts → k + 1 ≤ last_count m o → x ≡ slice_index inside 0 →
      (m ≤ k → IsTrue stops) → (IsTrue stops → m ≤ k) → (suc k ≤ max m 1 → IsTrue empties) → (IsTrue empties → suc k ≤ max m 1) →
      AreBuilt (length w) (Iterations fold w (part ts 0) m o) old now (last_count m o) (k + 1) own rests →
      AddsJoined (length w) stops empties now later x own rests more number →
      AreBuilt (length w) (Iterations fold w (part ts 0) m o) old later (last_count m o) k number more
  iterations_next old now later inside ts m o k x own number stops empties rests more' parts are some less is stops_to
      stops_from free_to free_from built added =
      let there : IsThere now x (part ts 0) = inside_now old now inside ts 0 x parts are built.grows some is in
      let same : k + 1 ≡ suc k = omega arith in
      built_next (length w) (Iterations fold w (part ts 0) m o) old
      (last_count m o) now later k own number rests more' added.column less added.columns added.parts added.is added.listed
      (iterations_column fold w (part ts 0) m o k stops empties (column_at now (part_at now x).own) (column_at now own) added.column
      (below_last m k o less) stops_to stops_from free_to free_from there.column.exact
      (subst (λ y. IsColumn (length w) (Iterations fold w (part ts 0) m o y) (column_at now own)) same built.here.exact) added.exact) built

  -- the column of a part inside is the same in a table that grew
  pub inside_same : (old now : TableValue) (inside : List ℕ) (ts : Trees) (k x : ℕ) → AreParts fold w trees old →
      AreInside trees old (length old.parts) inside ts → Grows old now → k < count_of ts → x ≡ slice_index inside k →
      column_at now (part_at now x).own ≡ column_at old (part_at old (slice_index inside k)).own
  inside_same old now inside ts k x parts are grows less is =
      ap (λ y. column_at now (part_at now y).own) is ∙
      ap (λ (p : PartValue). column_at now p.own) ((grows.parts (slice_index inside k) (are.before k less)).1) ∙
      (grows.columns (part_at old (slice_index inside k)).own (inside_column old inside ts k parts are less).there).1

-- a part that takes over the column of the one inside it is alive only where that is
pub single_alive : (T : TableValue) (inside : List ℕ) (own : ℕ) → length inside ≡ 1 → own ≡ (part_at T (slice_index inside 0)).own →
    0 < length (column_at T own) → AreAlive T inside
single_alive T inside own one same alive k less =
    let first : k ≡ 0 = omega arith in
    subst (λ x. 0 < length (column_at T (part_at T (slice_index inside x)).own)) (sym first) (subst (λ c. 0 < length (column_at T c)) same alive)

-- one part inside is alive, or its column has no rows
pub one_alive : (T : TableValue) (inside : List ℕ) → length inside ≡ 1 → AreAlive T inside ⊎ (AreAlive T inside → ⊥)
one_alive T inside one = elim (some_rows (length (column_at T (part_at T (slice_index inside 0)).own))) [
  | inl alive ↦ inl (single_alive T inside (part_at T (slice_index inside 0)).own one refl alive)
  | inr none ↦ inr (λ alive. let some : 0 < length (column_at T (part_at T (slice_index inside 0)).own) = alive 0 (omega arith) in omega arith)
]
  where
    some_rows : (n : ℕ) → (0 < n) ⊎ (n ≡ 0)
    some_rows n = grind arith

pub one_dead : (T : TableValue) (inside : List ℕ) → length inside ≡ 1 → (AreAlive T inside → ⊥)
    → length (column_at T (part_at T (slice_index inside 0)).own) ≡ 0
one_dead T inside one dead = elim (some_rows (length (column_at T (part_at T (slice_index inside 0)).own))) [
  | inl alive ↦ absurd (dead (single_alive T inside (part_at T (slice_index inside 0)).own one refl alive))
  | inr none ↦ none
]
  where
    some_rows : (n : ℕ) → (0 < n) ⊎ (n ≡ 0)
    some_rows n = grind arith
