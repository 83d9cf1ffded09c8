-- Tables that grow: what was known of their columns and parts stays true.
use Rattle.std.proofs.Common.{◌≡◌, ℕ, suc, ◌+◌, ◌-◌, ◌<◌, ◌≤◌, ◌⊎◌, inl, inr, refl, sym, ◌∙◌, subst, ap, arith, Bool}
use Rattle.std.proofs.Common.{List, [], ◌∷◌, ◌++◌, length, length-append, get_or, slice_index}
use Rattle.std.proofs.Math.ListN.{get_or-append}
use Rattle.std.proofs.Math.Seq.{get_or-append_seam}
use Rattle.posix_ere.specs.Tree.{Tree, atom, alt, branch, group, rep, Trees}
use Rattle.posix_ere.specs.Parts.{count_of, parts_of}
use Rattle.posix_ere.specs.Nodes.{tree_at}
use Rattle.submatch.specs.Parses.{IsParse, ArePieces, AreIterations}
use Rattle.submatch.specs.Ends.{Reaches, RowReaches, parts_from}
use Rattle.submatch.specs.Rows.{Row, IsColumn}
use Rattle.submatch.specs.Table.{TableValue, PartValue, part_at, HasColumn, AreInside, HasRest, AreRests, IsPart, AreParts, Grows, last_count}

abbrev pub no_part : PartValue
no_part = record { at = 0; own = 0; rests = []; inside = [] }

pub grows_same : (T : TableValue) → Grows T T
grows_same T = record { columns = λ c h. (h, refl); parts = λ x h. (h, refl) }

pub grows_along : (A B C : TableValue) → Grows A B → Grows B C → Grows A C
grows_along A B C first second = record {
  columns = λ c h. let f = first.columns c h in let s = second.columns c f.0 in (s.0, s.1 ∙ f.1);
  parts = λ x h. let f = first.parts x h in let s = second.parts x f.0 in (s.0, s.1 ∙ f.1);
}

longer : {X : Type 0} (xs : List X) (x : X) → length (xs ++ x ∷ []) ≡ length xs + 1
longer xs x = length-append xs (x ∷ [])

pub column_added : (old new : TableValue) (column : List Row) → new.columns ≡ old.columns ++ column ∷ [] → new.parts ≡ old.parts → Grows old new
column_added old new column columns parts = record {
  columns = λ c h.
      let more : length (old.columns ++ column ∷ []) ≡ length old.columns + 1 = longer old.columns column in (
        subst (λ xs. c < length xs) (sym columns) (omega arith),
        ap (λ xs. get_or xs c []) columns ∙ get_or-append old.columns (column ∷ []) [] c h,
      );
  parts = λ x h. (subst (λ xs. x < length xs) (sym parts) h, ap (λ xs. get_or xs x no_part) parts);
}

pub part_added : (old new : TableValue) (p : PartValue) → new.columns ≡ old.columns → new.parts ≡ old.parts ++ p ∷ [] → Grows old new
part_added old new p columns parts = record {
  columns = λ c h. (subst (λ xs. c < length xs) (sym columns) h, ap (λ xs. get_or xs c []) columns);
  parts = λ x h.
      let more : length (old.parts ++ p ∷ []) ≡ length old.parts + 1 = longer old.parts p in (
        subst (λ xs. x < length xs) (sym parts) (omega arith),
        ap (λ xs. get_or xs x no_part) parts ∙ get_or-append old.parts (p ∷ []) no_part x h,
      );
}

-- the column that was added
pub new_column : (n : ℕ) (P : ℕ → ℕ → Type 0) (old new : TableValue) (column : List Row) → new.columns ≡ old.columns ++ column ∷ [] →
    IsColumn n P column → HasColumn n new (length old.columns) P
new_column n P old new column columns exact = record {
  there = let more : length (old.columns ++ column ∷ []) ≡ length old.columns + 1 = longer old.columns column in
      subst (λ xs. length old.columns < length xs) (sym columns) (omega arith);
  exact = subst (λ x. IsColumn n P x) (sym (ap (λ xs. get_or xs (length old.columns) []) columns ∙ get_or-append_seam old.columns column [] [])) exact;
}

-- and the part
pub new_part : (old new : TableValue) (p : PartValue) → new.parts ≡ old.parts ++ p ∷ [] →
    (length old.parts < length new.parts) × (part_at new (length old.parts) ≡ p)
new_part old new p parts =
    let more : length (old.parts ++ p ∷ []) ≡ length old.parts + 1 = longer old.parts p in (
      subst (λ xs. length old.parts < length xs) (sym parts) (omega arith),
      ap (λ xs. get_or xs (length old.parts) no_part) parts ∙ get_or-append_seam old.parts p [] no_part,
    )

module _ (old new : TableValue) (grows : Grows old new) where
  pub kept_column : (n c : ℕ) (P : ℕ → ℕ → Type 0) → HasColumn n old c P → HasColumn n new c P
  kept_column n c P h = let g = grows.columns c h.there in
      record { there = g.0; exact = subst (λ x. IsColumn n P x) (sym g.1) h.exact }

  pub kept_inside : (trees : List Tree) (below : ℕ) (inside : List ℕ) (ts : Trees) → below ≤ length old.parts →
      AreInside trees old below inside ts → AreInside trees new below inside ts
  kept_inside trees below inside ts within h = record {
    count = h.count;
    before = h.before;
    trees_are = λ k less.
        let before : slice_index inside k < below = h.before k less in
        ap (λ (p : PartValue). tree_at trees p.at) ((grows.parts (slice_index inside k) (omega arith)).1) ∙ h.trees_are k less;
  }

  kept_rest : (n : ℕ) (rests : List ℕ) (c : ℕ) (P : ℕ → ℕ → Type 0) → HasRest n old rests c P → HasRest n new rests c P
  kept_rest n rests c P h = record { listed = h.listed; column = kept_column n (slice_index rests c) P h.column }

  kept_rests : (fold : Bool) (w : List ℕ) (rests : List ℕ) (t : Tree) → AreRests fold w old rests t → AreRests fold w new rests t
  kept_rests fold w rests (atom x) h = tt
  kept_rests fold w rests (alt ts) h = tt
  kept_rests fold w rests (branch ts) h =
      λ k less. kept_rest (length w) rests (count_of ts - suc k) (RowReaches (ArePieces fold w (parts_from k ts)))
      (h k less)
  kept_rests fold w rests (group g t) h = tt
  kept_rests fold w rests (rep m o t) h = λ k up. kept_rest (length w) rests (last_count m o - k) (RowReaches (AreIterations (IsParse fold w t) m o k)) (h k up)

  pub kept_part : (fold : Bool) (w : List ℕ) (trees : List Tree) (below : ℕ) (p : PartValue) → below ≤ length old.parts →
      IsPart fold w trees old below p → IsPart fold w trees new below p
  kept_part fold w trees below p within h = record {
    known = h.known;
    own = kept_column (length w) p.own (Reaches (IsParse fold w (tree_at trees p.at))) h.own;
    inside = kept_inside trees below p.inside (parts_of (tree_at trees p.at)) within h.inside;
    rests = λ i j in_text r. kept_rests fold w p.rests (tree_at trees p.at) (h.rests i j in_text r);
  }

  -- with the same parts
  pub kept_parts : (fold : Bool) (w : List ℕ) (trees : List Tree) → new.parts ≡ old.parts → AreParts fold w trees old → AreParts fold w trees new
  kept_parts fold w trees same parts x less =
      let there : x < length old.parts = subst (λ xs. x < length xs) same less in
      subst (λ p. IsPart fold w trees new x p) (sym ((grows.parts x there).1)) (kept_part fold w trees x (part_at old x) (omega arith) (parts x there))

below_or_at : (x n : ℕ) → x < n + 1 → (x < n) ⊎ (x ≡ n)
below_or_at x n h = grind arith

-- with one part more
pub more_parts : (fold : Bool) (w : List ℕ) (trees : List Tree) (old new : TableValue) (p : PartValue) → new.columns ≡ old.columns →
    new.parts ≡ old.parts ++ p ∷ [] → IsPart fold w trees old (length old.parts) p → AreParts fold w trees old → AreParts fold w trees new
more_parts fold w trees old new p columns added is parts x less =
    let grows : Grows old new = part_added old new p columns added in
    let more : length (old.parts ++ p ∷ []) ≡ length old.parts + 1 = longer old.parts p in
    let less' : x < length (old.parts ++ p ∷ []) = subst (λ xs. x < length xs) added less in
    elim (below_or_at x (length old.parts) (omega arith)) [
      | inl there ↦ subst (λ q. IsPart fold w trees new x q) (sym ((grows.parts x there).1))
          (kept_part old new grows fold w trees x (part_at old x) (omega arith) (parts x there))
      | inr last ↦ subst (λ y. IsPart fold w trees new y (part_at new y)) (sym last)
          (subst (λ q. IsPart fold w trees new (length old.parts) q) (sym ((new_part old new p added).1))
          (kept_part old new grows fold w trees (length old.parts) p (omega arith) is))
    ]

-- Columns made one before another, from that with the number `top` down: the last is that of P k.
pub record AreBuilt (n : ℕ) (P : ℕ → ℕ → ℕ → Type 0) (old now : TableValue) (top k own : ℕ) (rests : List ℕ) : Type 0 where
  pub grows : Grows old now
  pub parts : now.parts ≡ old.parts
  pub here : HasColumn n now own (P k)
  pub long : length rests + k ≡ top + 1
  pub from_here : (j : ℕ) → k ≤ j → j ≤ top → HasRest n now rests (top - j) (P j)

module _ (n : ℕ) (P : ℕ → ℕ → ℕ → Type 0) (old : TableValue) (top : ℕ) where
  listed_last : (now : TableValue) (own j : ℕ) (rests : List ℕ) → length rests ≡ j → HasColumn n now own (P (top - j)) → j ≤ top →
      HasRest n now (rests ++ own ∷ []) j (P (top - j))
  listed_last now own j rests e h less = record {
    listed = let more : length (rests ++ own ∷ []) ≡ length rests + 1 = longer rests own in omega arith;
    column = subst (λ c. HasColumn n now c (P (top - j)))
        (sym (subst (λ x. get_or (rests ++ own ∷ []) x 0 ≡ own) e (get_or-append_seam rests own [] 0))) h;
  }

  pub built_first : (now : TableValue) (own : ℕ) (rests new : List ℕ) → rests ≡ [] → new ≡ rests ++ own ∷ [] → Grows old now → now.parts ≡ old.parts →
      HasColumn n now own (P top) → AreBuilt n P old now top top own new
  built_first now own rests new none e grows parts h =
      let is : new ≡ own ∷ [] = e ∙ ap (λ xs. xs ++ own ∷ []) none in
      subst (λ xs. AreBuilt n P old now top top own xs) (sym is) (record {
        grows = grows;
        parts = parts;
        here = h;
        long = omega arith;
        from_here = λ j from to. let same : j ≡ top = omega arith in let zero_left : top - j ≡ 0 = omega arith in
            subst (λ x. HasRest n now (own ∷ []) (top - j) (P x)) (sym same)
            (subst (λ x. HasRest n now (own ∷ []) x (P top)) (sym zero_left) (record { listed = omega arith; column = h }));
      })

  at_or_after : (k j : ℕ) → k ≤ j → (j ≡ k) ⊎ (k + 1 ≤ j)
  at_or_after k j h = grind arith

  pub built_next : (now later : TableValue) (k own own' : ℕ) (rests new : List ℕ) (column : List Row) → k + 1 ≤ top →
      later.columns ≡ now.columns ++ column ∷ [] → later.parts ≡ now.parts → own' ≡ length now.columns → new ≡ rests ++ own' ∷ [] →
      IsColumn n (P k) column → AreBuilt n P old now top (k + 1) own rests → AreBuilt n P old later top k own' new
  built_next now later k own own' rests new column within columns parts number e exact built =
      let step : Grows now later = column_added now later column columns parts in
      let here : HasColumn n later own' (P k) = subst (λ c. HasColumn n later c (P k)) (sym number) (new_column n (P k) now later column columns exact) in
      let long : length rests + (k + 1) ≡ top + 1 = built.long in
      let more : length (rests ++ own' ∷ []) ≡ length rests + 1 = longer rests own' in
      subst (λ xs. AreBuilt n P old later top k own' xs) (sym e) (record {
        grows = grows_along old now later built.grows step;
        parts = parts ∙ built.parts;
        here = here;
        long = omega arith;
        from_here = λ j from to. elim (at_or_after k j from) [
          | inl same ↦ let place : length rests ≡ top - j = omega arith in let back : top - (top - j) ≡ k = omega arith in
              let back_j : top - (top - j) ≡ j = omega arith in
              subst (λ x. HasRest n later (rests ++ own' ∷ []) (top - j) (P x)) back_j
              (listed_last later own' (top - j) rests place (subst (λ x. HasColumn n later own' (P x)) (sym back) here) (omega arith))
          | inr after ↦ let h : HasRest n now rests (top - j) (P j) = built.from_here j after to in
              let l : top - j < length rests = h.listed in
              record {
                listed = omega arith;
                column = kept_column now later step n (slice_index (rests ++ own' ∷ []) (top - j)) (P j)
                    (subst (λ c. HasColumn n now c (P j)) (sym (get_or-append rests (own' ∷ []) 0 (top - j) l)) h.column);
              }
        ];
      })
