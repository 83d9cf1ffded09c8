-- Columns: rows that are read, added and put in the place of others.
use Rattle.std.proofs.Common.{◌≡◌, ℕ, ◌+◌, ◌<◌, ◌≤◌, ◌⊎◌, inl, inr, refl, sym, ◌∙◌, subst, ap, arith, Bool, List, []}
use Rattle.std.proofs.Common.{◌∷◌, ◌++◌, length, length-append, get_or, IsTrue}
use Rattle.std.proofs.Math.ListN.{get_or-append}
use Rattle.std.proofs.Math.Seq.{get_or-append_seam}
use Rattle.std.proofs.lemmas.Option.{slice_get_within, slice_get-get_or, get_or_from_slice_get}
use Rattle.submatch.specs.Rows.{Row, Has, AddsPlaces, AreEnds, Leads, LeadsFrom, IsColumn, IsAllowed, StopsOrGoes}

pub renamed_ends : (P Q : ℕ → Type 0) (row : Row) → ((j : ℕ) → P j → Q j) → ((j : ℕ) → Q j → P j) → AreEnds P row → AreEnds Q row
renamed_ends P Q row to back ends = record { each = λ j h. to j (ends.each j h); all = λ j h. ends.all j (back j h) }

-- a row that is read by its place
pub leads_at : (rows : List Row) (i j : ℕ) (d : Row) → i < length rows → Has (get_or rows i d) j → Leads rows i j
leads_at rows i j d inside h = (get_or rows i d, slice_get-get_or rows i d inside, h)

pub leads_has : (rows : List Row) (i j : ℕ) (d : Row) → Leads rows i j → Has (get_or rows i d) j
leads_has rows i j d h = subst (λ r. Has r j) (sym (get_or_from_slice_get rows i h.0 d h.1)) h.2

pub leads_inside : (rows : List Row) (i j : ℕ) → Leads rows i j → i < length rows
leads_inside rows i j h = slice_get_within rows i h.0 h.1

pub row_read : (rows : List Row) (i : ℕ) (row d : Row) → i < length rows → row ≡ get_or rows i d → AreEnds (Leads rows i) row
row_read rows i row d inside e = record {
  each = λ j h. leads_at rows i j d inside (subst (λ r. Has r j) e h);
  all = λ j h. subst (λ r. Has r j) (sym e) (leads_has rows i j d h);
}

pub no_row_read : (rows : List Row) (i : ℕ) (row : Row) → length rows ≤ i → AreEnds (λ j. ⊥) row → AreEnds (Leads rows i) row
no_row_read rows i row past ends = record {
  each = λ j h. absurd (ends.each j h);
  all = λ j h. let inside : i < length rows = leads_inside rows i j h in absurd (omega arith);
}

pub renamed_adds : (P Q : ℕ → Type 0) (old new : Row) → ((j : ℕ) → P j → Q j) → ((j : ℕ) → Q j → P j) → AddsPlaces P old new → AddsPlaces Q old new
renamed_adds P Q old new to back adds = record {
  each = λ j h. elim (adds.each j h) [
    | inl before ↦ inl before
    | inr more ↦ inr (to j more)
  ];
  kept = adds.kept;
  added = λ j h. adds.added j (back j h);
}

-- a row that is joined to another
pub row_joined : (rows : List Row) (i : ℕ) (next d old new : Row) → i < length rows → next ≡ get_or rows i d → AddsPlaces (Has next) old new →
    AddsPlaces (Leads rows i) old new
row_joined rows i next d old new inside e adds =
    let read : AreEnds (Leads rows i) next = row_read rows i next d inside e in
    renamed_adds (Has next) (Leads rows i) old new read.each read.all adds

pub no_row_joined : (rows : List Row) (i : ℕ) (row : Row) → length rows ≤ i → AddsPlaces (Leads rows i) row row
no_row_joined rows i row past = record {
  each = λ j h. inl h;
  kept = λ j h. h;
  added = λ j h. let inside : i < length rows = leads_inside rows i j h in absurd (omega arith);
}

pub joined_where : (holds : Bool) (P : ℕ → Type 0) (old new : Row) → IsTrue holds → AddsPlaces P old new → AddsPlaces (λ j. IsTrue holds × P j) old new
joined_where holds P old new h adds = renamed_adds P (λ j. IsTrue holds × P j) old new (λ j p. (h, p)) (λ j p. p.1) adds

pub not_joined : (holds : Bool) (P : ℕ → Type 0) (row : Row) → (IsTrue holds → ⊥) → AddsPlaces (λ j. IsTrue holds × P j) row row
not_joined holds P row not = record {
  each = λ j h. inl h;
  kept = λ j h. h;
  added = λ j h. absurd (not h.0);
}

-- a row added after the others
module _ (rows : List Row) (row : Row) where
  leads_old : (i j : ℕ) → i < length rows → Leads (rows ++ row ∷ []) i j → Leads rows i j
  leads_old i j inside h = leads_at rows i j [] inside
      (subst (λ r. Has r j) (get_or-append rows (row ∷ []) [] i inside) (leads_has (rows ++ row ∷ []) i j [] h))

  leads_kept : (i j : ℕ) → Leads rows i j → Leads (rows ++ row ∷ []) i j
  leads_kept i j h =
      let inside : i < length rows = leads_inside rows i j h in
      let longer : length (rows ++ row ∷ []) ≡ length rows + 1 = length-append rows (row ∷ []) in
      leads_at (rows ++ row ∷ []) i j [] (omega arith)
      (subst (λ r. Has r j) (sym (get_or-append rows (row ∷ []) [] i inside)) (leads_has rows i j [] h))

  leads_last : (j : ℕ) → Has row j → Leads (rows ++ row ∷ []) (length rows) j
  leads_last j h =
      let longer : length (rows ++ row ∷ []) ≡ length rows + 1 = length-append rows (row ∷ []) in
      leads_at (rows ++ row ∷ []) (length rows) j [] (omega arith)
      (subst (λ r. Has r j) (sym (get_or-append_seam rows row [] [])) h)

  last_leads : (j : ℕ) → Leads (rows ++ row ∷ []) (length rows) j → Has row j
  last_leads j h = subst (λ r. Has r j) (get_or-append_seam rows row [] []) (leads_has (rows ++ row ∷ []) (length rows) j [] h)

-- the first k rows are those of the relation
pub record IsFilled (k : ℕ) (P : ℕ → ℕ → Type 0) (rows : List Row) : Type 0 where
  pub long : length rows ≡ k
  pub each : (i j : ℕ) → Leads rows i j → P i j
  pub all : (i j : ℕ) → i < k → P i j → Leads rows i j

pub filled_none : (P : ℕ → ℕ → Type 0) (rows : List Row) → rows ≡ [] → IsFilled 0 P rows
filled_none P rows e = subst (IsFilled 0 P) (sym e) (record {
  long = refl;
  each = λ i j h. let less : i < 0 = leads_inside [] i j h in absurd (omega arith);
  all = λ i j less h. absurd (omega arith);
})

below_or_at : (i k : ℕ) → i < k + 1 → (i < k) ⊎ (i ≡ k)
below_or_at i k h = grind arith

pub filled_next : (k : ℕ) (P : ℕ → ℕ → Type 0) (rows new : List Row) (row : Row) → new ≡ rows ++ row ∷ [] → AreEnds (P k) row →
    IsFilled k P rows → IsFilled (k + 1) P new
filled_next k P rows new row e ends so_far = subst (IsFilled (k + 1) P) (sym e) (record {
  long = length-append rows (row ∷ []) ∙ ap (λ x. x + 1) so_far.long;
  each = λ i j h.
      let inside : i < length (rows ++ row ∷ []) = leads_inside (rows ++ row ∷ []) i j h in
      let longer : length (rows ++ row ∷ []) ≡ length rows + 1 = length-append rows (row ∷ []) in
      elim (below_or_at i (length rows) (omega arith)) [
        | inl less ↦ so_far.each i j (leads_old rows row i j less h)
        | inr same ↦ subst (λ x. P x j) (sym (same ∙ so_far.long))
            (ends.each j (last_leads rows row j (subst (λ x. Leads (rows ++ row ∷ []) x j) same h)))
      ];
  all = λ i j less h. elim (below_or_at i k less) [
    | inl before ↦ leads_kept rows row i j (so_far.all i j before h)
    | inr same ↦ subst (λ x. Leads (rows ++ row ∷ []) x j) (so_far.long ∙ sym same)
        (leads_last rows row j (ends.all j (subst (λ x. P x j) same h)))
  ];
})

pub filled_all : (n k : ℕ) (P : ℕ → ℕ → Type 0) (rows : List Row) → k ≡ n + 1 → IsFilled k P rows → IsColumn n P rows
filled_all n k P rows e filled = record {
  short = let long : length rows ≡ k = filled.long in omega arith;
  each = filled.each;
  all = λ i j less. filled.all i j (omega arith);
}

pub renamed_column : (n : ℕ) (P Q : ℕ → ℕ → Type 0) (rows : List Row) → ((i j : ℕ) → i ≤ n → P i j → Q i j) → ((i j : ℕ) → i ≤ n → Q i j → P i j) →
    IsColumn n P rows → IsColumn n Q rows
renamed_column n P Q rows to back column = record {
  short = column.short;
  each = λ i j h. let inside : i < length rows = leads_inside rows i j h in let s : length rows ≤ n + 1 = column.short in
      to i j (omega arith) (column.each i j h);
  all = λ i j within h. column.all i j within (back i j within h);
}

-- a relation that never holds
pub dead_column : (n : ℕ) (P : ℕ → ℕ → Type 0) (rows : List Row) → rows ≡ [] → ((i j : ℕ) → i ≤ n → P i j → ⊥) → IsColumn n P rows
dead_column n P rows e never = subst (IsColumn n P) (sym e) (record {
  short = omega arith;
  each = λ i j h. let less : i < 0 = leads_inside [] i j h in absurd (omega arith);
  all = λ i j within h. absurd (never i j within h);
})

-- from a place: where it stops, and the rows of later places and of that one
pub row_gone : (stops empties : Bool) (part rest : List Row) (from : ℕ) (first one far new : Row) → AreEnds (Leads part from) first →
    ((at : ℕ) → Has first at → from ≤ at) → AreEnds (λ j. IsTrue stops × (from ≡ j)) one →
    (next : Row) → AreEnds (λ j. Has first from × IsAllowed empties from from × Leads rest from j) next →
    AddsPlaces (LeadsFrom rest first (from + 1)) one far → AddsPlaces (Has next) far new → AreEnds (StopsOrGoes stops empties part rest from) new
row_gone stops empties part rest from first one far new read forward ends next at_once later adds = record {
  each = λ j h. elim (adds.each j h) [
    | inr empty ↦ let e = at_once.each j empty in inr (record { at = from; leads = read.each from e.0; allowed = e.1; others = e.2 })
    | inl near ↦ elim (later.each j near) [
      | inl stop ↦ inl (ends.each j stop)
      | inr go ↦ inr (record {
        at = go.at;
        leads = read.each go.at go.there;
        allowed = λ e. let after : from + 1 ≤ go.at = go.later in absurd (omega arith);
        others = go.leads;
      })
    ]
  ];
  all = λ j h. elim h [
    | inl stop ↦ adds.kept j (later.kept j (ends.all j stop))
    | inr t ↦ let there : Has first t.at = read.all t.at t.leads in elim (here_or_later from t.at (forward t.at there)) [
      | inl same ↦ adds.added j (at_once.all j (
        subst (λ x. Has first x) same there,
        subst (λ x. IsAllowed empties from x) same t.allowed,
        subst (λ x. Leads rest x j) same t.others,
      ))
      | inr after ↦ adds.kept j (later.added j (record { at = t.at; later = after; there = there; leads = t.others }))
    ]
  ];
}
  where
    here_or_later : (i j : ℕ) → i ≤ j → (j ≡ i) ⊎ (i + 1 ≤ j)
    here_or_later i j h = grind arith
