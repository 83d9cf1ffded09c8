-- What is kept of given records, by its places.
use Rattle.std.proofs.Common.{◌≡◌, ◌≢◌, inl, inr, ℕ, zero, suc, ◌<◌, List, [], ◌∷◌, ◌++◌, length, map, get_or, Option, refl, sym, ap, subst, ◌∙◌, arith}
use Rattle.std.specs.Prelude.{Contains}
use Rattle.std.proofs.lemmas.List.{get_or_default, get_or-map, map-append, same_lists, length-map}
use Rattle.std.proofs.lemmas.List.Elements.{Contains-append_cases}
use Rattle.naptr_data.proofs.CutLemmas.{Contains-head, Contains-after}
use Rattle.naptr_data.specs.Zones.{Labels}
use Rattle.std.specs.declared.cmp.Ordering.TheVariants.{Less}
use Rattle.dns_wire.specs.Kinds.{soa}
use Rattle.dns_wire.specs.declared.record.Record.{Record}
use Rattle.zone_build.specs.Zone.{AreRepeats, IsCanonical, IsRising, order_of}
use Rattle.zone_build.specs.Built.{IsBuilt}
use Rattle.zone_build.specs.Building.{Given, AreGivens, Chosen, keep_of, copy_of, settled, AreAmong, AreApart, AreSettled, IsKeptList, IsPlan}
use Rattle.zone_build.specs.declared.keep.Keep.{Keep}
use Rattle.zone_build.specs.declared.entry.Key.TheVariants.{Whole}
use Rattle.zone_build.proofs.ListLemmas.{AllByRecursion-contains}
use Rattle.zone_build.proofs.OrderLemmas.{alike_equal}
use Rattle.zone_build.proofs.BuildLemmas.{built_of}

-- the element at a place
some_at : {X : Type 0} (xs : List X) (k : ℕ) → k < length xs → (x : X) × Contains xs x × ((d : X) → get_or xs k d ≡ x)
some_at [] k h = absurd (omega arith)
some_at (x ∷ xs) zero h = (x, Contains-head x xs, λ d. refl)
some_at (x ∷ xs) (suc k) h =
    let r = some_at xs k (omega arith) in (r.0, Contains-after x xs r.0 r.1, r.2)

-- what is chosen at a place, what it is kept by, and the record that is kept
record IsChosenAt (given : List Record) (chosen : List Chosen) (k : ℕ) (one : Chosen) : Type 0 where
  pub kept_by : (d : Keep) → get_or (map keep_of chosen) k d ≡ keep_of one
  pub kept_as : (d : Record) → get_or (map copy_of chosen) k d ≡ copy_of one
  pub within : one.from.place < length given
  pub there : (d : Record) → get_or given one.from.place d ≡ one.from.given

chosen_at : (given : List Record) (entries : List Given) (chosen : List Chosen) (k : ℕ) → AreGivens given entries
    → AreAmong entries chosen → k < length chosen → (one : Chosen) × IsChosenAt given chosen k one
chosen_at given entries chosen k are among h =
    let s = some_at chosen k h in
    let e = are.each s.0.from (among s.0 s.1) in (
      s.0,
      record {
        kept_by = λ d. get_or-map keep_of chosen k s.0 d h ∙ ap keep_of (s.2 s.0);
        kept_as = λ d. get_or-map copy_of chosen k s.0 d h ∙ ap copy_of (s.2 s.0);
        within = e.0;
        there = λ d. get_or_default given s.0.from.place d s.0.from.given e.0 ∙ e.1;
      },
    )

-- records that stand where what is chosen was given are what is kept of it
settled_are : (given : List Record) (entries : List Given) (chosen : List Chosen) (kept : List Record)
    → AreGivens given entries → AreAmong entries chosen → AreSettled given (map keep_of chosen) kept
    → kept ≡ map copy_of chosen
settled_are given entries chosen kept are among s =
    same_lists kept (map copy_of chosen) (s.size ∙ length-map chosen keep_of ∙ sym (length-map chosen copy_of)) (λ k d h.
    let within : k < length chosen = sized k h in
    let c = chosen_at given entries chosen k are among within in
    let by = c.1.kept_by (keep_of c.0) in
    s.each k d (keep_of c.0) (inside k within) ∙ ap (λ (y : Keep). settled y.ttl (get_or given y.place d)) by
    ∙ ap (settled c.0.ttl) (c.1.there d) ∙ sym (c.1.kept_as d))
  where
    sized : (k : ℕ) → k < length kept → k < length chosen
    sized k h = subst (λ n. k < n) (s.size ∙ length-map chosen keep_of) h

    inside : (k : ℕ) → k < length chosen → k < length (map keep_of chosen)
    inside k h = subst (λ n. k < n) (sym (length-map chosen keep_of)) h

-- no two of canonical records are repeats
contains_at : (xs : List Record) (k : ℕ) (d : Record) → k < length xs → Contains xs (get_or xs k d)
contains_at xs k d h = (k, h, get_or_default xs k (get_or xs k d) d h)

rising_at : (xs : List Record) (j k : ℕ) (d : Record) → IsRising xs → j < k → k < length xs → order_of (get_or xs j d) (get_or xs k d) ≡ Less
rising_at [] j k d r l h = absurd (omega arith)
rising_at (x ∷ xs) j zero d r l h = absurd (omega arith)
rising_at (x ∷ xs) zero (suc k) d r l h =
    AllByRecursion-contains (λ (next : Record). order_of x next ≡ Less) xs (get_or xs k d) r.0 (contains_at xs k d (omega arith))
rising_at (x ∷ xs) (suc j) (suc k) d r l h = rising_at xs j k d r.1 (omega arith) (omega arith)

canonical_at : (xs : List Record) (j k : ℕ) (d : Record) → IsCanonical xs → j < k → k < length xs → AreRepeats (get_or xs j d) (get_or xs k d) → ⊥
canonical_at [] j k d c l h same = c
canonical_at (x ∷ xs) j zero d c l h same = absurd (omega arith)
canonical_at (x ∷ xs) zero (suc k) d c l h same =
    AllByRecursion-contains (λ (one : Record). one.kind ≢ soa) xs (get_or xs k d) c.1 (contains_at xs k d (omega arith)) (sym same.0.1 ∙ c.0)
canonical_at (x ∷ xs) (suc j) (suc k) d c l h same =
    absurd (cc (sym (rising_at xs j k d c.2 (omega arith) (omega arith)), alike_equal Whole (get_or xs j d) (get_or xs k d) same))

-- what is chosen stands at different places
chosen_apart : (given : List Record) (entries : List Given) (chosen : List Chosen) → AreGivens given entries
    → AreAmong entries chosen → IsCanonical (map copy_of chosen) → AreApart (length given) (map keep_of chosen)
chosen_apart given entries chosen are among canonical = record {
  within = λ k d h.
      let c = chosen_at given entries chosen k are among (sized k h) in
      subst (λ (y : Keep). y.place < length given) (sym (c.1.kept_by d)) c.1.within;
  apart = λ j k d l h same.
      let a = chosen_at given entries chosen j are among (omega (arith, l, sized k h)) in
      let b = chosen_at given entries chosen k are among (sized k h) in
      let places : a.0.from.place ≡ b.0.from.place = sym (ap (λ (y : Keep). y.place) (a.1.kept_by d)) ∙ same ∙ ap (λ (y : Keep). y.place) (b.1.kept_by d) in
      let x = b.0.from.given in
      let givens : a.0.from.given ≡ x = sym (a.1.there x) ∙ ap (λ p. get_or given p x) places ∙ b.1.there x in
      let repeats : AreRepeats (copy_of a.0) (copy_of b.0) =
      subst (λ (r : Record). AreRepeats (settled a.0.ttl r) (copy_of b.0)) (sym givens) ((refl, refl), refl) in
      canonical_at (map copy_of chosen) j k x canonical l
      (subst (λ n. k < n) (sym (length-map chosen copy_of)) (sized k h))
      (subst (λ (r : Record). AreRepeats r (get_or (map copy_of chosen) k x)) (sym (a.1.kept_as x))
      (subst (λ (r : Record). AreRepeats (copy_of a.0) r) (sym (b.1.kept_as x)) repeats));
}
  where
    sized : (k : ℕ) → k < length (map keep_of chosen) → k < length chosen
    sized k h = subst (λ n. k < n) (length-map chosen keep_of) h

-- all that is chosen, the SOA first
record IsChoice (given : List Record) (apex : Labels) (keeps : List Keep) (entries : List Given) (chosen : List Chosen) : Type 0 where
  pub keeps_are : keeps ≡ map keep_of chosen
  pub among : AreAmong entries chosen
  pub built : IsBuilt given (record { apex = apex; records = map copy_of chosen })

choice_of : (given : List Record) (apex : Labels) (keeps : List Keep) (cut : Option Labels)
    (p : IsPlan given apex keeps cut) → (chosen : List Chosen) × IsChoice given apex keeps p.entries chosen
choice_of given apex keeps cut p = from p.kept
  where
    from : IsKeptList p.entries keeps → (chosen : List Chosen) × IsChoice given apex keeps p.entries chosen
    from (first, others, is, among, among', a, b) = (
      first ++ others,
      record {
        keeps_are = is ∙ sym (map-append keep_of first others);
        among = λ one c. elim (Contains-append_cases first others one c) [ inl here ↦ among one here | inr after ↦ among' one after ];
        built = subst (λ l. IsBuilt given (record { apex = apex; records = l }))
            (sym (map-append copy_of first others))
            (built_of given p.entries apex (map copy_of first)
            (map copy_of others) p.givens p.unmixed.inside.some p.unmixed.inside.one p.apex_is a b);
      },
    )

pub plan_apart : (given : List Record) (apex : Labels) (keeps : List Keep) (cut : Option Labels) → IsPlan given apex keeps cut → AreApart (length given) keeps
plan_apart given apex keeps cut p =
    let c = choice_of given apex keeps cut p in
    subst (AreApart (length given)) (sym c.1.keeps_are) (chosen_apart given p.entries c.0 p.givens c.1.among c.1.built.order)

-- the kept records make the built zone
pub plan_built : (given : List Record) (apex : Labels) (keeps : List Keep) (cut : Option Labels) (kept : List Record)
    → IsPlan given apex keeps cut → AreSettled given keeps kept → IsBuilt given (record { apex = apex; records = kept })
plan_built given apex keeps cut kept p s =
    let c = choice_of given apex keeps cut p in
    subst (λ l. IsBuilt given (record { apex = apex; records = l }))
    (sym (settled_are given p.entries c.0 kept p.givens c.1.among
    (subst (λ l. AreSettled given l kept) c.1.keeps_are s))) c.1.built

-- the same, as the lists are read
pub plan_made : (given shown items : List Record) (apex : Labels) (keeps told : List Keep) (cut : Option Labels)
    (kept : List Record) → shown ≡ given → items ≡ given → told ≡ keeps → IsPlan shown apex keeps cut
    → AreSettled items told kept → IsPlan given apex keeps cut × IsBuilt given (record { apex = apex; records = kept })
plan_made given shown items apex keeps told cut kept is is' is'' plan settled =
    let p = subst (λ l. IsPlan l apex keeps cut) is plan in
    (p, plan_built given apex keeps cut kept p (subst (λ l. AreSettled l keeps kept) is' (subst (λ l. AreSettled items l kept) is'' settled)))
