-- The records at a name among records in canonical order.
use Rattle.std.proofs.Common.{◌≡◌, ◌≢◌, ◌⊎◌, inl, inr, ℕ, zero, suc, ◌+◌, ◌-◌, ◌<◌, ◌≤◌, List, [], ◌∷◌, ◌++◌, length}
use Rattle.std.proofs.Common.{take, drop, Option, Some, None, Bool, true, false, refl, sym, ap, subst, ◌∙◌}
use Rattle.std.proofs.Common.{arith}
use Rattle.std.specs.Prelude.{Contains, IsTrue, ◌↔◌, is_some, IfSome, IfNone}
use Rattle.std.specs.List.{AllByRecursion}
use Rattle.std.specs.declared.cmp.Ordering.TheVariants.{Less, Equal, Greater}
use Rattle.std.specs.Ordering.{nat_cmp, ordering_then}
use Rattle.std.proofs.lemmas.Bool.Decides.{nat_tests}
use Rattle.std.proofs.lemmas.Cmp.{ranked}
use Rattle.std.proofs.lemmas.List.{take-append-drop}
use Rattle.naptr_data.proofs.CutLemmas.{Contains-none, head_or_after}
use Rattle.naptr_data.specs.Zones.{Labels}
use Rattle.dns_name.specs.Name.{AreSame, IsBelow, folded_labels}
use Rattle.dns_wire.specs.Kinds.{soa}
use Rattle.dns_wire.specs.declared.record.Record.{Record}
use Rattle.zone_build.specs.Zone.{Zone, IsValid, IsIn, IsSet, IsRising, IsCanonical, order_of, owner_order}
use Rattle.zone_build.specs.Finding.{IsKindStart, IsLeastKindAt, least_kind_with}
use Rattle.zone_build.specs.Indexing.{Indexed, ArePlaces, NoneMeets, FindsOwners, IsIndex, candidates, key_of, owner_at, kind_at}
use Rattle.zone_build.specs.declared.index.Places.{Places}
use Rattle.zone_build.specs.declared.index.Sought.TheVariants.{At, Below}
use Rattle.zone_build.specs.declared.entry.Key.TheVariants.{Owner, Set}
use Rattle.zone_build.proofs.ListLemmas.{AllByRecursion-contains, AllByRecursion-made}
use Rattle.zone_build.proofs.OrderLemmas.{three, key_not_after, alike_equal}
use Rattle.zone_build.proofs.IndexLemmas.{record_at, place_of, same_keys, before_or_from, equal_or_after}
use Rattle.zone_build.proofs.IndexNamesLemmas.{below_both}

-- a record stands at a place
pub record IsPlacedAt (xs : List Record) (r : Record) (k : ℕ) : Type 0 where
  pub within : k < length xs
  pub owner : owner_at xs k ≡ r.owner
  pub kind : kind_at xs k ≡ r.kind

stands : (xs : List Record) (r : Record) → Contains xs r → (k : ℕ) × IsPlacedAt xs r k
stands xs r c = let f = place_of xs r c in (f.0, record { within = f.1; owner = f.2; kind = f.3 })

further : (x : Record) (xs : List Record) (r : Record) (k : ℕ) → IsPlacedAt xs r k → IsPlacedAt (x ∷ xs) r (suc k)
further x xs r k s = record { within = let w = s.within in omega arith; owner = s.owner; kind = s.kind }

-- before a place, from a place on, and between two
in_front : (n : ℕ) (xs : List Record) (r : Record) → Contains (take n xs) r → (k : ℕ) × (k < n) × IsPlacedAt xs r k
in_front zero xs r c = absurd (Contains-none r c)
in_front (suc n) [] r c = absurd (Contains-none r c)
in_front (suc n) (x ∷ xs) r c = elim (head_or_after x (take n xs) r c) [
  | inl here ↦ (0, omega arith, record { within = omega arith; owner = ap (λ (y : Record). y.owner) (sym here); kind = ap (λ (y : Record). y.kind) (sym here) })
  | inr after ↦ let f = in_front n xs r after in let l = f.1 in (suc f.0, omega arith, further x xs r f.0 f.2)
]

in_back : (n : ℕ) (xs : List Record) (r : Record) → Contains (drop n xs) r → (k : ℕ) × (n ≤ k) × IsPlacedAt xs r k
in_back zero xs r c = let f = stands xs r c in (f.0, omega arith, f.1)
in_back (suc n) [] r c = absurd (Contains-none r c)
in_back (suc n) (x ∷ xs) r c = let f = in_back n xs r c in let l = f.1 in (suc f.0, omega arith, further x xs r f.0 f.2)

in_middle : (from n : ℕ) (xs : List Record) (r : Record) → Contains (take n (drop from xs)) r → (k : ℕ) × (from ≤ k) × (k < from + n) × IsPlacedAt xs r k
in_middle zero n xs r c = let f = in_front n xs r c in let l = f.1 in (f.0, omega arith, omega arith, f.2)
in_middle (suc from) zero [] r c = absurd (Contains-none r c)
in_middle (suc from) (suc n) [] r c = absurd (Contains-none r c)
in_middle (suc from) n (x ∷ xs) r c =
    let f = in_middle from n xs r c in let l = f.1 in let m = f.2 in (suc f.0, omega arith, omega arith, further x xs r f.0 f.3)

in_rest : (from n : ℕ) (xs : List Record) (r : Record) → Contains (drop n (drop from xs)) r → (k : ℕ) × (from + n ≤ k) × IsPlacedAt xs r k
in_rest zero n xs r c = let f = in_back n xs r c in let l = f.1 in (f.0, omega arith, f.2)
in_rest (suc from) zero [] r c = absurd (Contains-none r c)
in_rest (suc from) (suc n) [] r c = absurd (Contains-none r c)
in_rest (suc from) n (x ∷ xs) r c = let f = in_rest from n xs r c in let l = f.1 in (suc f.0, omega arith, further x xs r f.0 f.2)

-- the first record is the SOA
pub soa_first : (records : List Record) → IsCanonical records → (0 < length records) × (kind_at records 0 ≡ soa)
soa_first [] c = absurd c
soa_first (x ∷ rest) c = (omega arith, c.0)

-- kinds at one owner do not fall
not_after_least : (n m : ℕ) → nat_cmp n m ≢ Greater → n ≤ m
not_after_least n m not = elim (three (nat_cmp n m)) [
  | inl less ↦ let l = ranked n m Less (sym less) in omega arith
  | inr (inl equal) ↦ let e = ranked n m Equal (sym equal) in omega arith
  | inr (inr after) ↦ absurd (not after)
]

kinds_of_two : (x y : Record) → order_of x y ≡ Less → AreSame x.owner y.owner → x.kind ≤ y.kind
kinds_of_two x y less same =
    let not : ordering_then (owner_order x y) (nat_cmp x.kind y.kind) ≢ Greater = key_not_after Set x y (λ g. cc (sym less, g)) in
    not_after_least x.kind y.kind (λ g. not (ap (λ o. ordering_then o (nat_cmp x.kind y.kind)) (alike_equal Owner x y same) ∙ g))

rising_kinds : (xs : List Record) (j k : ℕ) → IsRising xs → j < k → k < length xs → AreSame (owner_at xs j) (owner_at xs k) → kind_at xs j ≤ kind_at xs k
rising_kinds [] j k r l m same = absurd (omega arith)
rising_kinds (x ∷ xs) j zero r l m same = absurd (omega arith)
rising_kinds (x ∷ xs) (suc j) (suc k) r l m same = rising_kinds xs j k r.1 (omega arith) (omega arith) same
rising_kinds (x ∷ xs) zero (suc k) r l m same =
    let f = record_at xs k (omega arith) in
    let less : order_of x f.0 ≡ Less = AllByRecursion-contains (λ (next : Record). order_of x next ≡ Less) xs f.0 r.0 f.1 in
    subst (λ n. x.kind ≤ n) (sym f.4) (kinds_of_two x f.0 less (same ∙ ap folded_labels f.3))

canonical_kinds : (records : List Record) (j k : ℕ) → IsCanonical records → 0 < j → j < k → k < length records
    → AreSame (owner_at records j) (owner_at records k) → kind_at records j ≤ kind_at records k
canonical_kinds [] j k c p l m same = absurd c
canonical_kinds (x ∷ xs) zero k c p l m same = absurd (omega arith)
canonical_kinds (x ∷ xs) (suc j) zero c p l m same = absurd (omega arith)
canonical_kinds (x ∷ xs) (suc j) (suc k) c p l m same = rising_kinds xs j k c.2 (omega arith) (omega arith) same

pub kinds_rise : (records : List Record) (places : Places) (j k : ℕ) → IsCanonical records → ArePlaces records places
    → places.first ≤ j → j ≤ k → k < places.end → kind_at records j ≤ kind_at records k
kinds_rise records places j k c are from l to = elim (equal_or_after j k l) [
  | inl e ↦ omega (arith, ap (kind_at records) e)
  | inr less ↦
      let p = are.after_soa in
      let w = are.within in
      canonical_kinds records j k c (omega arith) less (omega arith) (sym (are.here j from (omega arith)) ∙ are.here k (omega arith) to)
]

-- halving
pub record IsBetween (records : List Record) (places : Places) (kind low high : ℕ) : Type 0 where
  pub from : places.first ≤ low
  pub between : low ≤ high
  pub to : high ≤ places.end
  pub less : (k : ℕ) → places.first ≤ k → k < low → kind_at records k < kind
  pub not_less : (k : ℕ) → high ≤ k → k < places.end → kind ≤ kind_at records k

pub between_all : (records : List Record) (places : Places) (kind : ℕ) → ArePlaces records places → IsBetween records places kind places.first places.end
between_all records places kind are = record {
  from = omega arith;
  between = let s = are.some in omega arith;
  to = omega arith;
  less = λ k f l. absurd (omega arith);
  not_less = λ k f l. absurd (omega arith);
}

pub between_upper : (records : List Record) (places : Places) (kind low high middle : ℕ) → IsCanonical records
    → ArePlaces records places → IsBetween records places kind low high → low ≤ middle → middle < high
    → kind_at records middle < kind → IsBetween records places kind (middle + 1) high
between_upper records places kind low high middle c are b l m less = record {
  from = let f = b.from in omega arith;
  between = omega arith;
  to = b.to;
  less = λ k f g. let t = b.to in let r = kinds_rise records places k middle c are f (omega arith) (omega arith) in omega arith;
  not_less = b.not_less;
}

pub between_lower : (records : List Record) (places : Places) (kind low high middle : ℕ) → IsCanonical records
    → ArePlaces records places → IsBetween records places kind low high → low ≤ middle → middle < high
    → ¬ (kind_at records middle < kind) → IsBetween records places kind low middle
between_lower records places kind low high middle c are b l m not = record {
  from = b.from;
  between = l;
  to = let t = b.to in omega arith;
  less = b.less;
  not_less = λ k f g. let p = b.from in let r = kinds_rise records places middle k c are (omega arith) f g in let h =
      not_less_least (kind_at records middle) kind not in omega arith;
}
  where
    not_less_least : (n m : ℕ) → ¬ (n < m) → m ≤ n
    not_less_least n m not = grind arith

pub between_none : (records : List Record) (places : Places) (kind low high : ℕ)
    → IsBetween records places kind low high → high ≤ low → IsKindStart records places kind low
between_none records places kind low high b end = record {
  from = b.from;
  to = let t = b.to in let l = b.between in omega arith;
  less = b.less;
  not_less = λ k f g. let l = b.between in b.not_less k (omega arith) g;
}

-- where greater kinds begin is no earlier
pub starts_in_order : (records : List Record) (places : Places) (kind from end : ℕ)
    → IsKindStart records places kind from → IsKindStart records places (kind + 1) end → from ≤ end
starts_in_order records places kind from end f e = elim (before_or_from end from) [
  | inl h ↦
      let t = f.to in
      let p = e.from in
      let less = f.less end p h in
      let not = e.not_less end (omega arith) (omega arith) in
      absurd (omega arith)
  | inr h ↦ h
]

-- a set
pub set_made : (records : List Record) (places : Places) (kind from end : ℕ) (set : List Record) → IsCanonical records
    → ArePlaces records places → kind ≢ soa → IsKindStart records places kind from
    → IsKindStart records places (kind + 1) end → set ≡ take (end - from) (drop from records)
    → IsSet records (owner_at records places.first) kind set
set_made records places kind from end set c are other f e is = record {
  before = take from records;
  after = drop (end - from) (drop from records);
  parts = sym (take-append-drop from records)
      ∙ ap (λ l. take from records ++ l)
      (sym (take-append-drop (end - from) (drop from records))
      ∙ ap (λ l. l ++ drop (end - from) (drop from records)) (sym is));
  each = subst (AllByRecursion (IsIn owner kind)) (sym is) (AllByRecursion-made (IsIn owner kind) (take (end - from) (drop from records)) (λ r k.
      let g = in_middle from (end - from) records r k in
      let low = g.1 in
      let high = g.2 in
      let p = f.from in
      let t = e.to in
      let here = f.not_less g.0 low (omega arith) in
      let most = e.less g.0 (omega arith) (omega arith) in
      let same = g.3.kind in
      (ap folded_labels (sym g.3.owner) ∙ sym (are.here g.0 (omega arith) (omega arith)), omega arith)));
  none_before = AllByRecursion-made (λ r. ¬ IsIn owner kind r) (take from records) (λ r k i.
      let g = in_front from records r k in front_none r g.0 g.1 g.2 i);
  none_after = AllByRecursion-made (λ r. ¬ IsIn owner kind r) (drop (end - from) (drop from records)) (λ r k i.
      let g = in_rest from (end - from) records r k in
      let low = g.1 in
      back_none r g.0 (omega arith) g.2 i);
}
  where
    owner : Labels
    owner = owner_at records places.first

    ordered : from ≤ end
    ordered = starts_in_order records places kind from end f e

    front_none : (r : Record) (k : ℕ) → k < from → IsPlacedAt records r k → ¬ IsIn owner kind r
    front_none r zero l s i = other (sym i.1 ∙ sym s.kind ∙ (soa_first records c).1)
    front_none r (suc k) l s i = elim (before_or_from (suc k) places.first) [
      | inl h ↦ are.before (suc k) (omega arith) h (sym (ap folded_labels s.owner ∙ i.0))
      | inr h ↦ let less = f.less (suc k) h l in let same = s.kind in let of = i.1 in omega arith
    ]

    back_none : (r : Record) (k : ℕ) → end ≤ k → IsPlacedAt records r k → ¬ IsIn owner kind r
    back_none r k l s i = elim (before_or_from k places.end) [
      | inl h ↦ let more = e.not_less k l h in let same = s.kind in let of = i.1 in omega arith
      | inr h ↦ are.after k h s.within (sym (ap folded_labels s.owner ∙ i.0))
    ]

-- the set of a name that is the same
pub set_renamed : (records : List Record) (one other : Labels) (kind : ℕ) (set : List Record) → AreSame one other
    → IsSet records one kind set → IsSet records other kind set
set_renamed records one other kind set same s = record {
  before = s.before;
  after = s.after;
  parts = s.parts;
  each = AllByRecursion-made (IsIn other kind) set (λ r c. let i = AllByRecursion-contains (IsIn one kind) set r s.each c in (i.0 ∙ same, i.1));
  none_before = AllByRecursion-made (λ r. ¬ IsIn other kind r) s.before
      (λ r c i. AllByRecursion-contains (λ r. ¬ IsIn one kind r) s.before r s.none_before c (i.0 ∙ sym same, i.1));
  none_after = AllByRecursion-made (λ r. ¬ IsIn other kind r) s.after
      (λ r c i. AllByRecursion-contains (λ r. ¬ IsIn one kind r) s.after r s.none_after c (i.0 ∙ sym same, i.1));
}

-- no record has that owner but the SOA
pub owner_lacking : (records : List Record) (index : Indexed) (owner : Labels) → FindsOwners records index
    → NoneMeets At records owner (candidates index (key_of index.seed owner)) → (k : ℕ) → 0 < k → k < length records
    → ¬ AreSame (owner_at records k) owner
owner_lacking records index owner finds none k p l same =
    finds.owners k p l (λ one c m. none one (subst (λ n. Contains (candidates index n) one)
    (same_keys index.seed (owner_at records k) owner same) c) (m ∙ same))

pub set_lacking : (records : List Record) (index : Indexed) (owner : Labels) (kind : ℕ) (set : List Record)
    → IsCanonical records → FindsOwners records index → NoneMeets At records owner (candidates index (key_of index.seed owner))
    → kind ≢ soa → set ≡ take 0 records → IsSet records owner kind set
set_lacking records index owner kind set c finds none other is = record {
  before = [];
  after = records;
  parts = ap (λ l. l ++ records) (sym is);
  each = subst (AllByRecursion (IsIn owner kind)) (sym is) tt;
  none_before = tt;
  none_after = AllByRecursion-made (λ r. ¬ IsIn owner kind r) records (λ r k i. let g = stands records r k in at r g.0 g.1 i);
}
  where
    at : (r : Record) (k : ℕ) → IsPlacedAt records r k → ¬ IsIn owner kind r
    at r zero s i = other (sym i.1 ∙ sym s.kind ∙ (soa_first records c).1)
    at r (suc k) s i = owner_lacking records index owner finds none (suc k) (omega arith) s.within (ap folded_labels s.owner ∙ i.0)

-- the SOA
pub soa_set_here : (records : List Record) (owner : Labels) (set : List Record) → IsCanonical records
    → AreSame (owner_at records 0) owner → set ≡ take 1 records → IsSet records owner soa set
soa_set_here [] owner set c same is = absurd c
soa_set_here (x ∷ rest) owner set c same is = record {
  before = [];
  after = rest;
  parts = ap (λ l. l ++ rest) (sym is);
  each = subst (AllByRecursion (IsIn owner soa)) (sym is) ((same, c.0), tt);
  none_before = tt;
  none_after = AllByRecursion-made (λ r. ¬ IsIn owner soa r) rest (λ r k i. AllByRecursion-contains (λ (one : Record). one.kind ≢ soa) rest r c.1 k i.1);
}

pub soa_set_lacking : (records : List Record) (owner : Labels) (set : List Record) → IsCanonical records
    → ¬ AreSame (owner_at records 0) owner → set ≡ take 0 records → IsSet records owner soa set
soa_set_lacking [] owner set c not is = absurd c
soa_set_lacking (x ∷ rest) owner set c not is = record {
  before = [];
  after = x ∷ rest;
  parts = ap (λ l. l ++ (x ∷ rest)) (sym is);
  each = subst (AllByRecursion (IsIn owner soa)) (sym is) tt;
  none_before = tt;
  none_after = (
    λ i. not i.0,
    AllByRecursion-made (λ r. ¬ IsIn owner soa r) rest
        (λ r k i. AllByRecursion-contains (λ (one : Record). one.kind ≢ soa) rest r c.1 k i.1),
  );
}

-- the least kind at a name
least_other : (records : List Record) (owner : Labels) (places : Places) → IsCanonical records
    → ArePlaces records places → AreSame (owner_at records places.first) owner → (r : Record) (k : ℕ) → 0 < k
    → IsPlacedAt records r k → AreSame r.owner owner → kind_at records places.first ≤ r.kind
least_other records owner places c are same r k p s of = elim (before_or_from k places.first) [
  | inl h ↦ absurd (are.before k p h here)
  | inr h ↦ elim (before_or_from k places.end) [
    | inl l ↦ let rise = kinds_rise records places places.first k c are (omega arith) h l in let e = s.kind in omega arith
    | inr l ↦ absurd (are.after k l s.within here)
  ]
]
  where
    here : AreSame (owner_at records places.first) (owner_at records k)
    here = same ∙ sym of ∙ sym (ap folded_labels s.owner)

least_cases : (kind : ℕ) → ((least_kind_with true kind ≡ kind) × (kind ≤ soa)) ⊎ ((least_kind_with true kind ≡ soa) × (soa ≤ kind))
least_cases kind = grind (arith, nat_tests)

pub least_at : (records : List Record) (owner : Labels) (places : Places) (is_apex : Bool) → IsCanonical records
    → ArePlaces records places → AreSame (owner_at records places.first) owner
    → (is_apex ≡ true → AreSame (owner_at records 0) owner) → (AreSame (owner_at records 0) owner → is_apex ≡ true)
    → IsLeastKindAt records owner (Some (least_kind_with is_apex (kind_at records places.first)))
least_at records owner places false c are same apex not = (
  let s = are.some in
      let w = are.within in
      let f = record_at records places.first (omega arith) in
      (f.0, f.1, ap folded_labels (sym f.3) ∙ same, sym f.4),
  λ r k of. let g = stands records r k in at r g.0 g.1 of,
)
  where
    at : (r : Record) (k : ℕ) → IsPlacedAt records r k → AreSame r.owner owner → kind_at records places.first ≤ r.kind
    at r zero s of = absurd (cc (not (ap folded_labels s.owner ∙ of)))
    at r (suc k) s of = least_other records owner places c are same r (suc k) (omega arith) s of
least_at records owner places true c are same apex not = elim (least_cases (kind_at records places.first)) [
  | inl own ↦ (
    let s = are.some in
        let w = are.within in
        let f = record_at records places.first (omega arith) in
        (f.0, f.1, ap folded_labels (sym f.3) ∙ same, sym f.4 ∙ sym own.0),
    λ r k of. let g = stands records r k in let e = own.0 in let l = own.1 in let m = at r g.0 g.1 of in omega arith,
  )
  | inr at_soa ↦ (
    let w = (soa_first records c).0 in
        let f = record_at records 0 w in
        (f.0, f.1, ap folded_labels (sym f.3) ∙ apex refl, sym f.4 ∙ (soa_first records c).1 ∙ sym at_soa.0),
    λ r k of. let g = stands records r k in let e = at_soa.0 in let l = at_soa.1 in let m = at r g.0 g.1 of in omega arith,
  )
]
  where
    at : (r : Record) (k : ℕ) → IsPlacedAt records r k → AreSame r.owner owner → least_kind_with true (kind_at records places.first) ≤ r.kind
    at r zero s of = let e = sym s.kind ∙ (soa_first records c).1 in elim (least_cases (kind_at records places.first)) [
      | inl own ↦ let p = own.0 in let q = own.1 in omega arith
      | inr at_soa ↦ let p = at_soa.0 in omega arith
    ]
    at r (suc k) s of = let m = least_other records owner places c are same r (suc k) (omega arith) s of in elim (least_cases (kind_at records places.first)) [
      | inl own ↦ let p = own.0 in let q = own.1 in omega arith
      | inr at_soa ↦ let p = at_soa.0 in let q = at_soa.1 in omega arith
    ]

pub least_alone : (records : List Record) (index : Indexed) (owner : Labels) → IsCanonical records
    → FindsOwners records index → NoneMeets At records owner (candidates index (key_of index.seed owner))
    → AreSame (owner_at records 0) owner → IsLeastKindAt records owner (Some soa)
least_alone records index owner c finds none same = (
  let w = (soa_first records c).0 in
      let f = record_at records 0 w in
      (f.0, f.1, ap folded_labels (sym f.3) ∙ same, sym f.4 ∙ (soa_first records c).1),
  λ r k of. let g = stands records r k in at r g.0 g.1 of,
)
  where
    at : (r : Record) (k : ℕ) → IsPlacedAt records r k → AreSame r.owner owner → soa ≤ r.kind
    at r zero s of = let e = sym s.kind ∙ (soa_first records c).1 in omega arith
    at r (suc k) s of = absurd (owner_lacking records index owner finds none (suc k) (omega arith) s.within (ap folded_labels s.owner ∙ of))

pub least_nowhere : (records : List Record) (index : Indexed) (owner : Labels) → FindsOwners records index
    → NoneMeets At records owner (candidates index (key_of index.seed owner)) → ¬ AreSame (owner_at records 0) owner
    → IsLeastKindAt records owner None
least_nowhere records index owner finds none not r k of = let g = stands records r k in at g.0 g.1
  where
    at : (k : ℕ) → IsPlacedAt records r k → ⊥
    at zero s = not (ap folded_labels s.owner ∙ of)
    at (suc k) s = owner_lacking records index owner finds none (suc k) (omega arith) s.within (ap folded_labels s.owner ∙ of)

-- a record at or below a name
pub below_met : (records : List Record) (places : Places) (name : Labels) → ArePlaces records places
    → IsBelow (owner_at records places.first) name → (one : Record) × Contains records one × IsBelow one.owner name
below_met records places name are below =
    let s = are.some in
    let w = are.within in
    let f = record_at records places.first (omega arith) in
    (f.0, f.1, subst (λ n. IsBelow n name) f.3 below)

pub below_lacking : (records : List Record) (apex name : Labels) (index : Indexed) → IsIndex records apex index
    → owner_at records 0 ≡ apex → IsBelow name apex → ¬ AreSame name apex
    → NoneMeets Below records name (candidates index (key_of index.seed name)) → (one : Record) → Contains records one
    → ¬ IsBelow one.owner name
below_lacking records apex name index is first inside not none one c below = let g = stands records one c in at g.0 g.1
  where
    at : (k : ℕ) → IsPlacedAt records one k → ⊥
    at zero s = not (below_both name apex inside (subst (λ n. IsBelow n name) (sym s.owner ∙ first) below))
    at (suc k) s = is.names (suc k) name (omega arith) s.within (subst (λ n. IsBelow n name) (sym s.owner) below) inside not none

-- the SOA of a valid zone is at the apex
pub apex_first : (zone : Zone) → IsValid zone → owner_at zone.records 0 ≡ zone.apex
apex_first zone v =
    let f = soa_first zone.records v.order in
    let r = record_at zone.records 0 f.0 in
    r.3 ∙ v.soa r.0 r.1 (sym r.4 ∙ f.1)

pub has_below_iff : (records : List Record) (apex name : Labels) (index : Indexed) (o : Option Places) (b : Bool)
    → IsIndex records apex index → owner_at records 0 ≡ apex → IsBelow name apex → ¬ AreSame name apex → b ≡ is_some o
    → IfSome o (λ one. Contains (candidates index (key_of index.seed name)) one)
    → IfSome o (λ one. IsBelow (owner_at records one.first) name)
    → IfNone o (NoneMeets Below records name (candidates index (key_of index.seed name)))
    → IsTrue b ↔ ((one : Record) × Contains records one × IsBelow one.owner name)
has_below_iff records apex name index None b is first inside not e there meets none = (
  λ t. absurd (cc),
  λ (one, c, below). absurd
      (below_lacking records apex name index is first inside not none one c below),
)
has_below_iff records apex name index (Some places) b is first inside not e there meets none =
    (λ t. below_met records places name (is.owners.places (key_of index.seed name) places there) meets, λ s. cc)
