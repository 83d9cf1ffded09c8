-- The zone that given records make, and the faults that they have.
use Rattle.std.proofs.Common.{◌≡◌, ◌≢◌, ◌⊎◌, inl, inr, ℕ, ◌<◌, ◌≤◌, List, [], ◌∷◌, ◌++◌, length, get_or, Some, None}
use Rattle.std.proofs.Common.{true, false, ◌==◌, refl, sym, ap, subst, ◌∙◌, arith}
use Rattle.std.specs.Prelude.{Contains, IsTrue}
use Rattle.std.specs.List.{AllByRecursion}
use Rattle.std.proofs.lemmas.Bool.Decides.{nat_tests}
use Rattle.std.proofs.lemmas.List.{get_or_default, get_or-take, length-take}
use Rattle.std.proofs.lemmas.List.Elements.{Contains-append_left, Contains-append_right, Contains-append_cases}
use Rattle.naptr_data.proofs.CutLemmas.{Contains-head, Contains-after, Contains-none}
use Rattle.naptr_data.proofs.BelowLemmas.{below_same_top, below_same_name}
use Rattle.naptr_data.proofs.FoldLemmas.{same_folded}
use Rattle.naptr_data.specs.Zones.{Labels}
use Rattle.dns_name.specs.Name.{AreSame, IsBelow, folded_labels}
use Rattle.dns_wire.specs.Kinds.{soa, cname, is_whole}
use Rattle.dns_wire.specs.Rdata.{rdata_of}
use Rattle.dns_wire.specs.declared.record.Record.{Record}
use Rattle.zone_build.specs.Zone.{Zone, IsPlain, AreOneSet, AreRepeats, IsRising, IsCanonical, IsSet, IsWildcard, IsValid, weight}
use Rattle.zone_build.specs.Built.{IsFirstRepeat, IsKept, IsBuilt}
use Rattle.zone_build.specs.Faults.{HasSoa, HasOneSoa, IsInside, Clashes, IsFirst, IsWildcardCut, IsLarge, AreUnmixed}
use Rattle.zone_build.specs.Building.{Given, AreGivens, IsEarliest, AreMerged, IsSoaAs, IsKeptOf, IsMixedAt, IsFirstMixed}
use Rattle.zone_build.specs.declared.entry.Key.TheVariants.{Whole}
use Rattle.zone_build.proofs.ListLemmas.{AllByRecursion-made}
use Rattle.zone_build.proofs.OrderLemmas.{alike_equal, alike_sym, alike_trans}
use Rattle.zone_build.proofs.MergeLemmas.{kept_repeats}
use Rattle.zone_build.proofs.SoaLemmas.{first_found, first_in, first_same}
use Rattle.zone_build.proofs.SizeLemmas.{set_same_name}
use Rattle.naptr_data.proofs.DecideLemmas.{Either}
use Rattle.zone_build.proofs.DecideLemmas.{repeats_or_not, wildcard_folded}

-- entries stand for given records
pub given_in : (given : List Record) (entries : List Given) → AreGivens given entries → (e : Given) → Contains entries e → Contains given e.given
given_in given entries are e c = let p = are.each e c in (e.place, p.0, p.1)

pub entry_in : (given : List Record) (entries : List Given) → AreGivens given entries → (one : Record)
    → Contains given one → (e : Given) × Contains entries e × (e.given ≡ one)
entry_in given entries are one (k, l, is) = (record { place = k; given = one }, are.all k one l is, refl)

-- no SOA
pub no_soa : (given : List Record) (entries : List Given) → AreGivens given entries
    → ((e : Given) → Contains entries e → ¬ (e.given.kind ≡ soa)) → ¬ HasSoa given
no_soa given entries are none (one, c, k) =
    let e = entry_in given entries are one c in none e.0 e.1 (ap (λ (r : Record). r.kind) e.2 ∙ k)

pub has_soa : (given : List Record) (entries : List Given) (the_soa : Given) → AreGivens given entries
    → Contains entries the_soa → the_soa.given.kind ≡ soa → HasSoa given
has_soa given entries the_soa are c k = (the_soa.given, given_in given entries are the_soa c, k)

-- one SOA
pub one_soa_of : (given : List Record) (entries : List Given) (the_soa : Given) → AreGivens given entries
    → ((e : Given) → Contains entries e → e.given.kind ≡ soa → AreRepeats the_soa.given e.given) → HasOneSoa given
one_soa_of given entries the_soa are all one other c d k l =
    let e = entry_in given entries are one c in
    let f = entry_in given entries are other d in
    let a = subst (AreRepeats the_soa.given) e.2 (all e.0 e.1 (ap (λ (r : Record). r.kind) e.2 ∙ k)) in
    let b = subst (AreRepeats the_soa.given) f.2 (all f.0 f.1 (ap (λ (r : Record). r.kind) f.2 ∙ l)) in
    alike_trans Whole one the_soa.given other (alike_sym Whole the_soa.given one a) b

pub soa_repeats : (given : List Record) (entries : List Given) (the_soa : Given) → AreGivens given entries
    → Contains entries the_soa → the_soa.given.kind ≡ soa → HasOneSoa given → (e : Given) → Contains entries e
    → e.given.kind ≡ soa → AreRepeats the_soa.given e.given
soa_repeats given entries the_soa are c k one e d l = one the_soa.given e.given (given_in given entries are the_soa c) (given_in given entries are e d) k l

-- the apex is the folded owner of each SOA
pub apex_of : (given : List Record) (entries : List Given) (the_soa : Given) (apex : Labels) → AreGivens given entries
    → Contains entries the_soa → the_soa.given.kind ≡ soa → apex ≡ folded_labels the_soa.given.owner → HasOneSoa given
    → (one : Record) → Contains given one → one.kind ≡ soa → apex ≡ folded_labels one.owner
apex_of given entries the_soa apex are c k is one_soa one d l =
    is ∙ (one_soa the_soa.given one (given_in given entries are the_soa c) d k l).0.0

apex_same : (apex owner : Labels) → apex ≡ folded_labels owner → AreSame apex owner
apex_same apex owner is = ap folded_labels is ∙ sym (same_folded owner)

-- at or below the apex is at or below the SOA
pub inside_of : (given : List Record) (apex : Labels)
    → ((one : Record) → Contains given one → one.kind ≡ soa → apex ≡ folded_labels one.owner) → (r : Record)
    → IsBelow r.owner apex → IsInside given r
inside_of given apex is r b the_soa c k = below_same_top r.owner apex the_soa.owner (apex_same apex the_soa.owner (is the_soa c k)) b

pub of_inside : (given : List Record) (apex : Labels) → HasSoa given
    → ((one : Record) → Contains given one → one.kind ≡ soa → apex ≡ folded_labels one.owner) → (r : Record)
    → IsInside given r → IsBelow r.owner apex
of_inside given apex (the_soa, c, k) is r i = below_same_top r.owner the_soa.owner apex (sym (apex_same apex the_soa.owner (is the_soa c k))) (i the_soa c k)

-- the first record outside
pub outside_first : (given : List Record) (apex : Labels) (place : ℕ) (one : Record) → HasSoa given
    → ((one : Record) → Contains given one → one.kind ≡ soa → apex ≡ folded_labels one.owner)
    → IsFirst (λ r. ¬ IsBelow r.owner apex) given place one → IsFirst (λ r. ¬ IsInside given r) given place one
outside_first given apex place one has is f =
    first_same (λ r. ¬ IsBelow r.owner apex) (λ r. ¬ IsInside given r) given place one
    (λ y c out i. out (of_inside given apex has is y i)) (λ y c out b. out (inside_of given apex is y b)) f

mixed_at : (given : List Record) (entries : List Given) → AreGivens given entries → (e : Given) (owner : Labels)
    → AreSame e.given.owner owner → Clashes given owner → IsMixedAt entries e
mixed_at given entries are e owner same (one, other, c, d, a, b, k, differ) =
    let f = entry_in given entries are one c in
    let g = entry_in given entries are other d in (
      f.0,
      g.0,
      f.1,
      g.1,
      ap (λ (r : Record). folded_labels r.owner) f.2 ∙ a ∙ sym same,
      ap (λ (r : Record). folded_labels r.owner) g.2 ∙ b ∙ sym same,
      ap (λ (r : Record). r.kind) f.2 ∙ k,
      λ r. differ (subst (AreRepeats one) g.2 (subst (λ (x : Record). AreRepeats x g.0.given) f.2 r)),
    )

clash_at : (given : List Record) (entries : List Given) → AreGivens given entries → (e : Given) → IsMixedAt entries e → Clashes given e.given.owner
clash_at given entries are e (one, other, c, d, a, b, k, differ) =
    (one.given, other.given, given_in given entries are one c, given_in given entries are other d, a, b, k, differ)

-- no owner is mixed
pub unmixed_of : (given : List Record) (entries : List Given) → AreGivens given entries → IsFirstMixed entries None
    → (one other : Record) → Contains given one → Contains given other → one.kind ≡ cname
    → AreSame one.owner other.owner → AreRepeats one other
unmixed_of given entries are none one other c d k same = decided (repeats_or_not one other)
  where
    decided : Either (AreRepeats one other) → AreRepeats one other
    decided (inl r) = r
    decided (inr differ) =
        let e = entry_in given entries are one c in
        absurd (none e.0 e.1 (mixed_at given entries are e.0 one.owner (ap (λ (r : Record). folded_labels r.owner) e.2)
        (one, other, c, d, refl, sym same, k, differ)))

-- the first record whose owner is mixed
pub mixed_first : (given : List Record) (entries : List Given) (place : ℕ) (x : Record) → AreGivens given entries
    → IsFirstMixed entries (Some place) → place < length given → x ≡ get_or given place x
    → IsFirst (λ r. Clashes given r.owner) given place x
mixed_first given entries place x are (found, least) within is =
    let p = are.each found.0 found.1 in
    let there : get_or given place found.0.given ≡ found.0.given = subst (λ k. get_or given k found.0.given ≡ found.0.given) found.3 p.1 in
    let same : found.0.given ≡ x = sym there ∙ get_or_default given place found.0.given x within ∙ sym is in
    first_found (λ r. Clashes given r.owner) given place x within is
    (λ y (k, l, at) clash.
    let lt : k < place = omega (arith, l, length-take place given) in
    let at' : get_or given k y ≡ y = sym (get_or-take place given k y lt) ∙ at in
    let low : place ≤ k = least (record { place = k; given = y }) (are.all k y (omega arith) at')
    (mixed_at given entries are (record { place = k; given = y }) y.owner refl clash) in
    absurd (omega (arith, low, lt)))
    (subst (λ (r : Record). Clashes given r.owner) same (clash_at given entries are found.0 found.2))

pub mixed_within : (given : List Record) (entries : List Given) (place : ℕ) → AreGivens given entries → IsFirstMixed entries (Some place) → place < length given
mixed_within given entries place are (found, least) = subst (λ k. k < length given) found.3 (are.each found.0 found.1).0

-- what is kept of entries is kept of given records
kept_of : (given : List Record) (entries : List Given) (e : Given) (kept : Record) → AreGivens given entries
    → IsKeptOf entries e kept → IsKept given e.given kept
kept_of given entries e kept are (ttl, least, copy, first) = record {
  owner = copy.owner;
  kind = copy.kind;
  class = copy.class;
  content = copy.content;
  ttl = record {
    some = (least.some.0.given, given_in given entries are least.some.0 least.some.1, least.some.2, least.some.3 ∙ sym copy.ttl);
    least = λ other c same.
        let f = entry_in given entries are other c in
        let l = least.least f.0 f.1 (subst (AreOneSet e.given) (sym f.2) same) in
        let t = copy.ttl in
        let o = ap (λ (r : Record). r.ttl) f.2 in
        omega (arith, l, t, o);
  };
}

-- the first of the entries that are repeats is the first of the records that are
first_repeat : (given : List Record) (entries : List Given) (e : Given) (kept : Record) → AreGivens given entries
    → Contains entries e → IsEarliest entries e → AreRepeats e.given kept → IsFirstRepeat given kept e.given
first_repeat given entries e kept are c first same =
    let p = are.each e c in (
      e.place,
      first_found (AreRepeats kept) given e.place e.given p.0 (sym p.1) (λ y (k, l, at) r.
          let lt : k < e.place = omega (arith, l, length-take e.place given) in
          let within = p.0 in
          let at' : get_or given k y ≡ y = sym (get_or-take e.place given k y lt) ∙ at in
          let low : e.place ≤ k = first (record { place = k; given = y }) (are.all k y (omega arith) at') (alike_trans Whole e.given kept y same r) in
          absurd (omega (arith, low, lt))) (alike_sym Whole e.given kept same),
    )

kept_first : (given : List Record) (entries : List Given) (e : Given) (kept : Record) → AreGivens given entries
    → Contains entries e → IsKeptOf entries e kept → IsFirstRepeat given kept e.given
kept_first given entries e kept are c (ttl, least, copy, first) =
    first_repeat given entries e kept are c first (kept_repeats entries e kept (ttl, least, copy, first))

is_soa_kind : (n : ℕ) → (n == soa) ≡ true → n ≡ soa
is_soa_kind n e = grind (arith, nat_tests)

is_other_kind : (n : ℕ) → (n == soa) ≡ false → n ≢ soa
is_other_kind n e f = grind (arith, nat_tests)

soa_kind_is : (n : ℕ) → n ≡ soa → (n == soa) ≡ true
soa_kind_is n e = ap (λ k. k == soa) e

soa_or_not : (n : ℕ) → ((n == soa) ≡ true) ⊎ ((n == soa) ≡ false)
soa_or_not n = elim (n == soa) as (λ b. (b ≡ true) ⊎ (b ≡ false)) [ true ↦ inl refl | false ↦ inr refl ]

-- rising records that are repeats of each other are one at most
one_rising : (a b : Record) (rest : List Record) → IsRising (a ∷ b ∷ rest) → AreRepeats a b → ⊥
one_rising a b rest r same = cc (sym r.0.0, alike_equal Whole a b same)

-- what is kept of the SOA records is one record, and what is kept of the others
pub record IsParted (given : List Record) (the_soa : Record) (others : List Record) : Type 0 where
  pub kind : the_soa.kind ≡ soa
  pub none : AllByRecursion (λ one. one.kind ≢ soa) others
  pub rising : IsRising others

parted : (given : List Record) (entries : List Given) (first others : List Record) → AreGivens given entries
    → HasSoa given → HasOneSoa given → AreMerged (IsSoaAs true) (IsKeptOf entries) entries first
    → AreMerged (IsSoaAs false) (IsKeptOf entries) entries others
    → (the_soa : Record) × (first ≡ the_soa ∷ []) × IsParted given the_soa others
parted given entries [] others are (one, c, k) only a b =
    let e = entry_in given entries are one c in
    let f = a.each e.0 e.1 (soa_kind_is e.0.given.kind (ap (λ (r : Record). r.kind) e.2 ∙ k)) in
    absurd (Contains-none f.0 f.1)
parted given entries (the_soa ∷ []) others are has only a b =
    let f = a.from the_soa (Contains-head the_soa []) in (
      the_soa,
      refl,
      record {
        kind = f.3.2.kind ∙ is_soa_kind f.0.given.kind f.2;
        none = AllByRecursion-made (λ (one : Record). one.kind ≢ soa) others (λ r c k.
            let g = b.from r c in is_other_kind g.0.given.kind g.2 (sym g.3.2.kind ∙ k));
        rising = b.rising;
      },
    )
parted given entries (the_soa ∷ next ∷ more) others are has only a b =
    let f = a.from the_soa (Contains-head the_soa (next ∷ more)) in
    let g = a.from next (Contains-after the_soa (next ∷ more) next (Contains-head next more)) in
    let same = only f.0.given g.0.given (given_in given entries are f.0 f.1) (given_in given entries are g.0 g.1)
    (is_soa_kind f.0.given.kind f.2) (is_soa_kind g.0.given.kind g.2) in
    absurd (one_rising the_soa next more a.rising
    (alike_trans Whole the_soa f.0.given next (alike_sym Whole f.0.given the_soa (kept_repeats entries f.0 the_soa f.3))
    (alike_trans Whole f.0.given g.0.given next same (kept_repeats entries g.0 next g.3))))

-- the zone of the kept records is the one that the given records make
pub built_of : (given : List Record) (entries : List Given) (apex : Labels) (first others : List Record)
    → AreGivens given entries → HasSoa given → HasOneSoa given
    → ((one : Record) → Contains given one → one.kind ≡ soa → apex ≡ folded_labels one.owner)
    → AreMerged (IsSoaAs true) (IsKeptOf entries) entries first
    → AreMerged (IsSoaAs false) (IsKeptOf entries) entries others
    → IsBuilt given (record { apex = apex; records = first ++ others })
built_of given entries apex first others are has only is a b = record {
  apex = is;
  kept = λ kept c. elim (Contains-append_cases first others kept c) [
    | inl front ↦ let f = a.from kept front in (f.0.given, kept_first given entries f.0 kept are f.1 f.3, kept_of given entries f.0 kept are f.3)
    | inr back ↦ let f = b.from kept back in (f.0.given, kept_first given entries f.0 kept are f.1 f.3, kept_of given entries f.0 kept are f.3)
  ];
  all = λ one c.
      let e = entry_in given entries are one c in
      elim (soa_or_not e.0.given.kind) [
        | inl the_soa ↦
            let f = a.each e.0 e.1 the_soa in
            (f.0, Contains-append_left first others f.0 f.1, subst (λ (x : Record). AreRepeats x f.0) e.2 f.2)
        | inr other ↦
            let f = b.each e.0 e.1 other in
            (f.0, Contains-append_right first others f.0 f.1, subst (λ (x : Record). AreRepeats x f.0) e.2 f.2)
      ];
  order =
      let p = parted given entries first others are has only a b in
      subst (λ l. IsCanonical (l ++ others)) (sym p.1) (p.2.kind, p.2.none, p.2.rising);
}

-- a record of a built zone is kept of a given one
kept_from : (given : List Record) (zone : Zone) → IsBuilt given zone → (kept : Record) → Contains zone.records kept
    → (one : Record) × Contains given one × IsKept given one kept
kept_from given zone built kept c =
    let f = built.kept kept c in
    (f.0, first_in (AreRepeats kept) given f.1.0 f.0 f.1.1, f.2)

-- two records of one set of a built zone have one TTL
one_ttl : (given : List Record) (one other kept kept' : Record) → IsKept given one kept → IsKept given other kept' → AreOneSet kept kept' → kept.ttl ≡ kept'.ttl
one_ttl given one other kept kept' k l same =
    let owners : AreSame one.owner other.owner =
    same_folded one.owner ∙ ap folded_labels (sym k.owner) ∙ same.0 ∙ ap folded_labels l.owner
    ∙ sym (same_folded other.owner) in
    let kinds : one.kind ≡ other.kind = sym k.kind ∙ same.1 ∙ l.kind in
    let a = k.ttl.some in
    let b = l.ttl.some in
    let low = l.ttl.least a.0 a.1 (sym owners ∙ a.2.0, sym kinds ∙ a.2.1) in
    let high = k.ttl.least b.0 b.1 (owners ∙ b.2.0, kinds ∙ b.2.1) in
    let e = a.3 in
    let f = b.3 in
    omega (arith, low, high, e, f)

not_more : (n : ℕ) → ¬ (60_000 < n) → n ≤ 60_000
not_more n not = grind arith

-- a built zone of records without faults is valid
pub valid_of : (given : List Record) (zone : Zone) → ((one : Record) → Contains given one → IsPlain one)
    → AreUnmixed given → IsBuilt given zone → ((one : Record) → Contains zone.records one → ¬ IsLarge zone.records one)
    → ((one : Record) → Contains given one → ¬ IsWildcardCut one) → IsValid zone
valid_of given zone plain free built small cuts = record {
  plain = λ kept c.
      let f = kept_from given zone built kept c in
      let p = plain f.0 f.1 in
      record { class = f.2.class ∙ p.class; whole = subst (λ x. IsTrue (is_whole x)) (sym f.2.content) p.whole };
  order = built.order;
  soa = λ kept c k.
      let f = kept_from given zone built kept c in f.2.owner ∙ sym (built.apex f.0 f.1 (sym f.2.kind ∙ k));
  folded = λ kept c. let f = kept_from given zone built kept c in ap folded_labels f.2.owner ∙ sym (same_folded f.0.owner) ∙ sym f.2.owner;
  inside = λ kept c.
      let f = kept_from given zone built kept c in
      below_same_name f.0.owner kept.owner zone.apex (same_folded f.0.owner ∙ ap folded_labels (sym f.2.owner))
      (of_inside given zone.apex free.inside.some built.apex f.0 (free.inside.inside f.0 f.1));
  ttl = λ one other c d same.
      let f = kept_from given zone built one c in
      let g = kept_from given zone built other d in
      one_ttl given f.0 g.0 one other f.2 g.2 same;
  alias = λ one other c d k same.
      let f = kept_from given zone built one c in
      let g = kept_from given zone built other d in
      let owners : AreSame f.0.owner g.0.owner =
      same_folded f.0.owner ∙ ap folded_labels (sym f.2.owner) ∙ same ∙ ap folded_labels g.2.owner
      ∙ sym (same_folded g.0.owner) in
      let r = free.unmixed f.0 g.0 f.1 g.1 (sym f.2.kind ∙ k) owners in
      ((same, f.2.kind ∙ r.0.1 ∙ sym g.2.kind), ap rdata_of f.2.content ∙ r.1 ∙ ap rdata_of (sym g.2.content));
  cuts = λ kept c k wild.
      let f = kept_from given zone built kept c in
      cuts f.0 f.1 (sym f.2.kind ∙ k, wildcard_folded f.0.owner (subst IsWildcard f.2.owner wild));
  small = λ owner kind set s. light zone.records owner kind set small s;
}
  where
    light : (records : List Record) (owner : Labels) (kind : ℕ) (set : List Record)
        → ((one : Record) → Contains records one → ¬ IsLarge records one) → IsSet records owner kind set
        → weight set ≤ 60_000
    light records owner kind [] none s = omega arith
    light records owner kind (x ∷ set) none s =
        let here : Contains records x =
        subst (λ l. Contains l x) (sym s.parts)
        (Contains-append_right s.before ((x ∷ set) ++ s.after) x (Contains-head x (set ++ s.after))) in
        let not : ¬ (60_000 < weight (x ∷ set)) = λ l. none x here (x ∷ set, set_same_name records owner kind x (x ∷ set) s.each.0 s, l) in
        not_more (weight (x ∷ set)) not
