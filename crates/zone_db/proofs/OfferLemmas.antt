-- What is found in zones is what they offer as they are told.
use Rattle.std.proofs.Common.{◌≡◌, inl, inr, ℕ, ◌+◌, ◌<◌, ◌≤◌, List, [], ◌∷◌, ◌++◌, length, map, refl, sym, ap, subst, ◌∙◌, arith}
use Rattle.std.specs.Prelude.{Contains, IsTrue}
use Rattle.std.specs.List.{AllByRecursion}
use Rattle.std.proofs.lemmas.List.{map-append}
use Rattle.std.proofs.lemmas.List.Sums.{sum_by-append}
use Rattle.dns_wire.specs.Rdata.{rdata_of}
use Rattle.std.proofs.lemmas.List.Elements.{Contains-append_left, Contains-append_right, Contains-append_cases}
use Rattle.naptr_data.proofs.CutLemmas.{Contains-head, Contains-after, Contains-none, Contains-middle, head_or_after}
use Rattle.naptr_data.specs.Zones.{Labels, Item, Owned, Exists, HasItem, IsFirstAlias, AreRules, IsOffer, IsDelegated, rule, alias, delegation}
use Rattle.naptr_data.specs.Zones as plain
use Rattle.naptr_rule.specs.declared.rule.Naptr.{Naptr}
use Rattle.naptr_data.specs.declared.offer.Offer.{Offer}
use Rattle.dns_name.specs.Name.{AreSame, IsBelow, folded_labels}
use Rattle.naptr_data.proofs.BelowLemmas.{below_itself, below_same_top}
use Rattle.dns_wire.specs.Kinds.{kind_of, is_whole, a, ns, cname, naptr}
use Rattle.dns_wire.specs.declared.content.Content.{Content}
use Rattle.dns_wire.specs.declared.content.Content.TheVariants as content
use Rattle.dns_wire.specs.declared.record.Record.{Record}
use Rattle.zone_build.specs.Zone.{Zone, IsIn, IsSet, IsValid, IsRising, IsCanonical, AreRepeats, weight}
use Rattle.zone_db.specs.Offering.{IsReadable}
use Rattle.zone_build.proofs.OrderLemmas.{repeats_equal}
use Rattle.zone_build.proofs.RdataLemmas.{kind_is}
use Rattle.zone_build.specs.Plain.{item_of, owned_of, plain_of, told}
use Rattle.zone_db.specs.Sets.{AreApart, AreZones}
use Rattle.zone_db.specs.LookUp.{Decides, IsCut, IsServed, HasKind, AsksFor, MeetsAlias, IsAnswered, IsFound, AreRulesOf, ReadsAs}
use Rattle.zone_db.specs.declared.found.Found.{Found}
use Rattle.zone_db.specs.declared.found.Found.TheVariants as found
use Rattle.zone_build.proofs.ListLemmas.{AllByRecursion-contains}
use Rattle.zone_db.proofs.SeekLemmas.{owned_in, in_owned}
use Rattle.zone_db.proofs.RuleLemmas.{rdata_rises}

item_ns : (c : Content) → kind_of c ≡ ns → IsTrue (is_whole c) → item_of c ≡ delegation
item_ns (content.A address) e w = absurd (omega (arith, e))
item_ns (content.Ns server) e w = refl
item_ns (content.Cname target) e w = absurd (omega (arith, e))
item_ns (content.Soa fields) e w = absurd (omega (arith, e))
item_ns (content.Ptr name) e w = absurd (omega (arith, e))
item_ns (content.Mx preference exchange) e w = absurd (omega (arith, e))
item_ns (content.Txt texts) e w = absurd (omega (arith, e))
item_ns (content.Aaaa address) e w = absurd (omega (arith, e))
item_ns (content.Srv priority weight port target) e w = absurd (omega (arith, e))
item_ns (content.Naptr r) e w = absurd (omega (arith, e))
item_ns (content.Opt options) e w = absurd (cc)
item_ns (content.Raw bytes) e w = absurd (cc)

ns_item : (c : Content) → item_of c ≡ delegation → kind_of c ≡ ns
ns_item (content.A address) e = absurd (cc)
ns_item (content.Ns server) e = refl
ns_item (content.Cname target) e = absurd (cc)
ns_item (content.Soa fields) e = absurd (cc)
ns_item (content.Ptr name) e = absurd (cc)
ns_item (content.Mx preference exchange) e = absurd (cc)
ns_item (content.Txt texts) e = absurd (cc)
ns_item (content.Aaaa address) e = absurd (cc)
ns_item (content.Srv priority weight port target) e = absurd (cc)
ns_item (content.Naptr r) e = absurd (cc)
ns_item (content.Opt options) e = absurd (cc)
ns_item (content.Raw bytes) e = absurd (cc)

alias_content : (c : Content) (target : Labels) → item_of c ≡ alias target → c ≡ content.Cname target
alias_content (content.A address) t e = absurd (cc)
alias_content (content.Ns server) t e = absurd (cc)
alias_content (content.Cname name) t e = ap content.Cname (cc)
alias_content (content.Soa fields) t e = absurd (cc)
alias_content (content.Ptr name) t e = absurd (cc)
alias_content (content.Mx preference exchange) t e = absurd (cc)
alias_content (content.Txt texts) t e = absurd (cc)
alias_content (content.Aaaa address) t e = absurd (cc)
alias_content (content.Srv priority weight port target) t e = absurd (cc)
alias_content (content.Naptr r) t e = absurd (cc)
alias_content (content.Opt options) t e = absurd (cc)
alias_content (content.Raw bytes) t e = absurd (cc)

rule_content : (c : Content) (r : Naptr) → item_of c ≡ rule r → c ≡ content.Naptr r
rule_content (content.A address) x e = absurd (cc)
rule_content (content.Ns server) x e = absurd (cc)
rule_content (content.Cname target) x e = absurd (cc)
rule_content (content.Soa fields) x e = absurd (cc)
rule_content (content.Ptr name) x e = absurd (cc)
rule_content (content.Mx preference exchange) x e = absurd (cc)
rule_content (content.Txt texts) x e = absurd (cc)
rule_content (content.Aaaa address) x e = absurd (cc)
rule_content (content.Srv priority weight port target) x e = absurd (cc)
rule_content (content.Naptr r) x e = ap content.Naptr (cc)
rule_content (content.Opt options) x e = absurd (cc)
rule_content (content.Raw bytes) x e = absurd (cc)

-- a record of a valid zone has the kind of its content
kind_of_record : (zone : Zone) (one : Record) → IsValid zone → Contains zone.records one → one.kind ≡ kind_of one.content
kind_of_record zone one valid c = kind_is one.content one.kind one.class one.belongs (valid.plain one c).whole

-- a told zone is told of a zone
pub in_told : (zones : List Zone) (z : plain.Zone) → Contains (told zones) z → (zone : Zone) × Contains zones zone × (z ≡ plain_of zone)
in_told [] z c = absurd (Contains-none z c)
in_told (x ∷ zones) z c = elim (head_or_after (plain_of x) (told zones) z c) [
  | inl here ↦ (x, Contains-head x zones, here)
  | inr after ↦ let f = in_told zones z after in (f.0, Contains-after x zones f.0 f.1, f.2)
]

-- the zone that decides does so as it is told
cut_at : (zones : List Zone) (zone : Zone) → Contains zones zone → (before : List Zone) × (after : List Zone) × (zones ≡ before ++ zone ∷ after)
cut_at [] zone c = absurd (Contains-none zone c)
cut_at (x ∷ zones) zone c = elim (head_or_after x zones zone c) [
  | inl here ↦ ([], zones, ap (λ z. z ∷ zones) (sym here))
  | inr after ↦ let f = cut_at zones zone after in (x ∷ f.0, f.1, ap (λ l. x ∷ l) f.2)
]

apart_cut : (before : List Zone) (zone : Zone) (after : List Zone) (z : Zone) → AreApart (before ++ zone ∷ after)
    → Contains before z → ¬ AreSame zone.apex z.apex
apart_cut [] zone after z a c same = Contains-none z c
apart_cut (x ∷ before) zone after z a c same = elim (head_or_after x before z c) [
  | inl here ↦
      AllByRecursion-contains (λ (o : Zone). ¬ AreSame o.apex x.apex) (before ++ zone ∷ after) zone a.0
      (Contains-middle before zone after) (subst (λ (y : Zone). AreSame zone.apex y.apex) here same)
  | inr further ↦ apart_cut before zone after z a.1 further same
]

decides_told : (zones : List Zone) (name : Labels) (zone : Zone) → AreZones zones → Decides zones name zone → plain.Decides (told zones) name (plain_of zone)
decides_told zones name zone are d =
    let f = cut_at zones zone d.among in
    record {
      before = told f.0;
      after = told f.1;
      parts = ap told f.2 ∙ map-append plain_of f.0 (zone ∷ f.1);
      above = d.above;
      longer = λ z c b.
          let g = in_told f.0 z c in
          let e = ap (λ (p : plain.Zone). p.apex) g.2 in
          let among : Contains zones g.0 = subst (λ l. Contains l g.0) (sym f.2) (Contains-append_left f.0 (zone ∷ f.1) g.0 g.1) in
          elim (d.longest g.0 among (subst (IsBelow name) e b)) [
            | inl same ↦ absurd (apart_cut f.0 zone f.1 g.0 (subst AreApart f.2 are.apart) g.1 (ap (λ (y : Zone). folded_labels y.apex) (sym same)))
            | inr less ↦ omega (arith, less, ap length e)
          ];
      longest = λ z c b.
          let g = in_told f.1 z c in
          let e = ap (λ (p : plain.Zone). p.apex) g.2 in
          let among : Contains zones g.0 =
          subst (λ l. Contains l g.0) (sym f.2)
          (Contains-append_right f.0 (zone ∷ f.1) g.0 (Contains-after zone f.1 g.0 g.1)) in
          elim (d.longest g.0 among (subst (IsBelow name) e b)) [
            | inl same ↦ omega (arith, ap length e, ap (λ (y : Zone). length y.apex) same)
            | inr less ↦ omega (arith, less, ap length e)
          ];
    }

valid_zone : (zones : List Zone) (zone : Zone) → AreZones zones → Contains zones zone → IsValid zone
valid_zone zones zone are c = AllByRecursion-contains IsValid zones zone are.each c

-- a cut is a delegation, and a delegation a cut
cut_delegates : (zone : Zone) (name owner : Labels) → IsValid zone → IsCut zone owner → IsBelow name owner → IsDelegated (plain_of zone) name
cut_delegates zone name owner valid (one, c, i, not) below = (
  one.owner,
  subst (λ (item : Item). Contains (map owned_of zone.records) (record { owner = one.owner; item = item }))
      (item_ns one.content (sym (kind_of_record zone one valid c) ∙ i.1) (valid.plain one c).whole)
      (owned_in zone.records one c),
  below_same_top name owner one.owner (sym i.0) below,
  valid.inside one c,
  λ same. not (sym i.0 ∙ same),
)

delegation_cuts : (zone : Zone) (name : Labels) → IsValid zone → IsDelegated (plain_of zone) name → (owner : Labels) × IsCut zone owner × IsBelow name owner
delegation_cuts zone name valid (owner, c, below, inside, not) =
    let f = in_owned zone.records (record { owner = owner; item = delegation }) c in
    let owners : owner ≡ f.0.owner = ap (λ (o : Owned). o.owner) f.2 in
    let item : item_of f.0.content ≡ delegation = sym (ap (λ (o : Owned). o.item) f.2) in
    (owner, (f.0, f.1, (ap folded_labels (sym owners), kind_of_record zone f.0 valid f.1 ∙ ns_item f.0.content item), not), below)

served_told : (zones : List Zone) (name : Labels) (zone : Zone) (source : Labels) → AreZones zones
    → IsServed zones name zone source → plain.IsServed (told zones) name (plain_of zone) source
served_told zones name zone source are s =
    let valid = valid_zone zones zone are s.decides.among in
    (decides_told zones name zone are s.decides, (λ d. let f = delegation_cuts zone name valid d in s.uncut f.0 f.1 f.2), s.stands_for)

-- what stands at a name is of the kind of its item
stands_record : (records : List Record) (name : Labels) (item : Item) → HasItem (map owned_of records) name item
    → (one : Record) × Contains records one × AreSame one.owner name × (item_of one.content ≡ item)
stands_record records name item (owner, c, same) =
    let f = in_owned records (record { owner = owner; item = item }) c in
    (f.0, f.1, subst (λ o. AreSame o name) (ap (λ (o : Owned). o.owner) f.2) same, sym (ap (λ (o : Owned). o.item) f.2))

alias_has : (zone : Zone) (source target : Labels) → IsValid zone → HasItem (map owned_of zone.records) source (alias target) → HasKind zone source cname
alias_has zone source target valid s =
    let f = stands_record zone.records source (alias target) s in
    (f.0, f.1, (f.2, kind_of_record zone f.0 valid f.1 ∙ ap kind_of (alias_content f.0.content target f.3)))

pub rule_has : (zone : Zone) (source : Labels) (r : Naptr) → IsValid zone
    → HasItem (map owned_of zone.records) source (rule r)
    → (one : Record) × Contains zone.records one × IsIn source naptr one × (one.content ≡ content.Naptr r)
rule_has zone source r valid s =
    let f = stands_record zone.records source (rule r) s in
    let is = rule_content f.0.content r f.3 in
    (f.0, f.1, (f.2, kind_of_record zone f.0 valid f.1 ∙ ap kind_of is), is)

no_answer : ¬ AsksFor naptr cname
no_answer (inl e) = absurd (omega (arith, e))
no_answer (inr e) = absurd (omega (arith, e))

-- where no alias is met none stands there
no_alias : (zone : Zone) (source : Labels) → IsValid zone → ¬ MeetsAlias zone source naptr → (target : Labels)
    → ¬ HasItem (map owned_of zone.records) source (alias target)
no_alias zone source valid not target s = not (alias_has zone source target valid s, no_answer)

-- a record of the set's name and kind is in the set
in_set : (records : List Record) (owner : Labels) (kind : ℕ) (set : List Record) (one : Record)
    → IsSet records owner kind set → Contains records one → IsIn owner kind one → Contains set one
in_set records owner kind set one s c i = elim (Contains-append_cases s.before (set ++ s.after) one (subst (λ l. Contains l one) s.parts c)) [
  | inl front ↦ absurd (AllByRecursion-contains (λ r. ¬ IsIn owner kind r) s.before one s.none_before front i)
  | inr rest ↦ elim (Contains-append_cases set s.after one rest) [
    | inl here ↦ here
    | inr back ↦ absurd (AllByRecursion-contains (λ r. ¬ IsIn owner kind r) s.after one s.none_after back i)
  ]
]

set_in : (records : List Record) (owner : Labels) (kind : ℕ) (set : List Record) (one : Record)
    → IsSet records owner kind set → Contains set one → Contains records one
set_in records owner kind set one s c =
    subst (λ l. Contains l one) (sym s.parts)
    (Contains-append_right s.before (set ++ s.after) one (Contains-append_left set s.after one c))

stands_in : (records : List Record) (name : Labels) (one : Record) (item : Item) → Contains records one
    → AreSame one.owner name → item_of one.content ≡ item → HasItem (map owned_of records) name item
stands_in records name one item c same is =
    (one.owner, subst (λ (i : Item). Contains (map owned_of records) (record { owner = one.owner; item = i })) is (owned_in records one c), same)

answered_kind : (zone : Zone) (source : Labels) (kind : ℕ) → IsAnswered zone source naptr kind → naptr ≡ kind
answered_kind zone source kind a = elim a.answers [ inl e ↦ e | inr e ↦ absurd (omega (arith, e)) ]

-- the rules of the set are those at the source
rules_told : (zone : Zone) (source : Labels) (set : List Record) (rules : List Naptr) → IsValid zone
    → ¬ MeetsAlias zone source naptr → IsSet zone.records source naptr set → AreRulesOf set rules
    → AreRules (map owned_of zone.records) source rules
rules_told zone source set rules valid not s are = record {
  none = no_alias zone source valid not;
  each = λ r. (
    λ c. let f = (are.each r).0 c in
        stands_in zone.records source f.0 (rule r) (set_in zone.records source naptr set f.0 s f.1)
        (AllByRecursion-contains (IsIn source naptr) set f.0 s.each f.1).0 (ap item_of f.2),
    λ st. let f = rule_has zone source r valid st in (are.each r).1 (f.0, in_set zone.records source naptr set f.0 s f.1 f.2, f.3),
  );
  rising = are.rising;
}

no_rules : (zone : Zone) (source : Labels)
    → ((target : Labels) → ¬ HasItem (map owned_of zone.records) source (alias target))
    → ((r : Naptr) → ¬ HasItem (map owned_of zone.records) source (rule r))
    → AreRules (map owned_of zone.records) source []
no_rules zone source alias_none rule_none = record {
  none = alias_none;
  each = λ r. (λ c. absurd (Contains-none r c), λ s. absurd (rule_none r s));
  rising = tt;
}

stands_exists : (zone : Zone) (name : Labels) (item : Item) → HasItem (map owned_of zone.records) name item → Exists (plain_of zone) name
stands_exists zone name item (owner, c, same) =
    inr (record { owner = owner; item = item }, c, below_same_top owner owner name same (below_itself owner))

-- the alias of the set is the first there
alias_told : (zone : Zone) (source target : Labels) (one : Record) → IsValid zone
    → IsSet zone.records source cname (one ∷ []) → one.content ≡ content.Cname target
    → IsFirstAlias (map owned_of zone.records) source target
alias_told zone source target one valid s is = record {
  owner = one.owner;
  before = map owned_of s.before;
  after = map owned_of s.after;
  parts = ap (map owned_of) s.parts ∙ map-append owned_of s.before (one ∷ s.after)
      ∙ ap (λ (i : Item). map owned_of s.before ++ (record { owner = one.owner; item = i }) ∷ map owned_of s.after)
      (ap item_of is);
  here = s.each.0.0;
  first = λ earlier st.
      let f = stands_record s.before source (alias earlier) st in
      let among : Contains zone.records f.0 = subst (λ l. Contains l f.0) (sym s.parts) (Contains-append_left s.before (one ∷ s.after) f.0 f.1) in
      AllByRecursion-contains (λ r. ¬ IsIn source cname r) s.before f.0 s.none_before f.1
      (f.2, kind_of_record zone f.0 valid among ∙ ap kind_of (alias_content f.0.content earlier f.3));
}

pub found_is_offered : (zones : List Zone) (name : Labels) (f : Found) (o : Offer) → AreZones zones
    → IsFound zones name naptr f → ReadsAs f o → IsOffer (told zones) name o
found_is_offered zones name found.Outside o are none is =
    subst (IsOffer (told zones) name) (sym is)
    (inl (λ z c b. let g = in_told zones z c
    in none g.0 g.1 (subst (IsBelow name) (ap (λ (p : plain.Zone). p.apex) g.2) b)))
found_is_offered zones name (found.Cut set) o are (zone, owner, d, highest, s) is =
    let valid = valid_zone zones zone are d.among in
    subst (IsOffer (told zones) name) (sym is)
    (inr (
      plain_of zone,
      decides_told zones name zone are d,
      cut_delegates zone name owner valid highest.cut highest.above,
    ))
found_is_offered zones name (found.Alias set) o are (zone, source, served, met, s) (one, target, only, is, o_is) =
    let valid = valid_zone zones zone are served.decides.among in
    subst (IsOffer (told zones) name) (sym o_is) (
      plain_of zone,
      source,
      served_told zones name zone source are served,
      alias_told zone source target one valid (subst (IsSet zone.records source cname) only s) is,
    )
found_is_offered zones name (found.Set set) o are (zone, source, kind, served, not, answered, s) (rules, of, o_is) =
    let valid = valid_zone zones zone are served.decides.among in
    let s35 = subst (λ k. IsSet zone.records source k set.now) (sym (answered_kind zone source kind answered)) s in
    subst (IsOffer (told zones) name) (sym o_is) (
      plain_of zone,
      source,
      served_told zones name zone source are served,
      rules_told zone source set.now rules valid not s35 of,
    )
found_is_offered zones name (found.NoSet the_soa) o are (zone, source, served, exists, not, none, is) o_is =
    let valid = valid_zone zones zone are served.decides.among in
    subst (IsOffer (told zones) name) (sym o_is) (
      plain_of zone,
      source,
      served_told zones name zone source are served,
      no_rules zone source (no_alias zone source valid not)
          (λ r st. let f = rule_has zone source r valid st in none naptr (f.0, f.1, f.2) (inl refl)),
    )
found_is_offered zones name (found.NoName the_soa) o are (zone, source, served, not, is) o_is =
    subst (IsOffer (told zones) name) (sym o_is) (
      plain_of zone,
      source,
      served_told zones name zone source are served,
      no_rules zone source (λ t st. not (stands_exists zone source (alias t) st))
          (λ r st. not (stands_exists zone source (rule r) st)),
    )

-- records in canonical order: a set of another kind than the SOA's rises
rising_end : (xs ys : List Record) → IsRising (xs ++ ys) → IsRising ys
rising_end [] ys r = r
rising_end (x ∷ xs) ys r = rising_end xs ys r.1

two_rising : (one next : Record) (rest : List Record) → IsRising (one ∷ (next ∷ rest)) → AreRepeats one next → ⊥
two_rising one next rest r same = cc (sym r.0.0, repeats_equal one next same)

-- an alias that is found is one CNAME
one_alias : (zone : Zone) (source : Labels) (before set after : List Record) → IsValid zone
    → zone.records ≡ before ++ (set ++ after) → AllByRecursion (IsIn source cname) set
    → ((one : Record) → Contains set one → Contains zone.records one) → 0 < length set
    → (one : Record) × (set ≡ one ∷ []) × Contains zone.records one × (one.kind ≡ cname)
one_alias zone source before [] after valid parts each in_all some = absurd (omega arith)
one_alias zone source before (one ∷ []) after valid parts each in_all some = (one, refl, in_all one (Contains-head one []), each.0.1)
one_alias zone source before (one ∷ next ∷ set) after valid parts each in_all some =
    let same = valid.alias one next (in_all one (Contains-head one (next ∷ set)))
    (in_all next (Contains-after one (next ∷ set) next (Contains-head next set))) each.0.1
    (each.0.0 ∙ sym each.1.0.0) in
    absurd (apart before (subst IsCanonical parts valid.order) same)
  where
    apart : (before : List Record) → IsCanonical (before ++ ((one ∷ next ∷ set) ++ after)) → AreRepeats one next → ⊥
    apart [] c same = absurd (omega (arith, sym c.0 ∙ each.0.1))
    apart (x ∷ before) c same = two_rising one next (set ++ after) (rising_end before ((one ∷ next ∷ set) ++ after) c.2) same

cname_content : (c : Content) → kind_of c ≡ cname → IsTrue (is_whole c) → (target : Labels) × (c ≡ content.Cname target)
cname_content (content.A address) e w = absurd (omega (arith, e))
cname_content (content.Ns server) e w = absurd (omega (arith, e))
cname_content (content.Cname target) e w = (target, refl)
cname_content (content.Soa fields) e w = absurd (omega (arith, e))
cname_content (content.Ptr name) e w = absurd (omega (arith, e))
cname_content (content.Mx preference exchange) e w = absurd (omega (arith, e))
cname_content (content.Txt texts) e w = absurd (omega (arith, e))
cname_content (content.Aaaa address) e w = absurd (omega (arith, e))
cname_content (content.Srv priority weight port target) e w = absurd (omega (arith, e))
cname_content (content.Naptr r) e w = absurd (omega (arith, e))
cname_content (content.Opt options) e w = absurd (cc)
cname_content (content.Raw bytes) e w = absurd (cc)

weighs : (set : List Record) → length set ≤ weight set
weighs [] = omega arith
weighs (one ∷ set) =
    let w = weighs set in
    omega (arith, w, sum_by-append (λ (r : Record). 265 + length (rdata_of r.content)) (one ∷ []) set)

set_nonempty : (records : List Record) (owner : Labels) (kind : ℕ) (set : List Record) (one : Record)
    → IsSet records owner kind set → Contains records one → IsIn owner kind one → 0 < length set
set_nonempty records owner kind [] one s c i = absurd (Contains-none one (in_set records owner kind [] one s c i))
set_nonempty records owner kind (x ∷ set) one s c i = omega arith

pub found_is_readable : (zones : List Zone) (name : Labels) (kind : ℕ) (f : Found) → AreZones zones → IsFound zones name kind f → IsReadable f
found_is_readable zones name kind found.Outside are h = tt
found_is_readable zones name kind (found.Cut set) are h = tt
found_is_readable zones name kind (found.Alias set) are (zone, source, served, met, s) =
    let valid = valid_zone zones zone are served.decides.among in
    let some = set_nonempty zone.records source cname set.now met.0.0 s met.0.1 met.0.2 in
    let f = one_alias zone source s.before set.now s.after valid s.parts s.each (λ one c. set_in zone.records source cname set.now one s c) some in
    let t = cname_content f.0.content (sym (kind_of_record zone f.0 valid f.2) ∙ f.3) (valid.plain f.0 f.2).whole in
    (f.0, t.0, f.1, t.1)
found_is_readable zones name kind (found.Set set) are (zone, source, k, served, not, answered, s) =
    let valid = valid_zone zones zone are served.decides.among in
    let small = valid.small source k set.now s in
    let w = weighs set.now in
    (omega (arith, small, w), rdata_rises zone.records source k set.now valid.order s)
found_is_readable zones name kind (found.NoSet the_soa) are h = tt
found_is_readable zones name kind (found.NoName the_soa) are h = tt
