-- What a registry holds at names.
use Rattle.std.proofs.Common.{◌≡◌, ◌≢◌, ◌⊎◌, inl, inr, ℕ, ◌+◌, ◌<◌, ◌≤◌, List, [], ◌∷◌, ◌++◌, length, Some, refl, sym, ap, subst, ◌∙◌, arith}
use Rattle.std.specs.Prelude.{Contains, IsTrue, ◌↔◌, nat_lt}
use Rattle.std.proofs.Common.{take, get_or}
use Rattle.std.proofs.lemmas.Bool.Decides.{nat_tests}
use Rattle.std.proofs.lemmas.List.{take_all, take_more}
use Rattle.dns_name.proofs.NameLemmas.{AllByRecursion-append}
use Rattle.dns_wire.specs.declared.content.Content.{Content}
use Rattle.dns_wire.specs.declared.content.Content.TheVariants as content
use Rattle.std.specs.List.{AllByRecursion}
use Rattle.std.specs.Cmp.{tied_itself}
use Rattle.std.specs.Cmp.Lexicographic.{nat_list_cmp_total, slice_cmp}
use Rattle.std.specs.Ordering.{nat_cmp}
use Rattle.std.specs.declared.cmp.Ordering.{Ordering}
use Rattle.std.specs.declared.cmp.Ordering.TheVariants.{Less, Equal}
use Rattle.std.proofs.lemmas.List.Elements.{Contains-append_cases, Contains-append_left, Contains-append_right}
use Rattle.dns_name.specs.Name.{AreSame, IsBelow, parent_of}
use Rattle.naptr_data.specs.Zones.{Labels}
use Rattle.naptr_data.proofs.BelowLemmas.{below_itself, below_more, below_same_name}
use Rattle.naptr_data.proofs.DecideLemmas.{below_parts}
use Rattle.naptr_data.proofs.CutLemmas.{Contains-head, Contains-middle, head_or_after}
use Rattle.naptr_rule.specs.Rdata.{rdata}
use Rattle.naptr_rule.specs.declared.rule.Naptr.{Naptr}
use Rattle.dns_wire.specs.Kinds.{is_whole, kind_of, naptr, ns, soa}
use Rattle.dns_wire.specs.Rdata.{rdata_of}
use Rattle.dns_wire.specs.declared.record.Record.{Record}
use Rattle.zone_build.specs.Zone.{Zone, IsIn, IsSet, IsValid, weight}
use Rattle.zone_build.proofs.IndexNamesLemmas.{below_both}
use Rattle.zone_build.proofs.ListLemmas.{AllByRecursion-contains, AllByRecursion-made}
use Rattle.zone_build.proofs.RdataLemmas.{kind_is}
use Rattle.zone_build.proofs.SizeLemmas.{one_set}
use Rattle.zone_db.specs.LookUp.{HasKind, IsCut}
use Rattle.zone_db.proofs.SeekLemmas.{set_has, set_none}
use Rattle.registry.specs.Commands.{HasNoRoom, HasRecord, HasRule}
use Rattle.registry.specs.Holding.{AreRules, IsPlace}
use Rattle.registry.specs.declared.place.Place.{Place}
use Rattle.registry.specs.declared.place.Place.TheVariants as place
use Rattle.registry.proofs.ChangeLemmas.{zone_of}
use Rattle.registry.proofs.PlaceLemmas.{Earlier, Later}

-- the SOA before the others is in no set but its own
pub set_after_soa : (the_soa : Record) (others set : List Record) (owner : Labels) (kind : ℕ) → the_soa.kind ≡ soa → kind ≢ soa
    → IsSet others owner kind set → IsSet (the_soa ∷ others) owner kind set
set_after_soa the_soa others set owner kind is other s = record {
  before = the_soa ∷ s.before;
  after = s.after;
  parts = ap (λ l. the_soa ∷ l) s.parts;
  each = s.each;
  none_before = ((λ i. other (sym i.1 ∙ is)), s.none_before);
  none_after = s.none_after;
}

-- the rules of a set
pub in_set : (records set : List Record) (owner : Labels) (kind : ℕ) (one : Record) → IsSet records owner kind set → Contains set one → Contains records one
in_set records set owner kind one s c =
    subst (λ l. Contains l one) (sym s.parts) (Contains-append_right s.before (set ++ s.after) one (Contains-append_left set s.after one c))

pub to_set : (records set : List Record) (owner : Labels) (kind : ℕ) (one : Record) → IsSet records owner kind set → Contains records one
    → IsIn owner kind one → Contains set one
to_set records set owner kind one s c i = elim (Contains-append_cases s.before (set ++ s.after) one (subst (λ l. Contains l one) s.parts c)) [
  | inl front ↦ absurd (AllByRecursion-contains (λ r. ¬ IsIn owner kind r) s.before one s.none_before front i)
  | inr back ↦ elim (Contains-append_cases set s.after one back) [
    | inl here ↦ here
    | inr later ↦ absurd (AllByRecursion-contains (λ r. ¬ IsIn owner kind r) s.after one s.none_after later i)
  ]
]

pub are_rules : (zone : Zone) (set : List Record) (owner : Labels) → IsValid zone → IsSet zone.records owner naptr set → AreRules set
are_rules zone set owner v s = AllByRecursion-made (λ (one : Record). kind_of one.content ≡ naptr) set rule
  where
    rule : (one : Record) → Contains set one → kind_of one.content ≡ naptr
    rule one c =
        let i = AllByRecursion-contains (IsIn owner naptr) set one s.each c in
        sym (kind_is one.content one.kind one.class one.belongs (v.plain one (in_set zone.records set owner naptr one s c)).whole) ∙ i.1

-- a rule is there where its place is taken
pub taken_has : (zone : Zone) (set : List Record) (owner : Labels) (rule : Naptr) (at : ℕ) → IsSet zone.records owner naptr set
    → IsPlace set rule (place.Taken at) → HasRule zone owner rule
taken_has zone set owner rule at s (before, one, after, is, size, same) =
    let c : Contains set one = subst (λ l. Contains l one) (sym is) (Contains-middle before one after) in
    (one, in_set zone.records set owner naptr one s c, (AllByRecursion-contains (IsIn owner naptr) set one s.each c, same))

less_not_equal : (o : Ordering) → o ≡ Less → o ≡ Equal → ⊥
less_not_equal o h k = let e : Less ≡ Equal = sym h ∙ k in cc

pub free_lacks : (zone : Zone) (set : List Record) (owner : Labels) (rule : Naptr) (at : ℕ) → IsSet zone.records owner naptr set
    → IsPlace set rule (place.Free at) → HasRule zone owner rule → ⊥
free_lacks zone set owner rule at s (before, after, is, size, earlier, later) (one, c, (i, same)) =
    elim (Contains-append_cases before after one (subst (λ l. Contains l one) is (to_set zone.records set owner naptr one s c i))) [
      | inl front ↦ less_not_equal (slice_cmp nat_cmp (rdata_of one.content) (rdata rule))
          (AllByRecursion-contains (Earlier rule) before one earlier front)
          (subst (λ b. slice_cmp nat_cmp (rdata_of one.content) b ≡ Equal) same (tied_itself nat_list_cmp_total (rdata_of one.content)))
      | inr back ↦ less_not_equal (slice_cmp nat_cmp (rdata rule) (rdata_of one.content))
          (AllByRecursion-contains (Later rule) after one later back)
          (subst (λ b. slice_cmp nat_cmp b (rdata_of one.content) ≡ Equal) same (tied_itself nat_list_cmp_total (rdata_of one.content)))
    ]

-- room for a rule
pub room_there : (zone : Zone) (set : List Record) (owner : Labels) (rule : Naptr) → IsSet zone.records owner naptr set
    → weight set + (265 + length (rdata rule)) ≤ 60_000 → HasNoRoom zone owner rule → ⊥
room_there zone set owner rule s fits (other, t, full) =
    let same : weight other ≡ weight set = ap weight (one_set zone.records owner naptr other set t s) in
    omega (arith, fits, full, same)

-- cuts at or above a name
abbrev pub IsCutOff : Zone → Labels → Type 0
IsCutOff zone name = (cut : Labels) × IsCut zone cut × IsBelow name cut

pub apex_not_cut : (zone : Zone) (name : Labels) → IsValid zone → AreSame name zone.apex → IsCutOff zone name → ⊥
apex_not_cut zone name v same (cut, (one, c, i, other), below) =
    let inside : IsBelow cut zone.apex = below_same_name one.owner cut zone.apex i.0 (v.inside one c) in
    other (below_both cut zone.apex inside (below_same_name name zone.apex cut same below))

at_or_above : (name above top : Labels) → Some above ≡ parent_of name → IsBelow name top → AreSame name top ⊎ IsBelow above top
at_or_above [] above top is b = absurd (cc)
at_or_above (label ∷ name) above top is b =
    let e : above ≡ name = cc in
    elim (below_parts label name top b) [ inl same ↦ inl same | inr further ↦ inr (subst (λ n. IsBelow n top) (sym e) further) ]

under : (name above top : Labels) → Some above ≡ parent_of name → IsBelow above top → IsBelow name top
under [] above top is b = absurd (cc)
under (label ∷ name) above top is b = let e : above ≡ name = cc in below_more label name top (subst (λ n. IsBelow n top) e b)

pub cut_at : (zone : Zone) (name : Labels) → (AreSame name zone.apex → ⊥) → HasKind zone name ns → IsCutOff zone name
cut_at zone name other (one, c, i) = (name, (one, c, i, other), below_itself name)

pub cut_off_above : (zone : Zone) (name above : Labels) → Some above ≡ parent_of name → IsCutOff zone above → IsCutOff zone name
cut_off_above zone name above is (cut, h, below) = (cut, h, under name above cut is below)

pub cut_off_here : (zone : Zone) (name above : Labels) → Some above ≡ parent_of name → (HasKind zone name ns → ⊥) → IsCutOff zone name
    → IsCutOff zone above
cut_off_here zone name above is none (cut, h, below) = elim (at_or_above name above cut is below) [
  | inl same ↦ absurd (none (h.0, h.1, (h.2.0 ∙ sym same, h.2.1)))
  | inr further ↦ (cut, h, further)
]

-- a kind is at an owner where its set is not empty
pub has_kind : (zone : Zone) (set : List Record) (owner : Labels) (kind : ℕ) → IsSet zone.records owner kind set
    → (IsTrue (nat_lt 0 (length set)) ↔ HasKind zone owner kind)
has_kind zone set owner kind s = (λ t. set_has zone.records owner kind set s (some t), λ h. there h)
  where
    some : IsTrue (nat_lt 0 (length set)) → 0 < length set
    some t = grind (arith, nat_tests)

    there : HasKind zone owner kind → IsTrue (nat_lt 0 (length set))
    there (one, c, i) = elim (cases (length set)) [ inl t ↦ t | inr few ↦ absurd (set_none zone.records owner kind set s few one c i) ]
      where
        cases : (n : ℕ) → IsTrue (nat_lt 0 n) ⊎ (n ≤ 0)
        cases n = grind (arith, nat_tests)

abbrev pub MatchPlace : Place → Type 0 → Type 0 → Type 0
MatchPlace (place.Taken at) P Q = P
MatchPlace (place.Free at) P Q = Q

-- rules at an owner
pub has_rule_there : (zone : Zone) (set : List Record) (owner : Labels) (rule : Naptr) (p : Place) → IsSet zone.records owner naptr set
    → IsPlace set rule p → MatchPlace p (HasRule zone owner rule) (HasRule zone owner rule → ⊥)
has_rule_there zone set owner rule (place.Taken at) s is = taken_has zone set owner rule at s is
has_rule_there zone set owner rule (place.Free at) s is = free_lacks zone set owner rule at s is

-- any record at an owner
pub kind_record : (zone : Zone) (owner : Labels) (kind : ℕ) → HasKind zone owner kind → HasRecord zone owner
kind_record zone owner kind (one, c, i) = (one, c, i.0)

pub soa_record : (apex : Labels) (the_soa : Record) (others : List Record) (owner : Labels) → AreSame the_soa.owner owner
    → HasRecord (zone_of apex the_soa others) owner
soa_record apex the_soa others owner same = (the_soa, Contains-head the_soa others, same)

pub all_more : (P : ℕ → Type 0) (kinds : List ℕ) (i d : ℕ) → i < length kinds → AllByRecursion P (take i kinds) → P (get_or kinds i d)
    → AllByRecursion P (take (i + 1) kinds)
all_more P kinds i d within all here =
    subst (AllByRecursion P) (sym (take_more kinds i d within)) (AllByRecursion-append P (take i kinds) (get_or kinds i d ∷ []) all (here, tt))

abbrev pub other_kinds : List ℕ
other_kinds = 1 ∷ 2 ∷ 5 ∷ 12 ∷ 15 ∷ 16 ∷ 28 ∷ 33 ∷ 35 ∷ []

of_ten : (P : ℕ → Type 0) (c : Content) → IsTrue (is_whole c) → kind_of c ≢ soa → AllByRecursion P other_kinds → P (kind_of c)
of_ten P (content.A address) whole other all = all.0
of_ten P (content.Ns server) whole other all = all.1.0
of_ten P (content.Cname target) whole other all = all.1.1.0
of_ten P (content.Soa fields) whole other all = absurd (other refl)
of_ten P (content.Ptr name) whole other all = all.1.1.1.0
of_ten P (content.Mx preference exchange) whole other all = all.1.1.1.1.0
of_ten P (content.Txt texts) whole other all = all.1.1.1.1.1.0
of_ten P (content.Aaaa address) whole other all = all.1.1.1.1.1.1.0
of_ten P (content.Srv priority weight port target) whole other all = all.1.1.1.1.1.1.1.0
of_ten P (content.Naptr rule) whole other all = all.1.1.1.1.1.1.1.1.0
of_ten P (content.Opt options) whole other all = absurd (cc whole)
of_ten P (content.Raw bytes) whole other all = absurd (cc whole)

pub no_record : (apex : Labels) (the_soa : Record) (others : List Record) (owner : Labels) → IsValid (zone_of apex the_soa others)
    → (AreSame the_soa.owner owner → ⊥) → (i : ℕ) → length other_kinds ≤ i
    → AllByRecursion (λ kind. ¬ HasKind (zone_of apex the_soa others) owner kind) (take i other_kinds)
    → HasRecord (zone_of apex the_soa others) owner → ⊥
no_record apex the_soa others owner v apart i end none (one, c, same) = elim (head_or_after the_soa others one c) [
  | inl here ↦ apart (subst (λ (r : Record). AreSame r.owner owner) here same)
  | inr later ↦
      let kinds : one.kind ≡ kind_of one.content = kind_is one.content one.kind one.class one.belongs (v.plain one c).whole in
      let other : kind_of one.content ≢ soa = λ e. AllByRecursion-contains (λ (r : Record). r.kind ≢ soa) others one v.order.1 later (kinds ∙ e) in
      of_ten (λ kind. ¬ HasKind (zone_of apex the_soa others) owner kind) one.content (v.plain one c).whole other
      (subst (AllByRecursion (λ kind. ¬ HasKind (zone_of apex the_soa others) owner kind)) (take_all i other_kinds end) none)
      (one, c, (same, kinds))
]
