-- Existing names, closest enclosers, cuts and answers of a zone.
use Rattle.std.proofs.Common.{◌≡◌, ◌≢◌, ◌⊎◌, inl, inr, ℕ, ◌<◌, ◌≤◌, List, [], ◌∷◌, ◌++◌, length, map, get_or}
use Rattle.std.proofs.Common.{Option, Some, None, refl, sym, ap, subst, ◌∙◌, arith, length-append}
use Rattle.std.specs.Prelude.{Contains}
use Rattle.std.specs.List.{flat_map}
use Rattle.std.proofs.lemmas.List.Elements.{Contains-append_right, Contains-append_cases}
use Rattle.naptr_data.proofs.CutLemmas.{Contains-head, Contains-after, Contains-none, Contains-middle, head_or_after}
use Rattle.naptr_data.proofs.BelowLemmas.{below_itself, below_same_top, below_same_name, below_more}
use Rattle.naptr_data.proofs.DecideLemmas.{below_parts}
use Rattle.naptr_data.specs.Zones.{Labels, Owned, Exists, Encloses, IsSource, star}
use Rattle.dns_name.specs.Name.{AreSame, IsBelow, IsName, IsLabel, folded_labels, label_wire, wire_of, parent_of, name_within}
use Rattle.dns_name.proofs.NameLemmas.{wire_of-append, name_within-fits}
use Rattle.dns_wire.specs.Kinds.{ns, cname, soa}
use Rattle.dns_wire.specs.declared.record.Record.{Record}
use Rattle.zone_build.specs.Zone.{Zone, IsIn, IsSet, IsCanonical, IsValid}
use Rattle.zone_build.specs.Finding.{IsLeastKindAt}
use Rattle.zone_build.proofs.IndexNamesLemmas.{below_both}
use Rattle.zone_build.proofs.SomeSetLemmas.{length-wire}
use Rattle.zone_build.specs.Plain.{owned_of, plain_of}
use Rattle.zone_db.specs.LookUp.{IsHighestCut, HasKind, AsksFor, MeetsAlias, IsAnswered, every}
use Rattle.zone_db.specs.Seeking.{IsClosest, IsHighest, IsNsAt, IsLeastKind, IsUncut}
use Rattle.zone_build.proofs.ListLemmas.{AllByRecursion-contains}

-- records as they are told
pub owned_in : (records : List Record) (one : Record) → Contains records one → Contains (map owned_of records) (owned_of one)
owned_in [] one c = absurd (Contains-none one c)
owned_in (x ∷ records) one c = elim (head_or_after x records one c) [
  | inl here ↦ subst (λ (r : Record). Contains (owned_of x ∷ map owned_of records) (owned_of r)) (sym here) (Contains-head (owned_of x) (map owned_of records))
  | inr after ↦ Contains-after (owned_of x) (map owned_of records) (owned_of one) (owned_in records one after)
]

pub in_owned : (records : List Record) (o : Owned) → Contains (map owned_of records) o → (one : Record) × Contains records one × (o ≡ owned_of one)
in_owned [] o c = absurd (Contains-none o c)
in_owned (x ∷ records) o c = elim (head_or_after (owned_of x) (map owned_of records) o c) [
  | inl here ↦ (x, Contains-head x records, here)
  | inr after ↦ let f = in_owned records o after in (f.0, Contains-after x records f.0 f.1, f.2)
]

-- a record stands at or below a name
abbrev pub HasBelow : List Record → Labels → Type 0
HasBelow records name = (one : Record) × Contains records one × IsBelow one.owner name

pub exists_at : (zone : Zone) (name : Labels) → AreSame name zone.apex → Exists (plain_of zone) name
exists_at zone name same = inl same

pub exists_below : (zone : Zone) (name : Labels) → HasBelow zone.records name → Exists (plain_of zone) name
exists_below zone name (one, c, b) = inr (owned_of one, owned_in zone.records one c, b)

pub exists_cases : (zone : Zone) (name : Labels) → Exists (plain_of zone) name → AreSame name zone.apex ⊎ HasBelow zone.records name
exists_cases zone name (inl same) = inl same
exists_cases zone name (inr (o, c, b)) =
    let f = in_owned zone.records o c in
    inr (f.0, f.1, subst (λ (x : Owned). IsBelow x.owner name) f.2 b)

-- the name above one that does not exist is at or below the apex too
pub above_inside : (zone : Zone) (name above : Labels) → Some above ≡ parent_of name → ¬ Exists (plain_of zone) name
    → IsBelow name zone.apex → IsBelow above zone.apex
above_inside zone [] above is not b = absurd (cc)
above_inside zone (label ∷ name) above is not b =
    let e : above ≡ name = cc in
    elim (below_parts label name zone.apex b) [
      | inl same ↦ absurd (not (inl same))
      | inr inside ↦ subst (λ n. IsBelow n zone.apex) (sym e) inside
    ]

pub root_exists : (zone : Zone) (name : Labels) → None ≡ parent_of name → IsBelow name zone.apex → Exists (plain_of zone) name
root_exists zone [] is ([], back, parts, same) = inl (ap folded_labels parts ∙ same)
root_exists zone [] is (l ∷ front, back, parts, same) = absurd (cc)
root_exists zone (label ∷ name) is b = absurd (cc)

pub shorter_above : (name above : Labels) → Some above ≡ parent_of name → length above < length name
shorter_above [] above is = absurd (cc)
shorter_above (label ∷ name) above is = let e : above ≡ name = cc in omega (arith, ap length e)

pub closest_further : (zone : Zone) (name above closest : Labels) → Some above ≡ parent_of name
    → ¬ Exists (plain_of zone) name → IsBelow name zone.apex → IsClosest zone above closest
    → IsClosest zone name closest
closest_further zone [] above closest is not b c = absurd (cc)
closest_further zone (label ∷ name) above closest is not b (exists, which) =
    let e : above ≡ name = cc in
    let inside = above_inside zone (label ∷ name) above is not b in
    elim which [
      | inl same ↦
          let f : closest ≡ name = same ∙ e in (
            exists,
            inr (
              not,
              record {
                label = label;
                front = [];
                parts = ap (λ n. label ∷ n) (sym f);
                inside = subst (λ n. IsBelow n zone.apex) (sym same) inside;
                exists = exists;
                closest = λ x. not (subst (λ n. Exists (plain_of zone) (label ∷ n)) f x);
              },
            ),
          )
      | inr (none, en) ↦ (
        exists,
        inr (
          not,
          record {
            label = en.label;
            front = label ∷ en.front;
            parts = ap (λ n. label ∷ n) (sym e ∙ en.parts);
            inside = en.inside;
            exists = en.exists;
            closest = en.closest;
          },
        ),
      )
    ]

-- the wildcard before a closest encloser fits a name
pub wildcard_fits : (zone : Zone) (name encloser : Labels) → IsName name → Encloses (plain_of zone) name encloser
    → Some (star ∷ encloser) ≡ name_within (star ∷ encloser)
wildcard_fits zone name encloser h e =
    let label : IsLabel e.label =
    AllByRecursion-contains IsLabel name e.label h.each
    (subst (λ n. Contains n e.label) (sym e.parts) (Contains-middle e.front e.label encloser)) in
    let some = label.some in
    let short = h.short in
    let whole = ap (λ n. length (wire_of n)) e.parts ∙ ap length (sym (wire_of-append e.front (e.label ∷ encloser)))
    ∙ length-append (flat_map label_wire e.front) (wire_of (e.label ∷ encloser)) in
    name_within-fits (star ∷ encloser) (omega (arith, whole, length-wire e.label encloser, length-wire star encloser))

-- the name above one that is below the apex is at or below the apex
pub parent_inside : (apex name above : Labels) → Some above ≡ parent_of name → ¬ AreSame name apex → IsBelow name apex → IsBelow above apex
parent_inside apex [] above is not b = absurd (cc)
parent_inside apex (label ∷ name) above is not b =
    let e : above ≡ name = cc in
    elim (below_parts label name apex b) [ inl same ↦ absurd (not same) | inr inside ↦ subst (λ n. IsBelow n apex) (sym e) inside ]

pub root_is_apex : (apex name : Labels) → None ≡ parent_of name → IsBelow name apex → AreSame name apex
root_is_apex apex [] is ([], back, parts, same) = ap folded_labels parts ∙ same
root_is_apex apex [] is (l ∷ front, back, parts, same) = absurd (cc)
root_is_apex apex (label ∷ name) is b = absurd (cc)

-- the source of a name lies in the zone
pub source_inside : (zone : Zone) (name source : Labels) → IsBelow name zone.apex → IsSource (plain_of zone) name source → IsBelow source zone.apex
source_inside zone name source inside (inl own) = subst (λ n. IsBelow n zone.apex) (sym own.1) inside
source_inside zone name source inside (inr wild) = subst (λ n. IsBelow n zone.apex) (sym wild.1.2) (below_more star wild.1.0 zone.apex wild.1.1.inside)

-- cuts, from the apex down
pub cut_at_apex : (zone : Zone) (name : Labels) → IsValid zone → AreSame name zone.apex → IsHighest zone.records zone.apex name None
cut_at_apex zone name v same one c (kind, not, below) =
    not (below_both one.owner zone.apex (v.inside one c) (below_same_name name zone.apex one.owner same below))

at_or_above : (name above top : Labels) → Some above ≡ parent_of name → IsBelow name top → AreSame name top ⊎ IsBelow above top
at_or_above [] above top is b = absurd (cc)
at_or_above (label ∷ name) above top is b =
    let e : above ≡ name = cc in
    elim (below_parts label name top b) [ inl same ↦ inl same | inr further ↦ inr (subst (λ n. IsBelow n top) (sym e) further) ]

under : (name above top : Labels) → Some above ≡ parent_of name → IsBelow above top → IsBelow name top
under [] above top is b = absurd (cc)
under (label ∷ name) above top is b = let e : above ≡ name = cc in below_more label name top (subst (λ n. IsBelow n top) e b)

pub cut_above : (records : List Record) (apex name above : Labels) (cut : Record) → Some above ≡ parent_of name
    → IsHighest records apex above (Some cut) → IsHighest records apex name (Some cut)
cut_above records apex name above cut is h = (
  h.0,
  (h.1.0, h.1.1, under name above cut.owner is h.1.2),
  λ one c k. elim (at_or_above name above one.owner is k.2) [
    | inl same ↦ below_same_name name one.owner cut.owner same (under name above cut.owner is h.1.2)
    | inr further ↦ h.2 one c (k.0, k.1, further)
  ],
)

pub cut_here : (records : List Record) (apex name above : Labels) (here : Option Record) → Some above ≡ parent_of name
    → ¬ AreSame name apex → IsHighest records apex above None → IsNsAt records name here
    → IsHighest records apex name here
cut_here records apex name above None is not none lacking = λ one c k. elim (at_or_above name above one.owner is k.2) [
  | inl same ↦ lacking one c (sym same, k.0)
  | inr further ↦ none one c (k.0, k.1, further)
]
cut_here records apex name above (Some cut) is not none (c, i) = (
  c,
  (i.1, (λ same. not (sym i.0 ∙ same)), below_same_top name name cut.owner (sym i.0) (below_itself name)),
  λ one d k. elim (at_or_above name above one.owner is k.2) [
    | inl same ↦ below_same_name name one.owner cut.owner same (below_same_top name name cut.owner (sym i.0) (below_itself name))
    | inr further ↦ absurd (none one d (k.0, k.1, further))
  ],
)

pub ns_first : (records set : List Record) (name : Labels) (d : Record) → IsSet records name ns set → 0 < length set
    → Contains records (get_or set 0 d) × IsIn name ns (get_or set 0 d)
ns_first records [] name d s some = absurd (omega arith)
ns_first records (one ∷ rest) name d s some =
    (subst (λ l. Contains l one) (sym s.parts) (Contains-append_right s.before ((one ∷ rest) ++ s.after) one (Contains-head one (rest ++ s.after))), s.each.0)

-- a set has a record of its name and kind, or none is there
pub set_has : (records : List Record) (owner : Labels) (kind : ℕ) (set : List Record) → IsSet records owner kind set
    → 0 < length set → (one : Record) × Contains records one × IsIn owner kind one
set_has records owner kind [] s some = absurd (omega arith)
set_has records owner kind (x ∷ set) s some =
    (x, subst (λ l. Contains l x) (sym s.parts) (Contains-append_right s.before ((x ∷ set) ++ s.after) x (Contains-head x (set ++ s.after))), s.each.0)

pub set_none : (records : List Record) (owner : Labels) (kind : ℕ) (set : List Record) → IsSet records owner kind set
    → length set ≤ 0 → (one : Record) → Contains records one → ¬ IsIn owner kind one
set_none records owner kind (x ∷ set) s none one c i = absurd (omega arith)
set_none records owner kind [] s none one c i = elim (Contains-append_cases s.before s.after one (subst (λ l. Contains l one) s.parts c)) [
  | inl front ↦ AllByRecursion-contains (λ r. ¬ IsIn owner kind r) s.before one s.none_before front i
  | inr back ↦ AllByRecursion-contains (λ r. ¬ IsIn owner kind r) s.after one s.none_after back i
]

-- the first record of a valid zone is its SOA
pub soa_first : (records : List Record) (the_soa : Record) → IsCanonical records
    → the_soa ≡ get_or records 0 the_soa → Contains records the_soa × (the_soa.kind ≡ soa)
soa_first [] the_soa c is = absurd c
soa_first (x ∷ rest) the_soa c is =
    (subst (λ r. Contains (x ∷ rest) r) (sym is) (Contains-head x rest), ap (λ (r : Record). r.kind) is ∙ c.0)

-- the least kind that answers
pub least_of_all : (records : List Record) (source : Labels) (asked : ℕ) (least : Option ℕ) → asked ≡ every
    → IsLeastKindAt records source least → IsLeastKind records source asked least
least_of_all records source asked None all none = λ one c same answers. none one c same
least_of_all records source asked (Some kind) all h = ((h.0.0, h.0.1, h.0.2, h.0.3, inr all), λ one c same answers. h.1 one c same)

pub least_of_one : (records : List Record) (source : Labels) (asked : ℕ) (set : List Record) → asked ≢ every
    → IsSet records source asked set → 0 < length set → IsLeastKind records source asked (Some asked)
least_of_one records source asked set not s some =
    let f = set_has records source asked set s some in
    ((f.0, f.1, f.2.0, f.2.1, inl refl), λ one c same answers. elim answers [ inl is ↦ omega arith | inr all ↦ absurd (not all) ])

pub least_of_none : (records : List Record) (source : Labels) (asked : ℕ) (set : List Record) → asked ≢ every
    → IsSet records source asked set → length set ≤ 0 → IsLeastKind records source asked None
least_of_none records source asked set not s none one c same answers =
    elim answers [ inl is ↦ set_none records source asked set s none one c (same, sym is) | inr all ↦ not all ]

-- what the least kind means
pub is_answered : (zone : Zone) (source : Labels) (asked kind : ℕ) → IsLeastKind zone.records source asked (Some kind) → IsAnswered zone source asked kind
is_answered zone source asked kind (h, least) = record {
  here = (h.0, h.1, (h.2, h.3));
  answers = h.4;
  least = λ other (one, c, i) answers. let l = least one c i.0 (subst (AsksFor asked) (sym i.1) answers) in let e = i.1 in omega (arith, l, e);
}

pub is_unanswered : (zone : Zone) (source : Labels) (asked : ℕ) → IsLeastKind zone.records source asked None
    → (kind : ℕ) → HasKind zone source kind → ¬ AsksFor asked kind
is_unanswered zone source asked none kind (one, c, i) answers = none one c i.0 (subst (AsksFor asked) (sym i.1) answers)

-- an alias is met, or not
pub alias_met : (zone : Zone) (source : Labels) (asked : ℕ) (set : List Record) → IsSet zone.records source cname set
    → 0 < length set → ¬ AsksFor asked cname → MeetsAlias zone source asked
alias_met zone source asked set s some not = (set_has zone.records source cname set s some, not)

pub alias_lacking : (zone : Zone) (source : Labels) (asked : ℕ) (set : List Record)
    → IsSet zone.records source cname set → length set ≤ 0 → ¬ MeetsAlias zone source asked
alias_lacking zone source asked set s none ((one, c, i), not) = set_none zone.records source cname set s none one c i

-- a cut-off name
pub highest_is : (zone : Zone) (name : Labels) (cut : Record) → IsHighest zone.records zone.apex name (Some cut) → IsHighestCut zone name cut.owner
highest_is zone name cut (c, k, highest) = record {
  cut = (cut, c, (refl, k.0), k.1);
  above = k.2;
  highest = λ other (one, d, i, not) below.
      below_same_name one.owner other cut.owner i.0 (highest one d (i.1, (λ same. not (sym i.0 ∙ same)), below_same_top name other one.owner (sym i.0) below));
}

pub uncut_is : (zone : Zone) (name : Labels) → IsHighest zone.records zone.apex name None → IsUncut zone name
uncut_is zone name none owner (one, c, i, not) below = none one c (i.1, (λ same. not (sym i.0 ∙ same)), below_same_top name owner one.owner (sym i.0) below)
