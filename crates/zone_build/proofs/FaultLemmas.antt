-- What each stage of building says of the given records.
use Rattle.std.proofs.Common.{◌≡◌, ℕ, ◌+◌, ◌<◌, ◌≤◌, List, [], ◌∷◌, ◌++◌, length, take, drop, get_or, Option, Some, None, sym, ap, subst, ◌∙◌, arith}
use Rattle.std.specs.Prelude.{Contains}
use Rattle.naptr_data.specs.Zones.{Labels}
use Rattle.dns_name.specs.Name.{IsBelow, folded_labels}
use Rattle.dns_wire.specs.declared.record.Record.{Record}
use Rattle.zone_build.specs.Zone.{Zone, IsCanonical, IsPlain, IsRising, IsValid}
use Rattle.zone_build.specs.Built.{IsBuilt}
use Rattle.zone_build.specs.Faults.{IsFirst, IsWildcardCut, IsLarge, AreInside, AreUnmixed, IsZoneFault}
use Rattle.zone_build.specs.Building.{Given, AreGivens, IsFirstMixed, IsFirstLarge, IsFirstCut, IsApex, IsEntryApex, IsSoaFault, IsPlan, IsLastFault}
use Rattle.zone_build.specs.declared.keep.Keep.{Keep}
use Rattle.zone_build.specs.declared.fault.ZoneFault.{ZoneFault}
use Rattle.zone_build.specs.declared.fault.ZoneFault.TheVariants as fault
use Rattle.zone_build.proofs.BuildLemmas.{no_soa, has_soa, one_soa_of, soa_repeats, apex_of, inside_of, outside_first, unmixed_of, mixed_first, valid_of}
use Rattle.zone_build.proofs.LargeLemmas.{first_at_soa, first_after, none_at_all}

pub soa_fault : (given : List Record) (entries : List Given) (f : ZoneFault) → AreGivens given entries → IsSoaFault entries f → IsZoneFault given f
soa_fault given entries fault.NoSoa are none = no_soa given entries are none
soa_fault given entries fault.TwoSoa are (the_soa, c, k, not) =
    (has_soa given entries the_soa are c k, λ one. not (soa_repeats given entries the_soa are c k one))
soa_fault given entries (fault.OutOfZone place) are h = absurd h
soa_fault given entries (fault.AliasClash name) are h = absurd h
soa_fault given entries (fault.SetTooLarge name kind) are h = absurd h
soa_fault given entries (fault.WildcardCut name) are h = absurd h
soa_fault given entries fault.Memory are h = absurd h

is_apex : (given : List Record) (entries : List Given) (apex : Labels) → AreGivens given entries → IsEntryApex entries apex → IsApex given apex
is_apex given entries apex are (the_soa, c, k, is, all) = apex_of given entries the_soa apex are c k is (one_soa_of given entries the_soa are all)

pub outside_fault : (given : List Record) (entries : List Given) (apex : Labels) (place : ℕ) → AreGivens given entries
    → IsEntryApex entries apex → (one : Record) × IsFirst (λ r. ¬ IsBelow r.owner apex) given place one
    → IsZoneFault given (fault.OutOfZone place)
outside_fault given entries apex place are e (one, f) =
    let has = has_soa given entries e.0 are e.1 e.2 in
    (has, one_soa_of given entries e.0 are e.4, (one, outside_first given apex place one has (is_apex given entries apex are e) f))

pub all_inside : (given : List Record) (entries : List Given) (apex : Labels) → AreGivens given entries
    → IsEntryApex entries apex → ((one : Record) → Contains given one → IsBelow one.owner apex) → AreInside given
all_inside given entries apex are e below = record {
  some = has_soa given entries e.0 are e.1 e.2;
  one = one_soa_of given entries e.0 are e.4;
  inside = λ one c. inside_of given apex (is_apex given entries apex are e) one (below one c);
}

pub mixed_fault : (given : List Record) (entries : List Given) (apex : Labels) (place : ℕ) (x : Record) (name : Labels)
    → AreGivens given entries → IsEntryApex entries apex
    → ((one : Record) → Contains given one → IsBelow one.owner apex) → IsFirstMixed entries (Some place)
    → place < length given → x ≡ get_or given place x → name ≡ folded_labels x.owner
    → IsZoneFault given (fault.AliasClash name)
mixed_fault given entries apex place x name are e below mixed within is named =
    (all_inside given entries apex are e below, (place, x, named, mixed_first given entries place x are mixed within is))

pub unmixed_apex : (given : List Record) (entries : List Given) (apex : Labels) → AreGivens given entries
    → IsEntryApex entries apex → ((one : Record) → Contains given one → IsBelow one.owner apex)
    → IsFirstMixed entries None → AreUnmixed given × IsApex given apex
unmixed_apex given entries apex are e below none =
    (record { inside = all_inside given entries apex are e below; unmixed = unmixed_of given entries are none }, is_apex given entries apex are e)

-- the first large set of canonical records, by that of the SOA and that of the others
pub large_at_soa : (kept the_soa : List Record) (place : ℕ) → IsCanonical kept → the_soa ≡ take 1 kept
    → IsFirstLarge the_soa (Some place) → IsFirstLarge kept (Some 0)
large_at_soa [] the_soa place c is f = absurd c
large_at_soa (a ∷ others) the_soa place c is f = first_at_soa a others place c (subst (λ l. IsFirstLarge l (Some place)) is f)

pub large_after_soa : (kept the_soa others : List Record) (place : ℕ) → IsCanonical kept → the_soa ≡ take 1 kept
    → others ≡ drop 1 kept → IsFirstLarge the_soa None → IsFirstLarge others (Some place)
    → IsFirstLarge kept (Some (place + 1))
large_after_soa [] the_soa others place c is is' none f = absurd c
large_after_soa (a ∷ rest) the_soa others place c is is' none f =
    first_after a rest place c (subst (λ l. IsFirstLarge l None) is none) (subst (λ l. IsFirstLarge l (Some place)) is' f)

pub large_nowhere : (kept the_soa others : List Record) → IsCanonical kept → the_soa ≡ take 1 kept → others ≡ drop 1 kept
    → IsFirstLarge the_soa None → IsFirstLarge others None → IsFirstLarge kept None
large_nowhere [] the_soa others c is is' none f = absurd c
large_nowhere (a ∷ rest) the_soa others c is is' none f =
    none_at_all a rest c (subst (λ l. IsFirstLarge l None) is none) (subst (λ l. IsFirstLarge l None) is' f)

pub canonical_rising : (kept the_soa : List Record) → IsCanonical kept → the_soa ≡ take 1 kept → IsRising the_soa
canonical_rising [] the_soa c is = absurd c
canonical_rising (a ∷ others) the_soa c is = subst IsRising (sym is) (tt, tt)

pub canonical_others : (kept others : List Record) → IsCanonical kept → others ≡ drop 1 kept → IsRising others
canonical_others [] others c is = absurd c
canonical_others (a ∷ rest) others c is = subst IsRising (sym is) c.2

pub canonical_some : (kept : List Record) → IsCanonical kept → 1 ≤ length kept
canonical_some [] c = absurd c
canonical_some (a ∷ others) c = omega arith

at_middle : (before : List Record) (one : Record) (after : List Record) (x : Record) → x ≡ get_or (before ++ one ∷ after) (length before) x → x ≡ one
at_middle [] one after x is = is
at_middle (b ∷ before) one after x is = at_middle before one after x is

-- the first is the one that stands at its place
pub first_at : (P : Record → Type 0) (xs : List Record) (place : ℕ) (one x : Record) → IsFirst P xs place one → x ≡ get_or xs place x → x ≡ one
first_at P xs place one x f is =
    at_middle f.before one f.after x (subst (λ n. x ≡ get_or (f.before ++ one ∷ f.after) n x) (sym f.at) (subst (λ l. x ≡ get_or l place x) f.parts is))

pub large_last : (kept : List Record) (cut : Option Labels) (place : ℕ) (x : Record) → IsFirstLarge kept (Some place)
    → x ≡ get_or kept place x → IsLastFault kept cut (fault.SetTooLarge x.owner x.kind)
large_last kept cut place x (one, f) is =
    let same = first_at (IsLarge kept) kept place one x f is in
    (place, one, ap (λ (r : Record). r.owner) same, ap (λ (r : Record). r.kind) same, f)

pub cut_at : (given : List Record) (place : ℕ) (x : Record) (name : Labels)
    → (one : Record) × IsFirst IsWildcardCut given place one → x ≡ get_or given place x → name ≡ folded_labels x.owner
    → IsFirstCut given (Some name)
cut_at given place x name (one, f) is named =
    (place, one, named ∙ ap (λ (r : Record). folded_labels r.owner) (first_at IsWildcardCut given place one x f is), f)

-- what is wrong with the records that are kept is what is wrong with the given ones
pub last_is_fault : (given : List Record) (zone : Zone) (keeps : List Keep) (cut : Option Labels) (f : ZoneFault)
    → IsPlan given zone.apex keeps cut → IsBuilt given zone → IsLastFault zone.records cut f → IsZoneFault given f
last_is_fault given zone keeps cut fault.NoSoa p built l = absurd l
last_is_fault given zone keeps cut fault.TwoSoa p built l = absurd l
last_is_fault given zone keeps cut (fault.OutOfZone place) p built l = absurd l
last_is_fault given zone keeps cut (fault.AliasClash name) p built l = absurd l
last_is_fault given zone keeps cut (fault.SetTooLarge name kind) p built (place, one, named, of_kind, f) =
    (p.unmixed, (zone, place, one, built, named, of_kind, f))
last_is_fault given zone keeps cut (fault.WildcardCut name) p built (small, is) =
    (p.unmixed, (zone, built, small), there (subst (IsFirstCut given) is p.first_cut))
  where
    there : IsFirstCut given (Some name) → (place : ℕ) × (one : Record) × (name ≡ folded_labels one.owner) × IsFirst IsWildcardCut given place one
    there cut_is = cut_is
last_is_fault given zone keeps cut fault.Memory p built l = absurd l

-- where nothing is wrong with them, they make a valid zone
pub plan_valid : (given : List Record) (zone : Zone) (keeps : List Keep) (cut : Option Labels)
    → ((one : Record) → Contains given one → IsPlain one) → IsPlan given zone.apex keeps cut → IsBuilt given zone
    → IsFirstLarge zone.records None × (cut ≡ None) → IsValid zone
plan_valid given zone keeps cut plain p built (small, is) =
    valid_of given zone plain p.unmixed built small (subst (IsFirstCut given) is p.first_cut)
