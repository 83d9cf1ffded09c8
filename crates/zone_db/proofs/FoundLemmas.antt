-- What is found in a zone, and in zones.
use Rattle.std.proofs.Common.{◌≡◌, ◌⊎◌, inl, inr, ℕ, zero, suc, ◌<◌, ◌≤◌, List, [], ◌∷◌, ◌++◌, length, take, get_or}
use Rattle.std.proofs.Common.{Option, Some, None, refl, sym, ap, subst, ◌∙◌, arith, length-append}
use Rattle.std.specs.Prelude.{Contains}
use Rattle.dns_name.specs.Name.{AreSame, IsBelow, folded_labels}
use Rattle.naptr_data.specs.Zones.{Labels, Exists, Encloses, IsSource, star}
use Rattle.naptr_data.proofs.CutLemmas.{Contains-head, Contains-none, head_or_after}
use Rattle.naptr_data.proofs.BelowLemmas.{below_longer, length_same}
use Rattle.std.proofs.lemmas.List.Elements.{Contains-append_left, Contains-append_right, Contains-append_cases}
use Rattle.zone_build.specs.Zone.{Zone}
use Rattle.zone_build.specs.Plain.{plain_of}
use Rattle.zone_db.specs.Sets.{AreApart}
use Rattle.zone_db.specs.LookUp.{Decides, IsDeciding, IsFound}
use Rattle.zone_db.specs.Seeking.{IsClosest, IsUncut, IsAnswer, IsFoundIn}
use Rattle.zone_db.specs.declared.found.Found.{Found}
use Rattle.zone_db.specs.declared.found.Found.TheVariants as found
use Rattle.zone_build.proofs.ListLemmas.{AllByRecursion-contains, only_one}

-- what is answered at a source is what is found
pub answered_found : (zone : Zone) (name source : Labels) (asked : ℕ) (f : Found) → IsUncut zone name
    → IsSource (plain_of zone) name source → Exists (plain_of zone) source → IsAnswer zone source asked f
    → IsFoundIn zone name asked f
answered_found zone name source asked found.Outside u s e a = absurd a
answered_found zone name source asked (found.Cut set) u s e a = absurd a
answered_found zone name source asked (found.NoName the_soa) u s e a = absurd a
answered_found zone name source asked (found.Alias set) u s e a = (source, u, s, a)
answered_found zone name source asked (found.Set set) u s e a = (source, u, s, a)
answered_found zone name source asked (found.NoSet the_soa) u s e a = (source, u, s, e, a)

pub own_source : (zone : Zone) (name : Labels) → Exists (plain_of zone) name → IsSource (plain_of zone) name name
own_source zone name e = inl (e, refl)

pub encloser_of : (zone : Zone) (name encloser : Labels) → ¬ Exists (plain_of zone) name → IsClosest zone name encloser → Encloses (plain_of zone) name encloser
encloser_of zone name encloser not (e, inl same) = absurd (not (subst (Exists (plain_of zone)) same e))
encloser_of zone name encloser not (e, inr (none, en)) = en

pub wildcard_source : (zone : Zone) (name encloser source : Labels) → ¬ Exists (plain_of zone) name
    → IsClosest zone name encloser → source ≡ star ∷ encloser → IsSource (plain_of zone) name source
wildcard_source zone name encloser source not c is = inr (not, (encloser, encloser_of zone name encloser not c, is))

-- what is found in the zone that decides is what is found in the zones
pub found_of : (zones : List Zone) (zone : Zone) (name : Labels) (asked : ℕ) (f : Found) → Decides zones name zone
    → IsFoundIn zone name asked f → IsFound zones name asked f
found_of zones zone name asked found.Outside d h = absurd h
found_of zones zone name asked (found.Cut set) d (owner, highest, s) = (zone, owner, d, highest, s)
found_of zones zone name asked (found.NoName the_soa) d (source, u, s, not, is) =
    (zone, source, record { decides = d; uncut = u; stands_for = s }, not, is)
found_of zones zone name asked (found.Alias set) d (source, u, s, a) =
    (zone, source, record { decides = d; uncut = u; stands_for = s }, a.0, a.1)
found_of zones zone name asked (found.Set set) d (source, u, s, (kind, not, answered, is)) =
    (zone, source, kind, record { decides = d; uncut = u; stands_for = s }, not, answered, is)
found_of zones zone name asked (found.NoSet the_soa) d (source, u, s, e, (not, none, is)) =
    (zone, source, record { decides = d; uncut = u; stands_for = s }, e, not, none, is)

-- the deciding zone, one zone after another
among_zones : (zones : List Zone) (more zone : Zone) → Contains (zones ++ more ∷ []) zone → Contains zones zone ⊎ (zone ≡ more)
among_zones zones more zone c = elim (Contains-append_cases zones (more ∷ []) zone c) [ inl old ↦ inl old | inr new ↦ inr (only_one more zone new) ]

pub deciding_none : (name : Labels) → IsDeciding [] name None
deciding_none name zone c b = Contains-none zone c

pub deciding_passed : (zones : List Zone) (name : Labels) (best : Option Zone) (more : Zone) → ¬ IsBelow name more.apex
    → IsDeciding zones name best → IsDeciding (zones ++ more ∷ []) name best
deciding_passed zones name None more not none = λ z c b. elim (among_zones zones more z c) [
  | inl old ↦ none z old b
  | inr new ↦ not (subst (λ (y : Zone). IsBelow name y.apex) new b)
]
deciding_passed zones name (Some zone) more not d = record {
  among = Contains-append_left zones (more ∷ []) zone d.among;
  above = d.above;
  longest = λ z c b. elim (among_zones zones more z c) [
    | inl old ↦ d.longest z old b
    | inr new ↦ absurd (not (subst (λ (y : Zone). IsBelow name y.apex) new b))
  ];
}

pub deciding_first : (zones : List Zone) (name : Labels) (more : Zone) → IsBelow name more.apex
    → IsDeciding zones name None → IsDeciding (zones ++ more ∷ []) name (Some more)
deciding_first zones name more b none = record {
  among = Contains-append_right zones (more ∷ []) more (Contains-head more []);
  above = b;
  longest = λ z c h. elim (among_zones zones more z c) [ inl old ↦ absurd (none z old h) | inr new ↦ inl new ];
}

-- a name above another one is shorter
pub shorter : (one other : Labels) → ¬ AreSame one other → IsBelow one other → length other < length one
shorter one other not ([], back, parts, same) = absurd (not (ap folded_labels parts ∙ same))
shorter one other not (label ∷ front, back, parts, same) =
    omega (arith, ap length parts, length-append front back, length_same back other same)

pub longer_or_not : (n m : ℕ) → (n < m) ⊎ (m ≤ n)
longer_or_not n m = grind arith

-- one that is above the best so far is shorter, for they have not the same apex
pub deciding_kept : (zones : List Zone) (name : Labels) (zone more : Zone) → ¬ AreSame zone.apex more.apex
    → IsBelow zone.apex more.apex → IsDeciding zones name (Some zone) → IsDeciding (zones ++ more ∷ []) name (Some zone)
deciding_kept zones name zone more apart below d = record {
  among = Contains-append_left zones (more ∷ []) zone d.among;
  above = d.above;
  longest = λ z c b. elim (among_zones zones more z c) [
    | inl old ↦ d.longest z old b
    | inr new ↦ inr (subst (λ (y : Zone). length y.apex < length zone.apex) (sym new) (shorter zone.apex more.apex apart below))
  ];
}

pub deciding_longer : (zones : List Zone) (name : Labels) (zone more : Zone) → IsBelow name more.apex
    → ¬ IsBelow zone.apex more.apex → IsDeciding zones name (Some zone)
    → IsDeciding (zones ++ more ∷ []) name (Some more)
deciding_longer zones name zone more b not d = record {
  among = Contains-append_right zones (more ∷ []) more (Contains-head more []);
  above = b;
  longest = λ z c h. elim (among_zones zones more z c) [
    | inl old ↦ inr (after z old h)
    | inr new ↦ inl new
  ];
}
  where
    longer : length zone.apex < length more.apex
    longer = elim (longer_or_not (length zone.apex) (length more.apex)) [
      | inl less ↦ less
      | inr more' ↦ absurd (not (below_longer name zone.apex more.apex d.above b more'))
    ]

    after : (z : Zone) → Contains zones z → IsBelow name z.apex → length z.apex < length more.apex
    after z c h = let far = longer in elim (d.longest z c h) [
      | inl same ↦ subst (λ (y : Zone). length y.apex < length more.apex) (sym same) far
      | inr less ↦ omega (arith, less, far)
    ]

-- no two zones of a set have the same apex
pub apart_pair : (zones : List Zone) (at : ℕ) (zone more : Zone) → AreApart zones → at < length zones
    → more ≡ get_or zones at more → Contains (take at zones) zone → ¬ AreSame zone.apex more.apex
apart_pair [] at zone more apart within is c same = absurd (omega arith)
apart_pair (z ∷ zones) zero zone more apart within is c same = Contains-none zone c
apart_pair (z ∷ zones) (suc at) zone more apart within is c same = elim (head_or_after z (take at zones) zone c) [
  | inl here ↦
      AllByRecursion-contains (λ (other : Zone). ¬ AreSame other.apex z.apex) zones more apart.0
      (at, omega arith, sym is) (sym same ∙ ap (λ (y : Zone). folded_labels y.apex) here)
  | inr after ↦ apart_pair zones at zone more apart.1 (omega arith) is after same
]
