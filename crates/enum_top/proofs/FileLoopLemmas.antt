-- Files that are read in turn.
use Rattle.std.proofs.Common.{◌≡◌, ℕ, suc, ◌+◌, ◌<◌, ◌≤◌, List, [], ◌∷◌, length, drop, get_or, Option, Result, Ok, Err, refl, sym, ap, subst, ◌∙◌, arith}
use Rattle.std.proofs.Math.Seq.{drop-cons}
use Rattle.std.proofs.lemmas.Grind.{common_steps}
use Rattle.enum_base.specs.Outside.{File}
use Rattle.zone_build.specs.Zone.{Zone}
use Rattle.enum_base.specs.Stages.Then.{goes, stops}
use Rattle.enum_top.specs.Running.{DoesOnShelf}
use Rattle.enum_top.specs.ZoneFiles.{NextZone, ZoneAt, ZonesFrom, ZonesOf}
use Rattle.enum_top.specs.declared.why.Why.{Why}
use Rattle.enum_top.specs.declared.cause.Cause.{Cause}

next_place : (places : List ℕ) (i : ℕ) → i < length places → drop i places ≡ get_or places i 0 ∷ drop (i + 1) places
next_place places i below = let one : i + 1 ≡ suc i = omega arith in drop-cons places i 0 below ∙ ap (λ n. get_or places i 0 ∷ drop n places) (sym one)

-- whatever the files from this place on come to after these zones, all of them come to it
pub record Leads (files : Option (List File)) (words : List (List ℕ)) (places left : List ℕ) (zones : List Zone) : Type 0 where
  pub all : (result : Result (List Zone) Cause) → ZonesFrom files words zones left result → ZonesFrom files words [] places result

pub none_read : (files : Option (List File)) (words : List (List ℕ)) (places : List ℕ) (zones : List Zone) → zones ≡ [] → Leads files words places places zones
none_read files words places zones is = record { all = λ result h. subst (λ (zs : List Zone). ZonesFrom files words zs places result) is h }

-- one file more
pub one_read : (files : Option (List File)) (words : List (List ℕ)) (places : List ℕ) (i : ℕ) (zones more : List Zone)
    → i < length places → Leads files words places (drop i places) zones
    → NextZone files words zones (get_or places i 0) (Ok more) → Leads files words places (drop (i + 1) places) more
one_read files words places i zones more below leads read = record {
  all = λ result h. leads.all result (subst (λ (l : List ℕ). ZonesFrom files words zones l result) (sym (next_place places i below)) (goes more read h));
}

-- the next file stops it
pub stopped_next : (files : Option (List File)) (words : List (List ℕ)) (places : List ℕ) (i : ℕ) (zones : List Zone)
    (cause : Cause) → i < length places → Leads files words places (drop i places) zones
    → NextZone files words zones (get_or places i 0) (Err cause) → ZonesFrom files words [] places (Err cause)
stopped_next files words places i zones cause below leads stopped =
    leads.all (Err cause) (subst (λ (l : List ℕ). ZonesFrom files words zones l (Err cause)) (sym (next_place places i below)) (stops cause stopped refl))

-- all were read
pub all_read : (files : Option (List File)) (words : List (List ℕ)) (places : List ℕ) (i : ℕ) (zones : List Zone)
    → length places ≤ i → Leads files words places (drop i places) zones → ZonesFrom files words [] places (Ok zones)
all_read files words places i zones end leads =
    leads.all (Ok zones) (subst (λ (l : List ℕ). ZonesFrom files words zones l (Ok zones)) (sym (drop-all places i end)) refl)
  where
    drop-all : (xs : List ℕ) (k : ℕ) → length xs ≤ k → drop k xs ≡ []
    drop-all xs k le = grind (arith, common_steps)

-- a shelf that was read tells the same files
pub same_shelf : (now files : Option (List File)) (words : List (List ℕ)) (place : ℕ) (result : Result Zone Cause)
    → now ≡ files → ZoneAt now words place result → ZoneAt files words place result
same_shelf now files words place result same h =
    subst (λ (fs : Option (List File)). ZoneAt fs words place result) same h

-- the places that are named
pub named_zones : (files : Option (List File)) (words : List (List ℕ)) (places named : List ℕ) (result : Result (List Zone) Why)
    → places ≡ named → DoesOnShelf (ZonesOf files words places) result → DoesOnShelf (ZonesOf files words named) result
named_zones files words places named result same d =
    subst (λ (ps : List ℕ). DoesOnShelf (ZonesOf files words ps) result) same d
