-- How many records zones hold, and zones that are added.
use Rattle.std.proofs.Common.{◌≡◌, inl, inr, ℕ, ◌+◌, ◌-◌, ◌<◌, ◌≤◌, List, [], ◌∷◌, ◌++◌, length, take, drop, get_or, sym, ap, ◌∙◌, arith, length-append}
use Rattle.std.specs.Prelude.{IsTrue, nat_lt}
use Rattle.std.proofs.lemmas.Bool.Decides.{nat_tests}
use Rattle.std.proofs.lemmas.List.{take_more, take-append-drop}
use Rattle.std.proofs.lemmas.List.Sums.{sum_by-append}
use Rattle.naptr_data.proofs.CutLemmas.{Contains-head, Contains-after}
use Rattle.dns_name.specs.Name.{AreSame}
use Rattle.dns_name.proofs.NameLemmas.{AllByRecursion-append}
use Rattle.zone_build.specs.Zone.{Zone, IsValid}
use Rattle.zone_db.specs.Sets.{HoldsApex, record_count, IsFull, AreApart, AreZones}

abbrev size : Zone → ℕ
size zone = length zone.records

pub count_more : (zones : List Zone) (i : ℕ) (zone : Zone) → i < length zones → zone ≡ get_or zones i zone
    → record_count (take (i + 1) zones) ≡ record_count (take i zones) + length zone.records
count_more zones i zone within is =
    ap record_count (take_more zones i zone within ∙ ap (λ y. take i zones ++ y ∷ []) (sym is))
    ∙ sum_by-append (λ (z : Zone). length z.records) (take i zones) (zone ∷ []) ∙ omega arith

pub count_front : (zones : List Zone) (i : ℕ) → record_count (take i zones) ≤ record_count zones
count_front zones i =
    let whole : record_count zones ≡ record_count (take i zones) + record_count (drop i zones) =
    ap record_count (sym (take-append-drop i zones))
    ∙ sum_by-append (λ (z : Zone). length z.records) (take i zones) (drop i zones) in
    omega arith

-- a zone with another apex after the others
apart_added : (zones : List Zone) (zone : Zone) → AreApart zones → ¬ HoldsApex zones zone.apex → AreApart (zones ++ zone ∷ [])
apart_added [] zone a not = (tt, tt)
apart_added (z ∷ zones) zone a not = (
  AllByRecursion-append (λ (other : Zone). ¬ AreSame other.apex z.apex) zones (zone ∷ []) a.0 ((λ same. not (z, Contains-head z zones, sym same)), tt),
  apart_added zones zone a.1 (λ (y, c, same). not (y, Contains-after z zones y c, same)),
)

pub not_full : (zones : List Zone) (zone : Zone) → ¬ IsFull zones zone → (length zones + 1 ≤ 64) × (record_count zones + length zone.records ≤ 400_000)
not_full zones zone not = (small (length zones) (λ h. not (inl h)), few (record_count zones + length zone.records) (λ h. not (inr h)))
  where
    small : (n : ℕ) → ¬ (64 ≤ n) → n + 1 ≤ 64
    small n h = grind arith

    few : (n : ℕ) → ¬ (400_000 < n) → n ≤ 400_000
    few n h = grind arith

-- a set with one more zone that fits
pub zones_added : (zones : List Zone) (zone : Zone) → AreZones zones → IsValid zone → ¬ HoldsApex zones zone.apex
    → ¬ IsFull zones zone → AreZones (zones ++ zone ∷ [])
zones_added zones zone are valid not fits =
    let room = not_full zones zone fits in
    let few = room.0 in
    let most = room.1 in
    record {
      each = AllByRecursion-append IsValid zones (zone ∷ []) are.each (valid, tt);
      apart = apart_added zones zone are.apart not;
      few = omega (arith, length-append zones (zone ∷ []), few);
      records = omega (arith, sum_by-append (λ (z : Zone). length z.records) zones (zone ∷ []), most);
    }

pub full_by_count : (zones : List Zone) (zone : Zone) (count : ℕ) → count ≡ record_count zones → count ≤ 400_000
    → 400_000 < count + length zone.records → IsFull zones zone
full_by_count zones zone count is few h = inr (omega (arith, is))

pub of_full : (zones : List Zone) (zone : Zone) (count : ℕ) → count ≡ record_count zones → length zones < 64
    → IsFull zones zone → 400_000 < count + length zone.records
of_full zones zone count is small (inl h) = absurd (omega arith)
of_full zones zone count is small (inr h) = omega (arith, is)

pub over_limit : (count size : ℕ) → count ≤ 400_000 → IsTrue (nat_lt (400_000 - count) size) → 400_000 < count + size
over_limit count size few t = grind (arith, nat_tests)

pub limit_over : (count size : ℕ) → count ≤ 400_000 → 400_000 < count + size → IsTrue (nat_lt (400_000 - count) size)
limit_over count size few h = grind (arith, nat_tests)

pub count_room : (zones : List Zone) (i : ℕ) (zone : Zone) (count size : ℕ) → AreZones zones → i < length zones
    → zone ≡ get_or zones i zone → count ≡ record_count (take i zones) → size ≡ length zone.records
    → count + size ≤ 400_000
count_room zones i zone count size are within is inv len =
    let most = are.records in
    omega (arith, count_more zones i zone within is, count_front zones (i + 1), inv, len, most)

pub count_next : (zones : List Zone) (i : ℕ) (zone : Zone) (count size : ℕ) → i < length zones
    → zone ≡ get_or zones i zone → count ≡ record_count (take i zones) → size ≡ length zone.records
    → count + size ≡ record_count (take (i + 1) zones)
count_next zones i zone count size within is inv len = omega (arith, count_more zones i zone within is, inv, len)
