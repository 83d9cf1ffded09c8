-- How many rules and CNAMEs zones hold.
use Rattle.std.proofs.Common.{◌≡◌, ℕ, ◌+◌, ◌≤◌, List, [], ◌∷◌, ◌++◌, length, map, sym, ap, ◌∙◌, arith}
use Rattle.std.proofs.lemmas.List.{map-append}
use Rattle.std.proofs.lemmas.List.Sums.{sum_by-append}
use Rattle.naptr_data.specs.Zones.{Item, rule, alias, delegation, other, holds_one, rules_and_aliases, rules_and_aliases_in}
use Rattle.naptr_data.specs.Zones as plain
use Rattle.dns_wire.specs.declared.record.Record.{Record}
use Rattle.zone_build.specs.Zone.{Zone}
use Rattle.zone_build.specs.Plain.{item_of, owned_of, plain_of, told}
use Rattle.zone_db.specs.Sets.{record_count, AreZones, IsFull}
use Rattle.zone_db.proofs.SetLemmas.{not_full}

counts : (zones : List plain.Zone) (z : plain.Zone) → rules_and_aliases (zones ++ z ∷ []) ≡ rules_and_aliases zones + rules_and_aliases_in z.items
counts [] z = omega arith
counts (y ∷ zones) z = omega (arith, counts zones z)

-- one more zone is counted
pub counts_with : (zones : List Zone) (zone : Zone) (count n : ℕ) → count ≡ rules_and_aliases (told zones)
    → n ≡ rules_and_aliases_in (plain_of zone).items → count + n ≡ rules_and_aliases (told (zones ++ zone ∷ []))
counts_with zones zone count n is more =
    ap (λ m. m + n) is ∙ ap (λ m. rules_and_aliases (told zones) + m) more ∙ sym (counts (told zones) (plain_of zone))
    ∙ ap rules_and_aliases (sym (map-append plain_of zones (zone ∷ [])))

-- and they are no more than the records
one_at_most : (item : Item) → holds_one item ≤ 1
one_at_most (rule r) = omega arith
one_at_most (alias target) = omega arith
one_at_most delegation = omega arith
one_at_most other = omega arith

few_in : (records : List Record) → rules_and_aliases_in (map owned_of records) ≤ length records
few_in [] = omega arith
few_in (one ∷ records) = let least = one_at_most (item_of one.content) in let rest = few_in records in omega (arith, least, rest)

few_in_zones : (zones : List Zone) → rules_and_aliases (told zones) ≤ record_count zones
few_in_zones [] = omega arith
few_in_zones (zone ∷ zones) =
    let whole : record_count (zone ∷ zones) ≡ record_count (zone ∷ []) + record_count zones =
    sum_by-append (λ (z : Zone). length z.records) (zone ∷ []) zones in
    let first : record_count (zone ∷ []) ≡ length zone.records = omega arith in
    let few = few_in zone.records in
    let rest = few_in_zones zones in
    omega (arith, few, rest, whole, first)

pub few_in_set : (zones : List Zone) (count : ℕ) → AreZones zones → count ≡ rules_and_aliases (told zones) → count ≤ 400_000
few_in_set zones count are is = let few = few_in_zones zones in let most = are.records in omega (arith, is, few, most)

pub few_with : (zones : List Zone) (zone : Zone) (count n : ℕ) → ¬ IsFull zones zone → count ≡ rules_and_aliases (told zones)
    → n ≤ length zone.records → count + n ≤ 400_000
few_with zones zone count n fits is few =
    let front = few_in_zones zones in let room = (not_full zones zone fits).1 in omega (arith, is, front, few, room)
