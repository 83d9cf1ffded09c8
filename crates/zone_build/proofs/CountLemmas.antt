-- How many rules and CNAMEs records hold.
use Rattle.std.proofs.Common.{◌≡◌, ℕ, ◌+◌, ◌<◌, List, [], ◌∷◌, ◌++◌, length, take, get_or, map, sym, ap, ◌∙◌, arith}
use Rattle.naptr_data.specs.Zones.{Owned, holds_one, rules_and_aliases_in}
use Rattle.dns_wire.specs.declared.record.Record.{Record}
use Rattle.zone_build.specs.Plain.{owned_of}
use Rattle.zone_build.proofs.ListLemmas.{next_of}

-- one item more counts for itself
counts_in : (items : List Owned) (o : Owned) → rules_and_aliases_in (items ++ o ∷ []) ≡ rules_and_aliases_in items + holds_one o.item
counts_in [] o = omega arith
counts_in (p ∷ items) o = omega (arith, counts_in items o)

-- one more record is counted
pub count_in_more : (records : List Record) (i : ℕ) (x : Record) (n : ℕ) → i < length records → x ≡ get_or records i x
    → n ≡ rules_and_aliases_in (map owned_of (take i records))
    → n + holds_one (owned_of x).item ≡ rules_and_aliases_in (map owned_of (take (i + 1) records))
count_in_more records i x n within is h =
    ap (λ m. m + holds_one (owned_of x).item) h ∙ sym (counts_in (map owned_of (take i records)) (owned_of x))
    ∙ ap rules_and_aliases_in (sym (next_of owned_of records i x within is))
