-- Rules of a reply while they are sorted, for private functions alone (this project's own).
use Rattle.std.specs.Prelude.{◌≢◌, ◌↔◌, ◌≤◌, List, [], ◌∷◌, length, Contains}
use Rattle.std.specs.List.{AllByRecursion}
use Rattle.std.specs.declared.cmp.Ordering.TheVariants.{Greater}
use Rattle.naptr_rule.specs.Rank.{rank_of}
use Rattle.naptr_rule.specs.declared.rule.Naptr.{Naptr}
use Rattle.naptr_data.specs.Zones.{Labels, IsRising}
use Rattle.dns_wire.specs.declared.record.Record.{Record}
use Rattle.wire_source.specs.Readings.{IsRuleAt}

-- the rules at a name among records, in any order and number
pub record AreGiven (name : Labels) (records : List Record) (rules : List Naptr) : Type 0 where
  pub each : (rule : Naptr) → Contains rules rule ↔ ((one : Record) × Contains records one × IsRuleAt name one rule)
  pub few : length rules ≤ length records

-- no rule comes after one that it precedes
abbrev pub IsInOrder : List Naptr → Type 0
IsInOrder [] = Unit {0}
IsInOrder (one ∷ rest) = AllByRecursion (λ next. rank_of one next ≢ Greater) rest × IsInOrder rest

-- each of the rules once, in their order
pub record AreOnce (rules once : List Naptr) : Type 0 where
  pub each : (rule : Naptr) → Contains once rule ↔ Contains rules rule
  pub rising : IsRising once
  pub few : length once ≤ length rules
