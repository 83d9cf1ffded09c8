use Rattle.std.proofs.Common.{◌≡◌, take}
use Rattle.std.specs.List.{AllByRecursion}
use Rattle.std.specs.Cmp.Lexicographic.{slice_cmp}
use Rattle.std.specs.Ordering.{nat_cmp}
use Rattle.std.specs.declared.cmp.Ordering.TheVariants.{Less}
use Rattle.naptr_rule.specs.Rdata.{rdata}
use Rattle.dns_wire.specs.Rdata.{rdata_of}
use Rattle.dns_wire.specs.declared.record.Record.{Record}
use Rattle.registry.proofs.place.place_of.Given as goal

-- the records so far come before the rule
abbrev pub invariant-loop-at : goal.invariant-loop-at
invariant-loop-at l =
    AllByRecursion (λ (one : Record). slice_cmp nat_cmp (rdata_of one.content) (rdata l.rule) ≡ Less) (take l.at l.set)
