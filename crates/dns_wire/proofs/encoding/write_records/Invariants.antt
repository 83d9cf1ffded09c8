use Rattle.std.proofs.Common.{◌≡◌, ◌++◌, take}
use Rattle.std.specs.List.{AllByRecursion, flat_map}
use Rattle.dns_wire.specs.Ranges.{IsRecord}
use Rattle.dns_wire.specs.Encoding.{record_wire}
use Rattle.dns_wire.proofs.encoding.write_records.Given as goal

abbrev pub invariant-loop-one : goal.invariant-loop-one
invariant-loop-one l = (l.out ≡ l.initial.out ++ flat_map record_wire (take l.one-index l.records)) × AllByRecursion IsRecord (take l.one-index l.records)
