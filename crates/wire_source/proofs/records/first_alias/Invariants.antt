use Rattle.std.proofs.Common.{take}
use Rattle.wire_source.specs.Readings.{HasNoAlias}
use Rattle.wire_source.proofs.records.first_alias.Given as goal

abbrev pub invariant-loop-one : goal.invariant-loop-one
invariant-loop-one l = HasNoAlias l.name (take l.one-index l.records)
