use Rattle.std.proofs.Common.{◌≡◌, ◌+◌, length, take}
use Rattle.std.specs.List.{flat_map}
use Rattle.dns_wire.specs.Encoding.{record_wire}
use Rattle.responder.proofs.size.after_records.Given as goal

abbrev pub invariant-loop-one : goal.invariant-loop-one
invariant-loop-one l = l.left + length (flat_map record_wire (take l.one-index l.records)) ≡ l.fn.room
