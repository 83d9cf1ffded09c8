use Rattle.std.proofs.Common.{◌≡◌, ◌++◌, take, flat_map}
use Rattle.message_text.specs.Shown.{record_line}
use Rattle.message_text.proofs.message.push_records.Given as goal

abbrev pub invariant-loop-record : goal.invariant-loop-record
invariant-loop-record l = l.out ≡ l.initial.out ++ flat_map (record_line l.section) (take l.record-index l.records)
