use Rattle.std.proofs.Common.{◌≡◌, ◌-◌, ◌^◌, length, min, take}
use Rattle.std.specs.List.{flat_map}
use Rattle.rdata_field.specs.Strings.{string_wire}
use Rattle.dns_wire.proofs.content.texts_len.Given as goal

abbrev pub invariant-loop-text : goal.invariant-loop-text
invariant-loop-text l = l.size ≡ min (length (flat_map string_wire (take l.text-index l.texts))) (2 ^ 64 - 1)
