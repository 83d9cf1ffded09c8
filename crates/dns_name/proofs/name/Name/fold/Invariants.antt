use Rattle.std.proofs.Common.{◌≡◌, ◌++◌, map, take, drop}
use Rattle.enum_base.specs.Folding.{folded_byte}
use Rattle.dns_name.proofs.name.Name.fold.Given as goal

abbrev pub invariant-loop-byte : goal.invariant-loop-byte
invariant-loop-byte l =
    l.byte-items ≡ map folded_byte (take l.byte-index l.self-inside.row) ++ drop l.byte-index l.self-inside.row
