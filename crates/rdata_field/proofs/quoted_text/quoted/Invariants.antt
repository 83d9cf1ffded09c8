use Rattle.std.proofs.Common.{◌≡◌, ◌≤◌, ◌+◌, ◌*◌, ◌∷◌, length, take}
use Rattle.std.specs.List.{flat_map}
use Rattle.rdata_field.specs.Strings.{quoted_byte}
use Rattle.rdata_field.proofs.quoted_text.quoted.Given as goal

abbrev pub invariant-loop-byte : goal.invariant-loop-byte
invariant-loop-byte l = record {
  bytes : l.text ≡ 34 ∷ flat_map quoted_byte (take l.byte-index l.byte-items);
  room : length l.text ≤ 1 + 4 * l.byte-index;
}
