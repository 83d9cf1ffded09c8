use Rattle.std.proofs.Common.{◌≡◌, ◌≤◌, ◌+◌, ◌*◌, ◌++◌, length, take}
use Rattle.std.specs.List.{flat_map}
use Rattle.dns_name.specs.Text.{byte_text}
use Rattle.dns_name.proofs.written.push_label.Given as goal

abbrev pub invariant-loop-byte : goal.invariant-loop-byte
invariant-loop-byte l = record {
  bytes : l.text ≡ l.initial.text ++ flat_map byte_text (take l.byte-index l.label);
  room : length l.text ≤ length l.initial.text + 4 * l.byte-index;
}
