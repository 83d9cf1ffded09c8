use Rattle.std.proofs.Common.{◌≡◌, ◌≤◌, ◌+◌, ◌*◌, ◌++◌, length}
use Rattle.std.specs.List.{flat_map}
use Rattle.dns_name.specs.Name.{labels_of, IsWire}
use Rattle.dns_name.specs.Text.{label_text, text_of}
use Rattle.dns_name.proofs.name.Name.text.Given as goal

abbrev pub invariant-loop-rest : goal.invariant-loop-rest
invariant-loop-rest l = record {
  wire : IsWire l.rest;
  bytes : l.text ++ flat_map label_text (labels_of l.rest) ≡ text_of l.self;
  room : length l.text + 4 * length l.rest ≤ 1024;
}

abbrev pub decreases-loop-rest : goal.decreases-loop-rest
decreases-loop-rest l = length l.rest
