use Rattle.std.proofs.Common.{◌≡◌, ◌≤◌, ◌+◌, ◌*◌, ◌++◌, length, take, codes}
use Rattle.std.specs.List.{flat_map}
use Rattle.std.specs.Net.Text.{hex}
use Rattle.zone_text.proofs.written.aaaa_text.Given as goal

abbrev pub invariant-loop-group : goal.invariant-loop-group
invariant-loop-group l = record {
  bytes : l.text ≡ l.initial.text ++ flat_map (λ group. codes ":" ++ hex group) (take l.group-index l.group-items);
  room : length l.text ≤ length l.initial.text + 5 * l.group-index;
}
