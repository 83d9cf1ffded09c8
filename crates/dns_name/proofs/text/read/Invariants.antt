use Rattle.std.proofs.Common.{◌≡◌, ◌-◌, ◌≤◌, [], length, drop, Some}
use Rattle.dns_name.specs.Reading.{pieces, reading_from, while_fits}
use Rattle.dns_name.proofs.text.read.Given as goal

abbrev pub invariant-loop-at : goal.invariant-loop-at
invariant-loop-at l = record {
  same : reading_from (while_fits l.fits l.name) l.start l.label l.at (pieces (drop l.at l.text)) ≡ reading_from (Some []) 0 [] 0 (pieces l.text);
  within : l.at ≤ length l.text;
  most : length l.label ≤ 63;
}

abbrev pub decreases-loop-at : goal.decreases-loop-at
decreases-loop-at l = length l.text - l.at
