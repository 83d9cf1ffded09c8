use Rattle.std.proofs.Common.{◌≡◌, ◌≤◌, length}
use Rattle.zone_token.specs.Texts.{undone_from}
use Rattle.zone_token.proofs.TextLemmas.{bytes_before}
use Rattle.zone_token.proofs.texts.read_escaped.Given as goal

-- the bytes so far stand before those of the rest
abbrev pub invariant-loop-rest : goal.invariant-loop-rest
invariant-loop-rest l = record {
  same : bytes_before l.bytes (undone_from 0 l.rest) ≡ undone_from 0 l.text;
  most : length l.bytes ≤ 255;
}

abbrev pub decreases-loop-rest : goal.decreases-loop-rest
decreases-loop-rest l = length l.rest
