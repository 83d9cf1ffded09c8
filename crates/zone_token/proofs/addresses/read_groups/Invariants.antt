use Rattle.std.proofs.Common.{◌≡◌, ◌+◌, ◌*◌, ◌≤◌, length}
use Rattle.zone_token.specs.Addresses.{groups_of}
use Rattle.zone_token.proofs.TextLemmas.{bytes_before}
use Rattle.zone_token.proofs.addresses.read_groups.Given as goal

-- the bytes so far stand before those of the groups that are left
abbrev pub invariant-loop-more : goal.invariant-loop-more
invariant-loop-more l = record {
  same : bytes_before l.bytes (groups_of l.more l.quad l.rest) ≡ groups_of 8 l.quad l.text;
  most : length l.bytes + 2 * l.more ≤ 16;
}
