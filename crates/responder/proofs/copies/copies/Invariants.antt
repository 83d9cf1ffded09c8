use Rattle.std.proofs.Common.{◌≡◌, ◌≤◌, take}
use Rattle.zone_build.specs.Zone.{weight}
use Rattle.responder.specs.Sizes.{size}
use Rattle.responder.proofs.copies.copies.Given as goal

abbrev pub invariant-loop-one : goal.invariant-loop-one
invariant-loop-one l = (l.copies ≡ take l.one-index l.records) × (size (take l.one-index l.records) ≤ weight (take l.one-index l.records))
