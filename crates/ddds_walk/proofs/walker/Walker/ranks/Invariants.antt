use Rattle.std.proofs.Common.{◌≡◌, take}
use Rattle.ddds_walk.specs.Ways.{path_of}
use Rattle.ddds_walk.proofs.walker.Walker.ranks.Given as goal

abbrev pub invariant-loop-frame : goal.invariant-loop-frame
invariant-loop-frame l = l.ranks ≡ path_of (take l.frame-index l.below)
