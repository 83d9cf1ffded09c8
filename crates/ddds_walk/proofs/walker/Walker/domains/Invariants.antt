use Rattle.std.proofs.Common.{◌≡◌, take, filter_map}
use Rattle.ddds_walk.specs.Ways.{domains_of}
use Rattle.ddds_walk.proofs.walker.Walker.domains.Given as goal

abbrev pub invariant-loop-frame : goal.invariant-loop-frame
invariant-loop-frame l = l.names ≡ filter_map (λ d. d) (domains_of (take l.frame-index l.frame-items))
