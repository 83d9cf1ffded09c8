use Rattle.std.proofs.Common.{◌↔◌, drop}
use Rattle.std.specs.Prelude.{Contains, Some}
use Rattle.ddds_walk.specs.Ways.{domains_of}
use Rattle.ddds_walk.proofs.walker.is_among.Given as goal

abbrev pub invariant-loop-frame : goal.invariant-loop-frame
invariant-loop-frame l = Contains (domains_of l.fn.frames) (Some l.domain) ↔ Contains (domains_of (drop l.frame-index l.fn.frames)) (Some l.domain)
