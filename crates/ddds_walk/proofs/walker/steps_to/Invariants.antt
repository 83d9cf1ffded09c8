use Rattle.std.proofs.Common.{◌≡◌, map, take}
use Rattle.dns_name.specs.Name.{folded_labels}
use Rattle.ddds_walk.specs.declared.edge.Edge.TheVariants.{Step}
use Rattle.ddds_walk.proofs.walker.steps_to.Given as goal

abbrev pub invariant-loop-key : goal.invariant-loop-key
invariant-loop-key l = l.edges ≡ map (λ key. Step key) (map folded_labels (take l.key-index l.keys))
