use Rattle.std.proofs.Common.{◌≡◌, ◌++◌}
use Rattle.std.specs.List.{flat_map}
use Rattle.registry.proofs.sets.Sets.copy_to.Given as goal

-- what was copied, and what is still to come
abbrev pub invariant-loop-set : goal.invariant-loop-set
invariant-loop-set l = l.to ++ flat_map (λ set. set) l.set-iterator ≡ l.fn.to ++ l.fn.self
