use Rattle.std.proofs.Common.{take}
use Rattle.std.specs.List.{AllByRecursion}
use Rattle.zone_db.specs.LookUp.{HasKind}
use Rattle.registry.proofs.registry.Registry.has_record.Given as goal

-- none of the kinds so far is there
abbrev pub invariant-loop-kind : goal.invariant-loop-kind
invariant-loop-kind l = AllByRecursion (λ kind. ¬ HasKind l.self l.owner kind) (take l.kind-index l.kind-items)
