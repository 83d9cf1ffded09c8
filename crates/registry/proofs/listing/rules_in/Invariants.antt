use Rattle.std.proofs.Common.{take}
use Rattle.zone_db.proofs.RuleLemmas.{HasRulesOf}
use Rattle.registry.proofs.listing.rules_in.Given as goal

abbrev pub invariant-loop-one : goal.invariant-loop-one
invariant-loop-one l = HasRulesOf (take l.one-index l.set) l.rules
