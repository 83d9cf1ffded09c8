use Rattle.std.proofs.Common.{IsTrue}
use Rattle.ddds_walk.specs.Clients.{meant}
use Rattle.rule_check.specs.Fields.{HasReplacement}
use Rattle.ddds_walk.proofs.GiftLemmas.{no_step}
use Rattle.ddds_walk.proofs.rule_edge.step_of.Goals as goal

pub returns-in-None : goal.returns-in-None
returns-in-None g c = no_step
    (meant g.P.DddsApp.meaning c.args.client.now)
    c.args.rule.now without (rw c.in-None.is at c.in_ok-name.ensures)
  where
    without : HasReplacement c.args.rule.now → ⊥
    without h = let t : IsTrue c.has_replacement.result = c.has_replacement.ensures.1 h in cc (t, c.if-has_replacement.false)
