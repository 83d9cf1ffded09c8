use Rattle.std.proofs.Common.{◌≡◌, ◌++◌, ◌∷◌, [], ◌∙◌, ap, length, arith}
use Rattle.std.proofs.lemmas.List.{length_push}
use Rattle.ddds_walk.specs.Clients.{meant}
use Rattle.ddds_walk.proofs.FollowLemmas.{edges_told, is_past, is_within, at_end, at_past, passed_over, taken_up}
use Rattle.ddds_walk.proofs.domain_edges.edges_of_rules.Goals as goal
use Rattle.ddds_walk.proofs.domain_edges.edges_of_rules.Goals.{in-Some+in_ok-push, in_default}

pub returns-then-is_past-clause-edges : goal.returns-then-is_past-clause-edges
returns-then-is_past-clause-edges g c =
    let client = (meant g.P.DddsApp.meaning c.args.client.now) in
    edges_told c.one_output.ensures.output client c.args.rules.now c.loop-rule.edges c.requires.rising
    (at_past client c.loop-rule.least c.args.rules.now c.loop-rule.rule-index c.loop-rule.edges c.loop-rule.invariant.whole
    c.rule-item.result c.loop-rule-test.true c.rule-item.is
    (is_past c.loop-rule.least c.rule-item.result.order c.is_past.result c.is_past.ensures c.if-is_past.true))

pub loop-rule-preserved : goal.loop-rule-preserved
loop-rule-preserved g c =
    let client = (meant g.P.DddsApp.meaning c.args.client.now) in
    elim c.match-branch-2.branch [
      | in-Some+in_ok-push w ↦
          let grown : c.match-branch-2.edges ≡ c.loop-rule.edges ++ w.in-Some.edge ∷ [] = w.edges-is ∙ w.in_ok-push.ensures.ok in
          record {
            whole = taken_up client c.loop-rule.least c.args.rules.now c.loop-rule.rule-index c.loop-rule.edges c.loop-rule.invariant.whole
                c.rule-item.result c.loop-rule-test.true c.rule-item.is c.match-branch-2.edges c.match-branch-2.least w.in-Some.edge grown w.least-is
                (is_within c.loop-rule.least c.rule-item.result.order c.is_past.result c.is_past.ensures c.if-is_past.false)
                (rw w.in-Some.is at c.in_ok-edge.ensures);
            few = omega (arith, ap length grown, length_push c.loop-rule.edges w.in-Some.edge, c.loop-rule.invariant.few);
          }
      | in_default w ↦
          record {
            whole = passed_over client c.loop-rule.least c.args.rules.now c.loop-rule.rule-index c.loop-rule.edges c.loop-rule.invariant.whole
                c.rule-item.result c.loop-rule-test.true c.rule-item.is c.match-branch-2.edges c.match-branch-2.least w.edges-is w.least-is
                (rw w.in_default.is at c.in_ok-edge.ensures);
            few = omega (arith, ap length w.edges-is, c.loop-rule.invariant.few);
          }
    ]

pub returns-clause-edges : goal.returns-clause-edges
returns-clause-edges g c =
    let client = (meant g.P.DddsApp.meaning c.args.client.now) in
    edges_told c.one_output.ensures.output client c.args.rules.now c.loop-rule.edges c.requires.rising
    (at_end client c.loop-rule.least c.args.rules.now c.loop-rule.rule-index c.loop-rule.edges c.loop-rule.invariant.whole c.loop-rule-test.false)
