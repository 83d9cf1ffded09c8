use Rattle.std.proofs.Common.{IsTrue, subst, sym}
use Rattle.ddds_walk.specs.Clients.{meant}
use Rattle.ddds_walk.specs.Rules.{HasOutput}
use Rattle.rule_check.specs.Uris.{IsUri}
use Rattle.ddds_walk.proofs.GiftLemmas.{no_uri}
use Rattle.ddds_walk.proofs.rule_edge.uri_of.Goals as goal

pub returns-else-is_uri : goal.returns-else-is_uri
returns-else-is_uri g c =
    let has : HasOutput c.args.rule.now c.args.client.now.aus.now c.in-Some.output = rw c.in-Some.is at c.in_ok-output.ensures in
    no_uri c.one_output.ensures.output
    (meant g.P.DddsApp.meaning c.args.client.now)
    c.args.rule.now c.in-Some.output has without
  where
    without : IsUri c.in-Some.output → ⊥
    without u =
        let t : IsTrue c.is_uri.result = c.is_uri.ensures.1 (subst (λ b. IsUri b) (sym c.as_slice.ensures) u) in
        cc (t, c.if-is_uri.false)
