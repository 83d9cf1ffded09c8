use Rattle.dns_name.proofs.BelowLemmas.{AreRest-all, AreRest-step, IsBelow-iff}
use Rattle.dns_name.proofs.name.Name.is_below.Goals as goal

pub loop-rest-init : goal.loop-rest-init
loop-rest-init c =
    AreRest-all c.args.self.now c.args.other.now _ c.wire-rest.ensures.value c.wire-rest.ensures.name

pub loop-rest-preserved : goal.loop-rest-preserved
loop-rest-preserved c =
    AreRest-step c.loop-rest.rest.now _ _ c.args.self.now c.args.other.now _ c.loop-rest.invariant
    c.wire-top.ensures.name c.split_first.ensures.labels c.split_first.ensures.rest c.wire-top.ensures.value
    c.loop-rest-test.true

pub returns : goal.returns
returns c =
    IsBelow-iff c.loop-rest.rest.now c.wire-top.result.now c.args.self.now c.args.other.now _ c.loop-rest.invariant
    c.wire-top.ensures.name c.wire-top.ensures.value c.loop-rest-test.false c.same_folded.ensures
