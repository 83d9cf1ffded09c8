use Rattle.dns_wire.specs.Contents.{TextsIn}
use Rattle.dns_wire.specs.DecodeFaults.{of_rdata}
use Rattle.dns_wire.specs.Outcome.{ToldAs}
use Rattle.dns_wire.proofs.StepLemmas.{no_memory}
use Rattle.dns_wire.proofs.TextLemmas.{texts-first, texts-more, texts-none, texts-cut, texts-end}
use Rattle.dns_wire.proofs.texts.texts_in.Goals as goal

pub returns-in_err-first : goal.returns-in_err-first
returns-in_err-first c = texts-none c.args.message.now c.args.from c.args.to c.in_err-first.field-0.0 _ c.in_err-first.ensures.text c.from_residual.ensures.1

pub returns-in_err-push : goal.returns-in_err-push
returns-in_err-push c = no_memory (ToldAs of_rdata (TextsIn c.args.message.now c.args.from c.args.to)) _ c.from_residual-in_err-push.ensures.1

pub texts-init : goal.texts-init
texts-init c =
    rw c.in_ok-push.ensures.ok
    (rw c.new-texts.ensures
    (texts-first c.args.message.now c.args.from c.args.to c.in_ok-first.first c.in_ok-first.at
    c.in_ok-first.ensures.text c.in_ok-first.ensures.within.1))

pub returns-in_err-text : goal.returns-in_err-text
returns-in_err-text c =
    texts-cut c.args.message.now c.args.from c.args.to c.texts.texts c.texts.at c.in_err-text.field-0.0 _
    c.texts.invariant c.texts-test.true c.in_err-text.ensures.text c.from_residual-in_err-text.ensures.1

pub returns-in_err-push-2 : goal.returns-in_err-push-2
returns-in_err-push-2 c = no_memory (ToldAs of_rdata (TextsIn c.args.message.now c.args.from c.args.to)) _ c.from_residual-in_err-push-2.ensures.1

pub texts-preserved : goal.texts-preserved
texts-preserved c =
    rw c.in_ok-push-2.ensures.ok
    (texts-more c.args.message.now c.args.from c.args.to c.texts.texts c.texts.at c.in_ok-text.text
    c.in_ok-text.next c.texts.invariant c.in_ok-text.ensures.text c.in_ok-text.ensures.within.1)

pub returns : goal.returns
returns c = texts-end c.args.message.now c.args.from c.args.to c.texts.texts c.texts.at c.texts.invariant c.texts-test.false
