use Rattle.std.proofs.Common.{subst}
use Rattle.dns_wire.specs.Message.{MessageIs}
use Rattle.dns_wire.specs.Outcome.{OrMemory}
use Rattle.dns_wire.proofs.StepLemmas.{no_memory}
use Rattle.dns_wire.proofs.decoding.decode_inner.Goals as goal

pub returns-in_err-message : goal.returns-in_err-message
returns-in_err-message c = no_memory (MessageIs c.args.bytes.now) _ c.from_residual.ensures.1

pub returns : goal.returns
returns c = subst (λ bytes. OrMemory (MessageIs bytes) c.message_of.result) c.in_ok-message.ensures c.message_of.ensures
