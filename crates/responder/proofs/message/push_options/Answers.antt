use Rattle.std.proofs.Common.{ap, ◌∙◌, ◌++◌, ◌∷◌, []}
use Rattle.dns_wire.specs.declared.record.Record.{Record}
use Rattle.responder.proofs.message.push_options.Goals as goal

pub returns : goal.returns
returns c = c.in_ok-push.ensures.ok ∙ ap (λ (one : Record). c.args.glue ++ one ∷ []) c.reply_options.ensures
