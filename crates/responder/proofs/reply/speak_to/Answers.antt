use Rattle.responder.proofs.SendLemmas.{speaks_message}
use Rattle.responder.proofs.reply.speak_to.Goals as goal

pub returns-clause-ok : goal.returns-clause-ok
returns-clause-ok c =
    speaks_message c.args.zones.now c.args.query.now c.args.way c.args.message.now c.limit_of.result c.header_of.result _ c.in_ok-draft.draft
    c.args.out.now c.send.new.out c.send.result c.requires.spells c.options_heard-options.ensures c.in_ok-draft.ensures.comes c.in_ok-draft.ensures.small
    c.limit_of.ensures.limit c.header_of.ensures c.send.ensures.ok
