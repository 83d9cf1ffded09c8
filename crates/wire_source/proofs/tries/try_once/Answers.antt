use Rattle.std.proofs.Common.{Ok, Some, refl, subst, ◌∙◌}
use Rattle.std.specs.Prelude.{IfOk}
use Rattle.enum_base.specs.Outside.{WhereTold}
use Rattle.zone_db.specs.Replies.{IsReply}
use Rattle.wire_source.specs.Readings.{IsRead}
use Rattle.wire_source.specs.Tries.{ComesTo}
use Rattle.wire_source.specs.declared.reading.Reading.TheVariants as reading
use Rattle.wire_source.specs.declared.trouble.Trouble.TheVariants as trouble
use Rattle.wire_source.proofs.TryLemmas.{asked_once, tried_ok, tried_err}
use Rattle.wire_source.proofs.tries.try_once.Goals as goal

pub returns-in-Ok-clause-asks : goal.returns-in-Ok-clause-asks
returns-in-Ok-clause-asks g c =
    let s = g.L.Link.state c.args.link.now in
    let s' = g.L.Link.state c.exchange.new.self in
    let query = c.as_slice.ensures.value ∙ c.query_for-query.ensures.bytes in
    let done = c.in-Ok.ensures.exchanged in
    asked_once c.args.id.now _ c.args.name.now s s' (λ last. ComesTo 1 last c.args.name.now s s' c.read_reply.result) c.query_for-query.ensures.number
    c.query_for-query.ensures.name refl done.counted (done.query ∙ query) done.told c.in-Ok.ensures.cause.later
    (tried_ok c.args.id.now c.args.name.now c.args.way s s' c.read_reply.result c.query_for-query.ensures.number c.query_for-query.ensures.name c.requires
    done.counted (subst (λ q. WhereTold s.zones (λ zones. IsReply zones q c.args.way (Some s'.held))) query done.replied) done.whole done.recent done.way
    (subst (λ h. IfOk c.read_reply.result (IsRead c.args.id.now c.args.name.now c.args.way h)) c.held.ensures c.read_reply.ensures.read)
    c.read_reply.ensures.few)

pub returns-in-Err-clause-asks : goal.returns-in-Err-clause-asks
returns-in-Err-clause-asks g c =
    let s = g.L.Link.state c.args.link.now in
    let s' = g.L.Link.state c.exchange.new.self in
    let query = c.as_slice.ensures.value ∙ c.query_for-query.ensures.bytes in
    let done = c.in-Err.ensures.exchanged in
    asked_once c.args.id.now _ c.args.name.now s s' (λ last. ComesTo 1 last c.args.name.now s s' (Ok (reading.Faulty trouble.LinkFault)))
    c.query_for-query.ensures.number c.query_for-query.ensures.name refl done.counted (done.query ∙ query) done.told c.in-Err.ensures.cause.later
    (tried_err c.args.id.now c.args.name.now s s' done.counted done.recent c.in-Err.ensures.cause.failed)
