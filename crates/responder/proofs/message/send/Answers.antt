use Rattle.std.proofs.Common.{subst, sym, arith, Bor, Option, option_map}
use Rattle.dns_wire.specs.declared.record.Record.{Record}
use Rattle.zone_db.specs.Replies.{without_glue}
use Rattle.zone_db.specs.declared.draft.Draft.{Draft}
use Rattle.responder.proofs.SizeLemmas.{IsCounted, small_counted}
use Rattle.responder.proofs.SendLemmas.{sends_whole, sends_no_glue, sends_short}
use Rattle.responder.proofs.message.send.Goals as goal

pub post-requires : goal.post-requires
post-requires c = small_counted _ c.args.draft (omega (arith, c.in-Whole.ensures, c.requires))

pub post-requires-in-NoGlue : goal.post-requires-in-NoGlue
post-requires-in-NoGlue c =
    let options : Option Record = option_map {T = Bor Record} (λ r. r.now) c.args.options in
    subst (λ (d : Draft). IsCounted options d) (sym c.without_glue.ensures)
    (small_counted options (without_glue c.args.draft) (omega (arith, c.in-NoGlue.ensures.1, c.requires)))

pub returns-in-Whole-clause-ok : goal.returns-in-Whole-clause-ok
returns-in-Whole-clause-ok c =
    sends_whole c.args.limit c.args.query.now _ c.args.draft c.args.out.now c.post.new.out c.post.result c.in-Whole.ensures c.post.ensures.ok

pub returns-in-NoGlue-clause-ok : goal.returns-in-NoGlue-clause-ok
returns-in-NoGlue-clause-ok c =
    sends_no_glue c.args.limit c.args.query.now _ c.args.draft c.without_glue.result c.args.out.now c.post-in-NoGlue.new.out c.post-in-NoGlue.result
    c.without_glue.ensures c.in-NoGlue.ensures.0 c.in-NoGlue.ensures.1 c.post-in-NoGlue.ensures.ok

pub returns-in-Short-clause-ok : goal.returns-in-Short-clause-ok
returns-in-Short-clause-ok c =
    sends_short c.args.limit c.args.query.now _ c.args.draft c.without_records.result c.args.out.now c.post-in-Short.new.out c.post-in-Short.result
    c.without_records.ensures c.in-Short.ensures c.post-in-Short.ensures.ok
