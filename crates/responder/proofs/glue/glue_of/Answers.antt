use Rattle.std.proofs.Common.{◌≡◌, ◌+◌, List, [], ◌∷◌, ◌++◌, take, sym, ap, subst, ◌∙◌}
use Rattle.std.proofs.lemmas.List.{take_more}
use Rattle.dns_wire.specs.declared.record.Record.{Record}
use Rattle.zone_db.specs.Replies.{IsGlue}
use Rattle.responder.proofs.GlueLemmas.{glue_more}
use Rattle.responder.proofs.glue.glue_of.Goals as goal

pub loop-one-preserved : goal.loop-one-preserved
loop-one-preserved c =
    let xs : List Record = c.args.servers.now in
    let i = c.loop-one.one-index in
    let one : Record = c.one-item.result in
    let more : take (i + 1) xs ≡ take i xs ++ one ∷ [] =
    take_more xs i one c.loop-one-test.true ∙ ap (λ (x : Record). take i xs ++ x ∷ []) (sym c.one-item.is) in
    subst (λ l. IsGlue c.args.zone.now l c.push_glue.new.glue) (sym more)
    (glue_more c.args.zone.now (take i xs) one c.loop-one.glue c.push_glue.new.glue c.loop-one.invariant c.in_ok-push_glue.ensures)
