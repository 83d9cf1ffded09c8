use Rattle.responder.proofs.SizeLemmas.{owned_ok}
use Rattle.responder.proofs.copies.owned_by.Goals as goal

pub returns-clause-size : goal.returns-clause-size
returns-clause-size c = owned_ok c.args.name.now c.args.records.now c.owned_list.result c.wire-wire.ensures.name.short c.owned_list.ensures
