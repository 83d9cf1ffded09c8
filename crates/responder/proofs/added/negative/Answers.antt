use Rattle.responder.proofs.AddedLemmas.{negative_added}
use Rattle.responder.proofs.added.negative.Goals as goal

pub returns-clause-added : goal.returns-clause-added
returns-clause-added c = (
  c.in_ok-told.told,
  (c.in_ok-told.ensures.told.0, c.in_ok-told.ensures.told.1, c.in_ok-told.ensures.told.2),
  negative_added c.nothing-added.result c.args.code c.in_ok-told.told c.push.new.self c.nothing-added.ensures c.in_ok-push.ensures.ok,
)
