use Rattle.registry.proofs.LookLemmas.{room_there}
use Rattle.registry.proofs.registry.Registry.has_room.Goals as goal

pub returns-clause-room : goal.returns-clause-room
returns-clause-room c = λ t. room_there c.args.self.now c.rules_at.result.now c.args.owner.now c.args.rule.now c.rules_at.ensures.set (c.has_room.ensures.0 t)
