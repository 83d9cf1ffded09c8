use Rattle.std.proofs.Common.{◌∙◌}
use Rattle.service_field.proofs.BeginLemmas.{begins_by_front, begins_not}
use Rattle.service_field.proofs.fitting.begins.Goals as goal

pub returns-then-same_folded : goal.returns-then-same_folded
returns-then-same_folded c =
    c.ends.ensures
    ∙ begins_by_front c.args.tags.now c.args.item.now _ _ c.min.result c.min.ensures c.split_at.ensures.front
    c.split_at.ensures.back (c.same_folded.ensures.0 c.if-same_folded.true)

pub returns-else-same_folded : goal.returns-else-same_folded
returns-else-same_folded c =
    c.if-same_folded.false
    ∙ begins_not c.args.tags.now c.args.item.now _ c.min.result c.min.ensures c.split_at.ensures.front (λ e. absurd (cc (c.same_folded.ensures.1 e)))
