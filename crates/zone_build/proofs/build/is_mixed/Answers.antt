use Rattle.zone_build.proofs.ClashLemmas.{mixed_of, not_mixed, not_less}
use Rattle.zone_build.proofs.build.is_mixed.Goals as goal

pub returns-then-run_len-owner : goal.returns-then-run_len-owner
returns-then-run_len-owner c = (
  λ t. mixed_of c.args.owner.now c.run_len.result c.run_len.ensures c.if-run_len-owner.true (c.has_alias.ensures.0 t),
  λ (one, other, k, l, alias, differ). c.has_alias.ensures.1 (one, k, alias),
)

pub returns-else-run_len-owner : goal.returns-else-run_len-owner
returns-else-run_len-owner c = (
  λ t. absurd (not_less c.run_len.result _ c.if-run_len-owner.false t),
  λ m. absurd (not_mixed c.args.owner.now c.run_len.result c.run_len.ensures c.if-run_len-owner.false m),
)
