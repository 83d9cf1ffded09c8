use Rattle.std.proofs.Common.{◌∙◌, arith}
use Rattle.std.proofs.lemmas.Grind.{common_steps}
use Rattle.enum_base.proofs.WrittenLemmas.{next_piece}
use Rattle.enum_base.proofs.write.write_whole.Goals as goal

pub loop-written-preserved : goal.loop-written-preserved
loop-written-preserved g c = record {
  within = grind (arith, common_steps, c.in_ok-count.ensures.bound);
  taken = next_piece _ _ _ c.args.bytes.now _ _ c.loop-written.invariant.taken c.in_ok-count.ensures.appended;
  count = c.in_ok-count.ensures.cause.kept ∙ c.loop-written.invariant.count;
}
