use Rattle.std.proofs.Common.{subst, sym}
use Rattle.ddds_walk.specs.Turns.{HasMoved}
use Rattle.ddds_walk.specs.declared.walker.Turn.TheVariants.{On}
use Rattle.ddds_walk.proofs.SoundLemmas.{moved_skip}
use Rattle.ddds_walk.proofs.walker.Walker.skip.Goals as goal

pub returns : goal.returns
returns c = record {
  moved = subst (λ v. HasMoved c.args.limit c.args.self.now v On) (sym c.advance.ensures)
      (moved_skip c.args.limit c.args.self.now c.requires.sound c.args.next.now c.requires.here c.requires.asked c.requires.away);
}
