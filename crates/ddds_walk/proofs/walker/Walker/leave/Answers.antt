use Rattle.std.proofs.Common.{subst, sym, ◌∙◌, arith}
use Rattle.ddds_walk.specs.Turns.{HasMoved}
use Rattle.ddds_walk.specs.declared.walker.Turn.TheVariants.{Done}
use Rattle.ddds_walk.proofs.SoundLemmas.{low_rank, moved_done, moved_leave}
use Rattle.ddds_walk.proofs.walker.Walker.leave.Goals as goal

pub returns-in_default : goal.returns-in_default
returns-in_default c = record {
  moved = subst (λ v. HasMoved c.args.limit c.args.self.now (record c.args.self.now { below = v }) Done)
      (c.in_default.ensures.0 ∙ sym c.in_default.ensures.1) (moved_done c.args.limit c.args.self.now c.requires.sound c.in_default.ensures.0 c.requires.all);
}

pub overflow_add-self : goal.overflow_add-self
overflow_add-self c = let l = low_rank c.args.limit c.args.self.now c.requires.sound c.pop.new.self c.in-Some.frame c.in-Some.ensures in omega (arith, l)

pub returns : goal.returns
returns c = record { moved = moved_leave c.args.limit c.args.self.now c.requires.sound c.pop.new.self c.in-Some.frame c.in-Some.ensures c.requires.all }
