use Rattle.ddds_walk.specs.declared.walker.Turn.TheVariants.{Back}
use Rattle.ddds_walk.proofs.EnterLemmas.{turned_moved}
use Rattle.ddds_walk.proofs.walker.Walker.follow.Goals as goal

pub returns-then-is_on_the_way : goal.returns-then-is_on_the_way
returns-then-is_on_the_way g c = record {
  turned = turned_moved _ c.args.limit _ c.args.self.now c.args.self.now (Back c.in_ok-path.path) c.requires.sound c.in_ok-path.ensures.moved;
}
