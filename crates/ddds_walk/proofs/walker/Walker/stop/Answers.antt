use Rattle.std.proofs.Common.{subst, sym}
use Rattle.ddds_walk.specs.Turns.{HasMoved}
use Rattle.ddds_walk.specs.declared.walker.Turn.TheVariants.{On}
use Rattle.ddds_walk.proofs.SoundLemmas.{is_placed, onward, moved_end}
use Rattle.ddds_walk.proofs.walker.Walker.stop.Goals as goal

pub returns-clause-moved : goal.returns-clause-moved
returns-clause-moved c = subst (λ v. HasMoved c.args.limit c.args.self.now v On) (sym c.advance.ensures)
    (subst (λ v. HasMoved c.args.limit c.args.self.now (onward c.args.self.now v) On) (sym c.in_ok-push.ensures.ok)
    (moved_end c.args.limit c.args.self.now c.requires.sound c.in_ok-end.end c.in_ok-end.ensures))

pub next_end-requires-clause-placed : goal.next_end-requires-clause-placed
next_end-requires-clause-placed c = is_placed c.args.limit c.args.self.now c.requires.sound
