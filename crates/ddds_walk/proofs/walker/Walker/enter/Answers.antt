use Rattle.std.proofs.Common.{refl}
use Rattle.ddds_walk.proofs.SoundLemmas.{is_placed}
use Rattle.ddds_walk.proofs.EnterLemmas.{refused_by, memory_by, turned_on}
use Rattle.ddds_walk.proofs.walker.Walker.enter.Goals as goal

pub returns-in_err-offer : goal.returns-in_err-offer
returns-in_err-offer g c = record {
  turned = refused_by _ c.args.limit _ _ c.args.self.now _ c.ask.new.asked c.args.next.now
      c.requires.sound c.requires.here c.requires.new c.from_residual.result c.in_err-offer.field-0.0
      c.from_residual.ensures.1 c.in_err-offer.ensures.asked refl;
}

pub returns-in_err-open : goal.returns-in_err-open
returns-in_err-open g c = record {
  turned = memory_by _ c.args.limit _ _ c.args.self.now _ c.ask.new.asked c.args.next.now
      c.requires.sound c.requires.here c.requires.new c.from_residual-in_err-open.result
      c.from_residual-in_err-open.ensures.1 c.in_ok-offer.offer c.in_ok-offer.ensures.asked c.in_err-open.ensures.asked;
}

pub returns : goal.returns
returns g c = record {
  turned = turned_on _ c.args.limit _ _ c.args.self.now _ c.ask.new.asked c.args.next.now
      c.requires.sound c.requires.here c.requires.new c.in_ok-offer.offer c.in_ok-offer.ensures.asked c.in_ok-open.ensures.opens;
}

pub open-requires-clause-placed : goal.open-requires-clause-placed
open-requires-clause-placed g c = is_placed c.args.limit c.args.self.now c.requires.sound
