use Rattle.ddds_walk.proofs.WholeLemmas.{going_at, going_by, done_by, back_by, err_by, nothing_by}
use Rattle.ddds_walk.proofs.walking.walk_inner.Goals as goal

pub returns-in_err-walker : goal.returns-in_err-walker
returns-in_err-walker g c = record { walked = nothing_by _ _ c.args.limit _ c.from_residual.result c.from_residual.ensures.1 }

pub loop-walker-init : goal.loop-walker-init
loop-walker-init g c = going_at c.one_offer.ensures c.one_output.ensures.output _ c.args.keys.now c.args.limit _ c.in_ok-walker.walker c.requires.few
    c.in_ok-walker.ensures

pub loop-walker-preserved : goal.loop-walker-preserved
loop-walker-preserved g c = going_by _ _ c.args.limit _ _ _ c.loop-walker.walker c.turn.new.self c.loop-walker.invariant
    c.in_ok-turn.field-0 c.in_ok-turn.ensures.turned c.in-On.is

pub returns-in-Done : goal.returns-in-Done
returns-in-Done g c = record {
  walked = done_by _ _ c.args.limit _ _ _ c.loop-walker.walker c.turn.new.self c.loop-walker.invariant
      c.in_ok-turn.field-0 c.in_ok-turn.ensures.turned c.in-Done.is;
}

pub returns-in-Back : goal.returns-in-Back
returns-in-Back g c = record {
  walked = back_by _ _ c.args.limit _ _ _ c.loop-walker.walker c.turn.new.self c.loop-walker.invariant
      c.in_ok-turn.field-0 c.in_ok-turn.ensures.turned c.in-Back.path c.in-Back.is;
}

pub returns-in_err-turn : goal.returns-in_err-turn
returns-in_err-turn g c = record {
  walked = err_by _ _ c.args.limit _ _ _ c.loop-walker.walker c.turn.new.self c.loop-walker.invariant
      c.from_residual-in_err-turn.result c.in_err-turn.field-0.0 c.from_residual-in_err-turn.ensures.1 c.in_err-turn.ensures.turned;
}
