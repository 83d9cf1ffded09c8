use Rattle.zone_db.proofs.SeekLemmas.{least_of_all, least_of_one, least_of_none}
use Rattle.zone_db.proofs.answer.least_kind.Goals as goal

pub returns-then-asked-eq255 : goal.returns-then-asked-eq255
returns-then-asked-eq255 c =
    least_of_all c.args.zone.now.records c.args.source.now c.args.asked c.least_kind.result c.if-asked-eq255.true c.least_kind.ensures

pub returns-then-set-gt0 : goal.returns-then-set-gt0
returns-then-set-gt0 c =
    least_of_one c.args.zone.now.records c.args.source.now c.args.asked c.set-set.result.now c.if-asked-eq255.false c.set-set.ensures c.if-set-gt0.true

pub returns : goal.returns
returns c =
    least_of_none c.args.zone.now.records c.args.source.now c.args.asked c.set-set.result.now c.if-asked-eq255.false c.set-set.ensures c.if-set-gt0.false
