use Rattle.std.proofs.Common.{ap, ◌∙◌}
use Rattle.zone_build.specs.Indexing.{joined}
use Rattle.zone_build.proofs.IndexLemmas.{number_first, number_more}
use Rattle.zone_build.proofs.index.number_of.Goals as goal

pub loop-byte-init : goal.loop-byte-init
loop-byte-init c = number_first 0 c.first_seven-byte-items.result.now

pub loop-byte-preserved : goal.loop-byte-preserved
loop-byte-preserved c =
    number_more 0 c.first_seven-byte-items.result.now c.loop-byte.byte-index c.loop-byte.number c.joined-number.result
    c.loop-byte-test.true c.loop-byte.invariant
    (c.joined-number.ensures ∙ ap (joined c.loop-byte.number) c.fold_byte.ensures)
