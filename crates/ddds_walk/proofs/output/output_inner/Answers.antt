use Rattle.ddds_walk.proofs.GiftLemmas.{too_long}
use Rattle.ddds_walk.proofs.output.output_inner.Goals as goal

pub returns-in-Err-TooLong : goal.returns-in-Err-TooLong
returns-in-Err-TooLong g c =
    too_long c.one_output.ensures.output c.args.rule.now c.as_bytes.result.now c.args.aus.now c.as_bytes.ensures.value
    (rw c.in-Err-TooLong.field-0-is at c.in-Err-TooLong.ensures.err)
