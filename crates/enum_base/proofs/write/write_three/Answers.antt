use Rattle.enum_base.proofs.WrittenLemmas.{Takes-first, Takes-second}
use Rattle.enum_base.proofs.write.write_three.Goals as goal

pub returns-in_err-write_two-clause-takes : goal.returns-in_err-write_two-clause-takes
returns-in_err-write_two-clause-takes g c =
    Takes-first _ _ _ _ c.write_two.ensures.takes c.in_err-write_two.ensures.cause.failed

pub returns-clause-takes : goal.returns-clause-takes
returns-clause-takes g c =
    Takes-second _ _ _ _ _ c.in_ok-write_two.ensures.whole c.in_ok-write_two.ensures.cause.kept c.write_whole.ensures.takes
