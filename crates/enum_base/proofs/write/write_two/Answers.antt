use Rattle.enum_base.proofs.WrittenLemmas.{Takes-first, Takes-second}
use Rattle.enum_base.proofs.write.write_two.Goals as goal

pub returns-in_err-write_whole-clause-takes : goal.returns-in_err-write_whole-clause-takes
returns-in_err-write_whole-clause-takes g c =
    Takes-first _ _ _ _ c.write_whole.ensures.takes (c.in_err-write_whole.ensures.cause.failed)

pub returns-clause-takes : goal.returns-clause-takes
returns-clause-takes g c =
    Takes-second _ _ _ _ _ c.in_ok-write_whole.ensures.whole c.in_ok-write_whole.ensures.cause.kept c.write_whole-2.ensures.takes
