use Rattle.enum_top.proofs.ObjectLemmas.{handles_as}
use Rattle.enum_top.proofs.PrintLemmas.{means_nothing}
use Rattle.enum_top.proofs.top.answer.Goals as goal

pub returns-in-Err-clause-runs : goal.returns-in-Err-clause-runs
returns-in-Err-clause-runs g c = means_nothing _ _ _ (λ some. cc (c.in-Err.ensures.only some.0 some.1))

pub returns-in-Ok-clause-objects : goal.returns-in-Ok-clause-objects
returns-in-Ok-clause-objects g c =
    handles_as _ _ _ _ _ _ _ _ _ (λ object used. (c.in-Ok.request, c.in-Ok.ensures.meant, used))
    (λ object blamed. blamed) (λ object blamed. blamed) c.print.ensures.objects
