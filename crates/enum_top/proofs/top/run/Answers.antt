use Rattle.std.proofs.Common.{sym}
use Rattle.enum_top.specs.declared.why.Why.TheVariants.{Judged}
use Rattle.enum_top.proofs.RunLemmas.{calm_objects, ends_always, ends_answered}
use Rattle.enum_top.proofs.top.run.Goals as goal

pub returns-clause-usage : goal.returns-clause-usage
returns-clause-usage g c = (c.run_inner.ensures.runs.usage, c.run_inner.ensures.runs.no_request)

pub returns-clause-early : goal.returns-clause-early
returns-clause-early g c =
    λ asked cause means broken. let is = c.run_inner.ensures.runs.early asked cause means broken in (is, c.run_inner.ensures.line (Judged cause) is)

pub returns-clause-answered : goal.returns-clause-answered
returns-clause-answered g c =
    let done = c.run_inner.ensures.objects in
    rw (c.shelf-1.given.1 (sym done.same_shelf), c.input-1.given.1 (sym done.same_input), c.out-1.given.1 (sym done.same_out))
    (λ asked means calm_shelf calm_input calm_out.
    ends_answered _ _ _ _ _ _ _ c.run_inner.ensures.runs c.run_inner.ensures.line asked means
    (calm_objects _ _ _ _ _ _ _ _ calm_shelf calm_input calm_out done.shelf.blamed done.input.blamed done.output)
    (λ e. calm_out (done.output.only e)))

pub returns-clause-always : goal.returns-clause-always
returns-clause-always g c =
    let done = c.run_inner.ensures.objects in
    rw (c.shelf-1.given.1 (sym done.same_shelf), c.input-1.given.1 (sym done.same_input), c.out-1.given.1 (sym done.same_out))
    (λ asked verdict means seen comes calm_shelf calm_input calm_out.
    ends_always _ _ _ _ _ _ _ c.run_inner.ensures.runs c.run_inner.ensures.line asked means
    (calm_objects _ _ _ _ _ _ _ _ calm_shelf calm_input calm_out done.shelf.blamed done.input.blamed done.output)
    (λ e. calm_out (done.output.only e)) c.one_verdict.ensures verdict seen comes)
