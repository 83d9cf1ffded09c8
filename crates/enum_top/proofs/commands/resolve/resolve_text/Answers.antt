use Rattle.std.proofs.Common.{Result, Ok, Err, List, length, ap, refl, ◌∙◌}
use Rattle.enum_base.specs.Stages.Then.{goes, stops}
use Rattle.naptr_data.specs.Zones.{Labels}
use Rattle.enum_top.specs.Resolving.{printed_as}
use Rattle.enum_top.specs.declared.cause.Cause.{Cause}
use Rattle.enum_top.specs.declared.status.Printed.{Printed}
use Rattle.enum_top.specs.declared.why.Why.TheVariants.{Judged}
use Rattle.enum_top.proofs.InquiryLemmas.{no_cause, one_cause}
use Rattle.enum_top.proofs.DoesLemmas.{done, got, ill_formed, passed, stopped_by}
use Rattle.enum_top.proofs.FileLoopLemmas.{named_zones}
use Rattle.enum_top.proofs.KeyLemmas.{some_keys}
use Rattle.enum_top.proofs.commands.resolve.resolve_text.Goals as goal

pub returns-in-Err-clause-does : goal.returns-in-Err-clause-does
returns-in-Err-clause-does g c = ill_formed (stops _ c.in-Err.ensures refl)

pub returns-in-Err-clause-early : goal.returns-in-Err-clause-early
returns-in-Err-clause-early g c = λ cause asks. ap (λ x. Err (Judged x)) (one_cause _ _ _ _ _ _ cause c.in-Err.ensures asks)

pub returns-in_err-zones-clause-does : goal.returns-in_err-zones-clause-does
returns-in_err-zones-clause-does g c =
    passed c.from_residual.ensures.1
    (stopped_by (λ object used. used)
    (λ cause stopped. goes _ c.in-Ok.ensures (stops cause stopped refl)) (named_zones _ _ _ _ _ c.files_of.ensures c.in_err-zones.ensures.does))

pub returns-in_err-zones-clause-early : goal.returns-in_err-zones-clause-early
returns-in_err-zones-clause-early g c = λ cause asks. no_cause _ _ _ _ _ _ cause c.in-Ok.ensures asks

pub returns-in_err-report-clause-early : goal.returns-in_err-report-clause-early
returns-in_err-report-clause-early g c = λ cause asks. no_cause _ _ _ _ _ _ cause c.in-Ok.ensures asks

pub returns-in_err-text-clause-early : goal.returns-in_err-text-clause-early
returns-in_err-text-clause-early g c = λ cause asks. no_cause _ _ _ _ _ _ cause c.in-Ok.ensures asks

pub returns-clause-early : goal.returns-clause-early
returns-clause-early g c = λ cause asks. no_cause _ _ _ _ _ _ cause c.in-Ok.ensures asks

pub report_over-requires : goal.report_over-requires
report_over-requires g c = record { some = some_keys _ _ _ _ _ _ c.in-Ok.ensures }

pub returns-clause-does : goal.returns-clause-does
returns-clause-does g c =
    done (goes _ c.in-Ok.ensures
    (goes _ (got (named_zones _ _ _ _ _ c.files_of.ensures c.in_ok-zones.ensures.does)) (
      c.in_ok-report.report,
      c.in_ok-report.ensures,
      ◌∙◌ {A = Result Printed Cause} (λ i. Ok (record { ending = c.ending_of.ensures i; text = c.in_ok-text.ensures i }))
          (ap (λ (keys : List Labels). Ok (printed_as (length keys) c.in_ok-report.report)) c.as_slice.ensures.domains),
    )))
