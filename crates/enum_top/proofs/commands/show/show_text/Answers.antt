use Rattle.std.proofs.Common.{Ok, List, ℕ, refl, ap}
use Rattle.enum_base.specs.Stages.Then.{goes, stops}
use Rattle.enum_top.specs.declared.status.Ending.TheVariants as ending
use Rattle.enum_top.proofs.DoesLemmas.{done, got, passed, stopped_by}
use Rattle.enum_top.proofs.commands.show.show_text.Goals as goal

pub returns-in_err-text-clause-does : goal.returns-in_err-text-clause-does
returns-in_err-text-clause-does g c =
    passed c.from_residual.ensures.1 (stopped_by (λ object used. used) (λ cause stopped. stops cause stopped refl) c.in_err-text.ensures.does)

pub returns-in_err-bytes-clause-does : goal.returns-in_err-bytes-clause-does
returns-in_err-bytes-clause-does g c =
    passed c.from_residual-in_err-bytes.ensures.1
    (stopped_by (λ object none. absurd none)
    (λ cause stopped. goes _ (got c.in_ok-text.ensures.does) (stops cause stopped refl)) c.in_err-bytes.ensures)

pub returns-in_err-message-clause-does : goal.returns-in_err-message-clause-does
returns-in_err-message-clause-does g c =
    passed c.from_residual-in_err-message.ensures.1
    (stopped_by (λ object none. absurd none)
    (λ cause stopped. goes _ (got c.in_ok-text.ensures.does)
    (goes _ (got c.in_ok-bytes.ensures) (stops cause stopped refl))) c.in_err-message.ensures)

pub returns-clause-does : goal.returns-clause-does
returns-clause-does g c =
    done (goes _ (got c.in_ok-text.ensures.does)
    (goes _ (got c.in_ok-bytes.ensures)
    (goes _ (got c.in_ok-message.ensures)
    (ap (λ (text : List ℕ). Ok (record { ending = ending.Done; text = text })) c.in_ok-text-2.ensures))))
