use Rattle.std.proofs.Common.{refl}
use Rattle.enum_base.specs.Stages.Then.{goes, stops}
use Rattle.enum_top.proofs.DoesLemmas.{done_as, got, passed, stopped_by}
use Rattle.enum_top.proofs.FileLemmas.{plain_at}
use Rattle.enum_top.proofs.zones.read_zone.Goals as goal

pub build_zone-requires : goal.build_zone-requires
build_zone-requires g c = record { plain = plain_at _ _ _ _ (got c.in_ok-records.ensures.does) }

pub returns-in_err-records-clause-does : goal.returns-in_err-records-clause-does
returns-in_err-records-clause-does g c =
    passed c.from_residual.ensures.1 (stopped_by (λ object used. used) (λ cause stopped. stops cause stopped refl) c.in_err-records.ensures.does)

pub returns-clause-does : goal.returns-clause-does
returns-clause-does g c =
    done_as (λ object none. absurd none) (λ zone built. goes _ (got c.in_ok-records.ensures.does) built)
    (λ cause stopped. goes _ (got c.in_ok-records.ensures.does) stopped) c.build_zone.ensures
