use Rattle.std.proofs.Common.{subst, sym, ◌∙◌}
use Rattle.zone_build.specs.Zone.{IsValid}
use Rattle.registry.proofs.ZoneLemmas.{parts_make}
use Rattle.registry.proofs.registry.Registry.from_zone.Goals as goal

pub invariant_of-result : goal.invariant_of-result
invariant_of-result c =
    subst IsValid
    (sym (parts_make c.args.zone c.records-records.ensures.valid c.records-records.result.now c.records-records.ensures.records
    c.apex.result c.in_ok-copy.field-0 c.index-records-0.result c.in_ok-filled.field-0 c.apex.ensures.apex (c.in_ok-copy.ensures ∙ c.index-records-0.is)
    c.in_ok-filled.ensures))
    c.records-records.ensures.valid
