use Rattle.std.proofs.Common.{refl, ap, ◌∙◌}
use Rattle.dns_name.specs.Name.{folded_labels}
use Rattle.dns_wire.specs.declared.record.Record.{Record}
use Rattle.zone_build.proofs.build.soa_apex.Goals as goal

pub returns-then-not-is_only_soa-clause-err : goal.returns-then-not-is_only_soa-clause-err
returns-then-not-is_only_soa-clause-err c =
    (c.in-Some.first.now, c.in-Some.ensures.0, c.in-Some.ensures.1, λ all. absurd (cc (c.if-not-is_only_soa.ensures.1 all)))

pub returns-clause-ok : goal.returns-clause-ok
returns-clause-ok c = (
  c.in-Some.first.now,
  c.in-Some.ensures.0,
  c.in-Some.ensures.1,
  c.fold.ensures
      ∙ ap (λ (r : Record). folded_labels r.owner) c.record.ensures,
  c.if-not-is_only_soa.ensures.0 refl,
)
