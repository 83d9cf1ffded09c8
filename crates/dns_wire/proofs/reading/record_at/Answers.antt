use Rattle.std.proofs.Common.{inl}
use Rattle.enum_base.specs.Stages.Then.{goes}
use Rattle.dns_wire.proofs.RecordLemmas.{content_belongs, record_goes, record_stops}
use Rattle.dns_wire.proofs.StepLemmas.{stop}
use Rattle.dns_wire.proofs.reading.record_at.Goals as goal

pub returns-in_err-owner-clause-record : goal.returns-in_err-owner-clause-record
returns-in_err-owner-clause-record c =
    inl (stop _ _ c.in_err-owner.field-0.0 _ c.in_err-owner.ensures.name c.from_residual.ensures.1)

pub returns-in_err-kind-clause-record : goal.returns-in_err-kind-clause-record
returns-in_err-kind-clause-record c =
    inl (goes (c.in_ok-owner.owner, c.in_ok-owner.at_kind) c.in_ok-owner.ensures.name
    (stop _ _ c.in_err-kind.field-0.0 _ c.in_err-kind.ensures.number c.from_residual-in_err-kind.ensures.1))

pub returns-in_err-class-clause-record : goal.returns-in_err-class-clause-record
returns-in_err-class-clause-record c =
    inl (goes (c.in_ok-owner.owner, c.in_ok-owner.at_kind) c.in_ok-owner.ensures.name
    (goes (c.in_ok-kind.kind, c.in_ok-kind.at_class) c.in_ok-kind.ensures.number
    (stop _ _ c.in_err-class.field-0.0 _ c.in_err-class.ensures.number c.from_residual-in_err-class.ensures.1)))

pub returns-in_err-ttl-clause-record : goal.returns-in_err-ttl-clause-record
returns-in_err-ttl-clause-record c =
    inl (goes (c.in_ok-owner.owner, c.in_ok-owner.at_kind) c.in_ok-owner.ensures.name
    (goes (c.in_ok-kind.kind, c.in_ok-kind.at_class) c.in_ok-kind.ensures.number
    (goes (c.in_ok-class.class, c.in_ok-class.at_ttl) c.in_ok-class.ensures.number
    (stop _ _ c.in_err-ttl.field-0.0 _ c.in_err-ttl.ensures.number c.from_residual-in_err-ttl.ensures.1))))

pub returns-in_err-to-clause-record : goal.returns-in_err-to-clause-record
returns-in_err-to-clause-record c =
    inl (goes (c.in_ok-owner.owner, c.in_ok-owner.at_kind) c.in_ok-owner.ensures.name
    (goes (c.in_ok-kind.kind, c.in_ok-kind.at_class) c.in_ok-kind.ensures.number
    (goes (c.in_ok-class.class, c.in_ok-class.at_ttl) c.in_ok-class.ensures.number
    (goes (c.in_ok-ttl.ttl, c.in_ok-ttl.at_length) c.in_ok-ttl.ensures.number
    (stop _ _ c.in_err-to.field-0.0 _ c.in_err-to.ensures.length c.from_residual-in_err-to.ensures.1)))))

pub returns-in_err-content-clause-record : goal.returns-in_err-content-clause-record
returns-in_err-content-clause-record c =
    record_stops c.args.message.now c.args.at (c.in_ok-owner.owner, c.in_ok-owner.at_kind)
    (c.in_ok-kind.kind, c.in_ok-kind.at_class) (c.in_ok-class.class, c.in_ok-class.at_ttl)
    (c.in_ok-ttl.ttl, c.in_ok-ttl.at_length) (
      c.in_ok-to.to,
      c.in_ok-to.from,
    ) c.in_err-content.field-0.0 _ c.in_ok-owner.ensures.name c.in_ok-kind.ensures.number
    c.in_ok-class.ensures.number c.in_ok-ttl.ensures.number c.in_ok-to.ensures.length
    (rw c.form_of.ensures at c.in_err-content.ensures) c.from_residual-in_err-content.ensures.1

pub invariant_of-record : goal.invariant_of-record
invariant_of-record c = record {
  belongs = content_belongs c.args.message.now c.in_ok-kind.kind c.in_ok-class.class c.in_ok-ttl.at_length
      (c.in_ok-to.to, c.in_ok-to.from) c.in_ok-content.content c.in_ok-to.ensures.length
      (rw c.form_of.ensures at c.in_ok-content.ensures);
}

pub returns-clause-record : goal.returns-clause-record
returns-clause-record c =
    record_goes c.args.message.now c.args.at (c.in_ok-owner.owner, c.in_ok-owner.at_kind)
    (c.in_ok-kind.kind, c.in_ok-kind.at_class) (c.in_ok-class.class, c.in_ok-class.at_ttl)
    (c.in_ok-ttl.ttl, c.in_ok-ttl.at_length) (
      c.in_ok-to.to,
      c.in_ok-to.from,
    ) c.in_ok-content.content _ c.in_ok-owner.ensures.name c.in_ok-kind.ensures.number
    c.in_ok-class.ensures.number c.in_ok-ttl.ensures.number c.in_ok-to.ensures.length
    (rw c.form_of.ensures at c.in_ok-content.ensures)
