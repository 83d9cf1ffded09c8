use Rattle.std.proofs.Common.{Ok, ◌+◌, refl, ap, inl, inr, arith}
use Rattle.enum_base.specs.Stages.Then.{goes}
use Rattle.dns_wire.proofs.StepLemmas.{stop}
use Rattle.dns_wire.proofs.reading.length_at.Goals as goal

pub returns-in_err-size-clause-length : goal.returns-in_err-size-clause-length
returns-in_err-size-clause-length c = stop _ _ c.in_err-size.field-0.0 _ c.in_err-size.ensures.number c.from_residual.ensures.1

pub returns-then-len-from-clause-length : goal.returns-then-len-from-clause-length
returns-then-len-from-clause-length c =
    let low = c.in_ok-size.ensures.within.1 in
    let size = c.len.ensures in
    let short = c.if-len-from.true in
    let is = c.from-size.ensures in
    goes (c.in_ok-size.size, c.in_ok-size.from) c.in_ok-size.ensures.number (inr (omega arith, refl))

pub returns-clause-length : goal.returns-clause-length
returns-clause-length c =
    let low = c.in_ok-size.ensures.within.1 in
    let size = c.len.ensures in
    let room = c.if-len-from.false in
    let is = c.from-size.ensures in
    goes (c.in_ok-size.size, c.in_ok-size.from) c.in_ok-size.ensures.number (inl (omega arith, ap (λ n. Ok (c.in_ok-size.from + n, c.in_ok-size.from)) is))
