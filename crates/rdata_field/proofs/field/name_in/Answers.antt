use Rattle.std.proofs.Common.{refl, inl}
use Rattle.rdata_field.proofs.field.name_in.Goals as goal

pub returns-clause-name : goal.returns-clause-name
returns-clause-name c =
    let read = c.in_ok-name_within.field-0 in
    inl (read.0, read.1, (c.in_ok-name_within.ensures.name read.0 read.1).0 refl, refl)
