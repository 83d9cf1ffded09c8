use Rattle.std.proofs.Common.{◌≡◌, List, ℕ, Result, Ok, Err, refl, ap, inl, inr}
use Rattle.std.specs.Result.{IsErrAnd}
use Rattle.dns_name.specs.Wire.{NameBreaks}
use Rattle.dns_name.specs.declared.wire_fault.WireFault.{WireFault}
use Rattle.dns_wire.specs.DecodeFaults.{of_name}
use Rattle.dns_wire.specs.Message.{NameRead}
use Rattle.dns_wire.specs.declared.decode_fault.DecodeFault.{DecodeFault}
use Rattle.dns_wire.proofs.reading.name_at.Goals as goal

broken : (message : List ℕ) (at : ℕ) (fault : WireFault) (result : Result (List (List ℕ) × ℕ) DecodeFault)
    → NameBreaks message at fault → IsErrAnd result (λ told. told ≡ of_name fault) → NameRead message at result
broken message at fault (Ok read) h is = absurd is
broken message at fault (Err told) h is = inr (fault, h, ap Err is)

pub returns-in_err-name_at-clause-name : goal.returns-in_err-name_at-clause-name
returns-in_err-name_at-clause-name c =
    let fault = c.in_err-name_at.field-0.0 in
    broken c.args.message.now c.args.at fault _ ((c.in_err-name_at.ensures.fault fault).0 refl) c.from_residual.ensures.1

pub returns-clause-name : goal.returns-clause-name
returns-clause-name c =
    let read = c.in_ok-name_at.field-0 in
    inl (read.0, read.1, (c.in_ok-name_at.ensures.name read.0 read.1).0 refl, refl)
