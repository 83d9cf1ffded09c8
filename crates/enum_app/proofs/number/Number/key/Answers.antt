use Rattle.std.proofs.Common.{ℕ, ◌<◌, List, length, get_or, refl, subst}
use Rattle.dns_name.specs.Name.{wire_of}
use Rattle.enum_app.specs.Number.{key_labels}
use Rattle.enum_app.proofs.KeyLemmas.{key_too_long}
use Rattle.enum_app.proofs.number.Number.key.Goals as goal

pub returns-in_err-name-clause-too_long : goal.returns-in_err-name-clause-too_long
returns-in_err-name-clause-too_long c =
    let ds : List ℕ = c.digits-digit-items.result.now in (
      λ e. subst (λ (shown : List ℕ). 255 < length
          (wire_of (key_labels shown c.args.apex.now))) c.digits-digit-items.ensures.value
          (key_too_long ds c.loop-digit.digit-index
          (get_or ds c.loop-digit.digit-index 0) c.args.apex.now c.loop-digit.name c.loop-digit-test.true refl
          c.loop-digit.invariant.is c.in_err-name.ensures.too_long.1),
      λ long. c.from_residual.ensures.0,
    )
