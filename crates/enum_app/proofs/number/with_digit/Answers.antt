use Rattle.std.proofs.Common.{◌<◌, [], ◌∷◌, ◌∙◌, arith}
use Rattle.enum_app.proofs.KeyLemmas.{digit_name, fitting_ok, fitting_fits, fitting_err}
use Rattle.enum_app.proofs.number.with_digit.Goals as goal

pub returns-clause-key : goal.returns-clause-key
returns-clause-key c =
    let byte : c.args.digit < 256 = omega arith in
    fitting_ok ((c.args.digit ∷ []) ∷ c.args.name.now) _ (c.from_text.ensures.value ∙ digit_name c.args.digit c.args.name.now c.requires byte)

pub returns-clause-too_long : goal.returns-clause-too_long
returns-clause-too_long c =
    let byte : c.args.digit < 256 = omega arith in
    fitting_err ((c.args.digit ∷ []) ∷ c.args.name.now) _ (c.from_text.ensures.value ∙ digit_name c.args.digit c.args.name.now c.requires byte)

pub returns-clause-fits : goal.returns-clause-fits
returns-clause-fits c =
    let byte : c.args.digit < 256 = omega arith in
    fitting_fits ((c.args.digit ∷ []) ∷ c.args.name.now) _ (c.from_text.ensures.value ∙ digit_name c.args.digit c.args.name.now c.requires byte)
