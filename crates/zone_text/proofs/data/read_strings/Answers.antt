use Rattle.std.proofs.Common.{◌∙◌, sym}
use Rattle.std.proofs.lemmas.Result.{err_from_is_err_and}
use Rattle.zone_text.proofs.StringLemmas.{loop_starts, loop_goes_on, loop_breaks, loop_ends}
use Rattle.zone_text.proofs.data.read_strings.Goals as goal

pub loop-token-init : goal.loop-token-init
loop-token-init c = loop_starts _ _ c.new-texts.ensures

pub loop-token-preserved : goal.loop-token-preserved
loop-token-preserved c = loop_goes_on _ _ _ _ _ _ c.loop-token.invariant c.loop-token-test.true c.token-item.is
    (sym c.string_of.ensures ∙ c.in_ok-string_of.was) c.in_ok-push.ensures.ok

pub returns-in_err-string_of : goal.returns-in_err-string_of
returns-in_err-string_of c =
    let p = err_from_is_err_and c.from_residual.result c.from_residual.ensures.1 in
    rw (p.1, p.2) (λ known. loop_breaks _ _ _ _ _ c.loop-token.invariant c.loop-token-test.true c.token-item.is
    (sym c.string_of.ensures ∙ c.in_err-string_of.was))

pub returns : goal.returns
returns c = loop_ends _ _ _ c.loop-token.invariant c.loop-token-test.false
