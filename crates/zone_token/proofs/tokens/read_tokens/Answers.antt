use Rattle.std.proofs.Common.{rules, sym}
use Rattle.std.proofs.lemmas.Result.{err_from_is_err_and}
use Rattle.zone_token.proofs.TokenLemmas.{loop_starts, loop_goes_on, loop_breaks, loop_ends, loop_ends_open}
use Rattle.zone_token.proofs.tokens.read_tokens.Goals as goal

pub loop-rest-init : goal.loop-rest-init
loop-rest-init c = loop_starts _ _ c.new-tokens.ensures

pub returns-in_err-token : goal.returns-in_err-token
returns-in_err-token c =
    let p = err_from_is_err_and c.from_residual.result c.from_residual.ensures.1 in
    rw (p.1, p.2) (λ known. loop_breaks _ _ _ _ _ c.loop-rest.invariant (search rules) (sym c.in_err-token.ensures.value))

pub loop-rest-preserved : goal.loop-rest-preserved
loop-rest-preserved c = loop_goes_on _ _ _ _ _ _ _ c.loop-rest.invariant (search rules)
    (sym c.in_ok-token.ensures.value) c.in_ok-append.ensures c.rest_after-rest.ensures

pub returns-then-inside : goal.returns-then-inside
returns-then-inside c = λ known. loop_ends_open _ _ _ (rw c.if-inside.true at c.loop-rest.invariant) (search rules)

pub returns : goal.returns
returns c = loop_ends _ _ _ (rw c.if-inside.false at c.loop-rest.invariant) (search rules)
