use Rattle.subst_expr.proofs.ExpandingLemmas.{expands}
use Rattle.subst_expr.proofs.rule.output.Goals as goal

pub returns-in_ok-expansion-in-Some : goal.returns-in_ok-expansion-in-Some
returns-in_ok-expansion-in-Some g c =
    expands c.args.subst.now _ _ c.args.aus.now _ _ _ c.in-Some.spans c.requires.pieces.0 c.requires.pieces.1
    c.new-matcher.ensures c.in-Some.is c.in_ok-spans.ensures.groups c.as_bytes.ensures.value
    c.in_ok-expansion-in-Some.ensures
