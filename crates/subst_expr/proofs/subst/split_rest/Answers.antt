use Rattle.std.proofs.Common.{sym, subst, Result}
use Rattle.subst_expr.specs.Split.{SplitsRest}
use Rattle.subst_expr.specs.declared.subst.Subst.{Subst}
use Rattle.subst_expr.specs.declared.subst.SubstFault.{SubstFault}
use Rattle.subst_expr.proofs.SplitLemmas.{split_one, split_two, split_three}
use Rattle.subst_expr.proofs.subst.split_rest.Goals as goal

pub returns-in_default : goal.returns-in_default
returns-in_default c = split_one c.args.delim c.args.rest.now (sym c.in_default.ensures.value)

pub returns-in_default-halves : goal.returns-in_default-halves
returns-in_default-halves c =
    split_two c.args.delim c.args.rest.now _ _ (sym c.in-Some.ensures.value) (sym c.in_default-halves.ensures.value)

pub returns : goal.returns
returns c =
    let P : Result Subst SubstFault → Type 0 = λ r. SplitsRest c.args.delim c.args.rest.now r in
    subst P (sym c.split_at.ensures)
    (split_three c.args.delim c.args.rest.now _ _ _ _ (sym c.in-Some.ensures.value) (sym c.in-Some-halves.ensures.value))
