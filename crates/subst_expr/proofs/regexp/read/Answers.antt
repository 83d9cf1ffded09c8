use Rattle.std.proofs.Common.{rules, sym, ◌∙◌}
use Rattle.posix_ere.specs.Nodes.{whole}
use Rattle.subst_expr.proofs.ExpandingLemmas.{missing}
use Rattle.subst_expr.proofs.regexp.read.Goals as goal

pub returns-in-Some-clause-err : goal.returns-in-Some-clause-err
returns-in-Some-clause-err g c = (
  c.in-Ok.subst,
  whole c.in_ok-ere.ere,
  search rules,
  missing c.args.text.now c.in-Ok.subst _ c.groups.result c.from-start.result c.as_bytes-2.result.now _
      c.in-Ok.ensures.answer c.groups.ensures c.from-start.ensures c.as_bytes-2.ensures.value
      (sym c.in-Some.is ∙ c.first_missing.ensures),
)

pub returns-in-None-clause-ok : goal.returns-in-None-clause-ok
returns-in-None-clause-ok g c = (
  search rules,
  missing c.args.text.now c.in-Ok.subst _ c.groups.result c.from-start.result c.as_bytes-2.result.now _
      c.in-Ok.ensures.answer c.groups.ensures c.from-start.ensures c.as_bytes-2.ensures.value
      (sym c.in-None.is ∙ c.first_missing.ensures),
)
