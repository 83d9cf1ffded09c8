use Rattle.std.proofs.Common.{◌∙◌, sym, arith, get_or}
use Rattle.std.specs.declared.cmp.Ordering.TheVariants.{Equal}
use Rattle.dns_name.proofs.BelowLemmas.{compare-step, compare-end, compared}
use Rattle.dns_name.proofs.order.cmp_folded_bytes.Goals as goal

pub loop-at-preserved : goal.loop-at-preserved
loop-at-preserved c =
    sym (compare-step c.args.one.now c.args.other.now c.loop-at.at Equal (omega arith) (omega arith)
    (sym c.in-Equal.is ∙ compared _ _ _ (get_or c.args.one.now c.loop-at.at 0)
    (get_or c.args.other.now c.loop-at.at 0) c.cmp.ensures c.fold_byte.ensures c.fold_byte-in-loop-at.ensures))
    ∙ c.loop-at.invariant

pub returns : goal.returns
returns c = c.cmp-2.ensures ∙ compare-end c.args.one.now c.args.other.now c.loop-at.at (omega arith) (omega arith) (omega arith) ∙ c.loop-at.invariant
