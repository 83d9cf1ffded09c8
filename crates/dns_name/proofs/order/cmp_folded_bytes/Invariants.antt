use Rattle.std.proofs.Common.{◌≡◌, drop}
use Rattle.std.specs.Ordering.{nat_cmp}
use Rattle.std.specs.Cmp.Lexicographic.{slice_cmp}
use Rattle.enum_base.specs.Folding.{folded}
use Rattle.dns_name.proofs.order.cmp_folded_bytes.Given as goal

abbrev pub invariant-loop-at : goal.invariant-loop-at
invariant-loop-at l =
    slice_cmp nat_cmp (folded (drop l.at l.one)) (folded (drop l.at l.other)) ≡ slice_cmp nat_cmp (folded l.one) (folded l.other)
