use Rattle.std.proofs.Common.{[], refl, arith}
use Rattle.dns_name.proofs.NameLemmas.{IsRow-holds, labels_of-row}
use Rattle.dns_name.proofs.name.Name.root.Goals as goal

pub invariant_of-result : goal.invariant_of-result
invariant_of-result c = IsRow-holds [] _ _ (record { name = record { each = tt; short = omega arith }; size = refl; cells = refl })

pub returns : goal.returns
returns c = labels_of-row [] _ _ (record { name = record { each = tt; short = omega arith }; size = refl; cells = refl })
