use Rattle.std.proofs.Common.{[], ◌∷◌}
use Rattle.dns_name.proofs.NameLemmas.{AreBytes-fits, HoldsName-label, IsRow-holds, labels_of-row}
use Rattle.dns_name.proofs.name.Name.of_label.Goals as goal

pub invariant_of-result : goal.invariant_of-result
invariant_of-result c =
    let label = c.args.label.now in
    IsRow-holds (label ∷ []) _ _ (HoldsName-label label _ c.requires.some c.requires.most (AreBytes-fits label c.type_inv.label) c.row_of.ensures)

pub returns : goal.returns
returns c =
    let label = c.args.label.now in
    labels_of-row (label ∷ []) _ _ (HoldsName-label label _ c.requires.some c.requires.most (AreBytes-fits label c.type_inv.label) c.row_of.ensures)
