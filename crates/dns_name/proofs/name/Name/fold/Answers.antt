use Rattle.std.proofs.Common.{◌∙◌, ap, sym, subst, ℕ, List, take}
use Rattle.dns_name.specs.Name.{folded_labels, labels_of}
use Rattle.dns_name.proofs.NameLemmas.{HoldsName, HoldsName-row, HoldsName-folded, IsRow-holds, labels_of-row, folded_all, folded_step}
use Rattle.dns_name.proofs.name.Name.fold.Goals as goal

pub loop-byte-preserved : goal.loop-byte-preserved
loop-byte-preserved c =
    folded_step c.self.inside.row c.loop-byte.byte-items c.loop-byte.byte-index _ c.self.told c.loop-byte-test.true c.loop-byte.invariant c.fold_byte.ensures

holds : (c : goal.After-loop-byte) → HoldsName (folded_labels (labels_of (take c.self.inside.len c.self.inside.row))) c.self.inside.len c.loop-byte.byte-items
holds c =
    let row = c.self.inside.row in
    let all = folded_all row c.loop-byte.byte-items c.loop-byte.byte-index c.self.told c.loop-byte-test.false c.loop-byte.invariant in
    let P : List ℕ → Type 0 = λ items. HoldsName (folded_labels (labels_of (take c.self.inside.len row))) c.self.inside.len items in
    subst P (sym all) (HoldsName-folded _ _ row (HoldsName-row c.self.inside.len row c.self.invariant))

pub invariant_of-result : goal.invariant_of-result
invariant_of-result c = IsRow-holds _ _ _ (holds c)

pub returns : goal.returns
returns c = labels_of-row _ _ _ (holds c) ∙ ap folded_labels c.self.view_is
