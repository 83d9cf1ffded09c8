use Rattle.std.proofs.Common.{◌++◌, ◌∷◌, [], ◌+◌, ◌-◌, ◌∙◌, ap, subst, Some, length}
use Rattle.dns_name.proofs.NameLemmas.{AreBytes-fits, HoldsName, HoldsName-row, HoldsName-appended_label, IsRow-holds, labels_of-row, name_within-fits}
use Rattle.dns_name.proofs.name.Name.append_label.Goals as goal

holds : (c : goal.After-self-1) → HoldsName (c.args.self.now ++ c.args.label.now ∷ []) (c.self.inside.len - 1 + length c.args.label.now + 2) c.put_label.new.row
holds c =
    let len = c.self.inside.len in
    let row = c.self.inside.row in
    let label = c.args.label.now in
    let before : HoldsName c.args.self.now len row = subst (λ labels. HoldsName labels len row) c.self.view_is (HoldsName-row len row c.self.invariant) in
    HoldsName-appended_label c.args.self.now label len row c.put_label.new.row before c.requires.some c.requires.most
    (AreBytes-fits label c.type_inv.label) c.if-front-label-gt255.false c.put_label.ensures

pub invariant_of-self : goal.invariant_of-self
invariant_of-self c = IsRow-holds _ _ _ (holds c)

pub returns : goal.returns
returns c =
    let h = holds c in
    ap (λ labels. Some labels) (labels_of-row _ _ _ h) ∙ name_within-fits (c.args.self.now ++ c.args.label.now ∷ []) h.name.short
