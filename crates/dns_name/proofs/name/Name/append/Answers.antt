use Rattle.std.proofs.Common.{◌++◌, ◌+◌, ◌-◌, ◌∙◌, ap, subst, Some, length}
use Rattle.dns_name.proofs.NameLemmas.{HoldsName, HoldsName-row, HoldsName-appended, IsRow-holds, labels_of-row, name_within-fits}
use Rattle.dns_name.proofs.name.Name.append.Goals as goal

holds : (c : goal.After-self-1) → HoldsName (c.args.self.now ++ c.args.other.now) (c.self.inside.len - 1 + length c.wire-back.result.now) c.put.new.row
holds c =
    let len = c.self.inside.len in
    let row = c.self.inside.row in
    let before : HoldsName c.args.self.now len row = subst (λ labels. HoldsName labels len row) c.self.view_is (HoldsName-row len row c.self.invariant) in
    HoldsName-appended c.args.self.now c.args.other.now len row c.wire-back.result.now c.put.new.row before
    c.wire-back.ensures.name c.wire-back.ensures.value c.if-front-back-gt255.false c.put.ensures

pub invariant_of-self : goal.invariant_of-self
invariant_of-self c = IsRow-holds _ _ _ (holds c)

pub returns : goal.returns
returns c =
    let h = holds c in
    ap (λ labels. Some labels) (labels_of-row _ _ _ h) ∙ name_within-fits (c.args.self.now ++ c.args.other.now) h.name.short
