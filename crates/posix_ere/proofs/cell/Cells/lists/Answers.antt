use Rattle.std.proofs.Common.{◌<◌, subst, sym, ◌∙◌, ap, arith, ltb-true}
use Rattle.std.specs.Prelude.{Contains}
use Rattle.posix_ere.specs.Nodes.{listed_of, IsSet}
use Rattle.posix_ere.proofs.ToldLemmas.{made_at, set_listed, listed_by-has, has-listed_by}
use Rattle.posix_ere.proofs.cell.Cells.lists.Goals as goal

pub returns-then-byte-lt128 : goal.returns-then-byte-lt128
returns-then-byte-lt128 g c =
    let d = c.index-cell.result.now in
    let made = made_at c.self.inside.items.items c.args.self.now c.args.at d c.self.view_is c.index-cell.ensures c.requires.within in
    let e = ap listed_of made ∙ set_listed d.node d.marks _ (subst IsSet made c.requires.set) in (
      λ h. subst (λ bs. Contains bs c.args.byte) (sym e) (has-listed_by d.marks c.args.byte c.if-byte-lt128.true h),
      λ h. (listed_by-has d.marks c.args.byte (subst (λ bs. Contains bs c.args.byte) e h)).1,
    )

pub returns-else-byte-lt128 : goal.returns-else-byte-lt128
returns-else-byte-lt128 g c =
    let d = c.index-cell.result.now in
    let made = made_at c.self.inside.items.items c.args.self.now c.args.at d c.self.view_is c.index-cell.ensures c.requires.within in
    let e = ap listed_of made ∙ set_listed d.node d.marks _ (subst IsSet made c.requires.set) in (
      λ h. let l : c.args.byte < 128 = ltb-true _ _ h in absurd (omega arith),
      λ h. let l = (listed_by-has d.marks c.args.byte (subst (λ bs. Contains bs c.args.byte) e h)).0 in absurd (omega arith),
    )
