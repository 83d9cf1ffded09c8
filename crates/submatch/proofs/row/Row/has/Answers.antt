use Rattle.std.proofs.Common.{◌≡◌, ◌/◌, ◌%◌, ◌^◌, ◌↔◌, true, subst, sym, get_or, eqb}
use Rattle.std.specs.Prelude.{bit_and}
use Rattle.submatch.specs.Rows.{Has}
use Rattle.submatch.proofs.RowLemmas.{has_tests}
use Rattle.submatch.proofs.row.Row.has.Goals as goal

pub returns : goal.returns
returns c = subst (λ k. (eqb (bit_and (get_or c.self.inside.words k 0 / 2 ^ (c.args.place % 64)) 1) 1 ≡ true) ↔ Has c.args.self.now c.args.place)
    (sym c.from.ensures)
    (subst (λ x. (eqb (bit_and (get_or c.self.inside.words (c.args.place / 64) 0 / 2 ^ (c.args.place % 64)) 1) 1 ≡ true) ↔ Has x c.args.place)
    c.self.view_is (has_tests c.self.inside.words c.args.place c.requires))
