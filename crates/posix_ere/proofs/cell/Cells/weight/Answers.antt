use Rattle.posix_ere.proofs.ToldLemmas.{weight_told}
use Rattle.posix_ere.proofs.cell.Cells.weight.Goals as goal

pub returns : goal.returns
returns g c =
    weight_told c.self.inside.items.items c.args.self.now c.args.at c.index.result.now c.self.view_is c.index.ensures c.requires c.self.invariant
