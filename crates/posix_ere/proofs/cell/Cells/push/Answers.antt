use Rattle.std.proofs.Common.{arith}
use Rattle.posix_ere.proofs.ToldLemmas.{pushed}
use Rattle.posix_ere.proofs.cell.Cells.push.Goals as goal

pub invariant_of-self-2 : goal.invariant_of-self-2
invariant_of-self-2 g c =
    (pushed c.self.inside.items.items c.args.self.now c.push.new.self.items
    (record { node = c.args.node; marks = c.args.marks; count = c.args.count; start = c.row-row.result.start; weight = c.weight_of-weight.result })
    c.len.result c.row-row.result.weight c.self.view_is c.self.invariant c.in_ok-push.ensures.items (omega (arith, c.len.ensures, c.self.inside.items.ok.0))
    c.requires.enough c.requires.fits c.row-row.ensures c.weight_of-weight.ensures).are

pub returns-clause-stack : goal.returns-clause-stack
returns-clause-stack g c =
    (pushed c.self.inside.items.items c.args.self.now c.push.new.self.items
    (record { node = c.args.node; marks = c.args.marks; count = c.args.count; start = c.row-row.result.start; weight = c.weight_of-weight.result })
    c.len.result c.row-row.result.weight c.self.view_is c.self.invariant c.in_ok-push.ensures.items (omega (arith, c.len.ensures, c.self.inside.items.ok.0))
    c.requires.enough c.requires.fits c.row-row.ensures c.weight_of-weight.ensures).stack

pub returns-clause-tree : goal.returns-clause-tree
returns-clause-tree g c =
    (pushed c.self.inside.items.items c.args.self.now c.push.new.self.items
    (record { node = c.args.node; marks = c.args.marks; count = c.args.count; start = c.row-row.result.start; weight = c.weight_of-weight.result })
    c.len.result c.row-row.result.weight c.self.view_is c.self.invariant c.in_ok-push.ensures.items (omega (arith, c.len.ensures, c.self.inside.items.ok.0))
    c.requires.enough c.requires.fits c.row-row.ensures c.weight_of-weight.ensures).trees
