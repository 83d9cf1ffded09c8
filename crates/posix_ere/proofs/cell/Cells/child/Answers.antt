use Rattle.std.proofs.Common.{◌<◌, arith}
use Rattle.posix_ere.proofs.ToldLemmas.{children_told, child_told}
use Rattle.posix_ere.proofs.cell.Cells.child.Goals as goal

pub overflow_sub-count : goal.overflow_sub-count
overflow_sub-count g c =
    let e = children_told c.self.inside.items.items c.args.self.now c.args.at c.index.result.now c.self.view_is
    c.index.ensures c.requires.within c.self.invariant in
    let k : c.args.k < c.index.result.now.count = omega (arith, e, c.requires.kth) in
    omega arith

pub overflow_sub-count-2 : goal.overflow_sub-count-2
overflow_sub-count-2 g c =
    let e = children_told c.self.inside.items.items c.args.self.now c.args.at c.index.result.now c.self.view_is
    c.index.ensures c.requires.within c.self.invariant in
    let k : c.args.k < c.index.result.now.count = omega (arith, e, c.requires.kth) in
    omega arith

pub overflow_sub-result : goal.overflow_sub-result
overflow_sub-result g c =
    let e = children_told c.self.inside.items.items c.args.self.now c.args.at c.index.result.now c.self.view_is
    c.index.ensures c.requires.within c.self.invariant in
    let k : c.args.k < c.index.result.now.count = omega (arith, e, c.requires.kth) in
    (child_told c.self.inside.items.items c.args.self.now c.args.at c.index.result.now c.self.view_is c.index.ensures
    c.requires.within c.self.invariant c.args.k c.row.result.start c.row.result.weight k c.row.ensures).some

pub returns-clause-part : goal.returns-clause-part
returns-clause-part g c =
    let e = children_told c.self.inside.items.items c.args.self.now c.args.at c.index.result.now c.self.view_is
    c.index.ensures c.requires.within c.self.invariant in
    let k : c.args.k < c.index.result.now.count = omega (arith, e, c.requires.kth) in
    (child_told c.self.inside.items.items c.args.self.now c.args.at c.index.result.now c.self.view_is c.index.ensures
    c.requires.within c.self.invariant c.args.k c.row.result.start c.row.result.weight k c.row.ensures).part
