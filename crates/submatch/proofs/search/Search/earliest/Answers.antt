use Rattle.std.proofs.Common.{◌≡◌, ◌+◌, ◌-◌, ◌<◌, ◌≤◌, subst, sym, arith, true}
use Rattle.posix_ere.specs.Parts.{parts_of, count_of}
use Rattle.submatch.specs.Parses.{IsParse}
use Rattle.submatch.specs.Ends.{Reaches}
use Rattle.submatch.specs.Table.{tree_of}
use Rattle.submatch.proofs.RebuildingLemmas.{some_branch, alt_reaches, not_this_branch, last_reaches}
use Rattle.submatch.proofs.search.Search.earliest.Goals as goal

pub overflow_sub-last : goal.overflow_sub-last
overflow_sub-last g c =
    let some : 1 ≤ count_of (parts_of (tree_of c.args.self.now.ere.now c.args.table.now c.args.number)) =
    some_branch c.args.self.now.fold c.args.self.now.text.now (tree_of c.args.self.now.ere.now c.args.table.now c.args.number) c.args.over.from c.args.over.to
    c.requires.kind c.requires.reached in subst (λ x. 1 ≤ x) (sym c.count_inside-last.ensures) some

pub loop-k-preserved : goal.loop-k-preserved
loop-k-preserved g c =
    let F = c.args.self.now.fold in
    let W = c.args.self.now.text.now in
    record {
      looked = omega (arith, c.loop-k.invariant.looked, c.row-row.ensures.steps);
      earlier = not_this_branch F W (parts_of (tree_of c.args.self.now.ere.now c.args.table.now c.args.number)) c.args.over.from c.args.over.to c.loop-k.k
          (λ h. let r = subst (λ x. Reaches (IsParse F W x) c.args.over.from c.args.over.to) (sym c.inside-branch.ensures.tree) h in
          let e : c.has.result ≡ true =
          c.has.ensures.1 (c.row-row.ensures.row.all c.args.over.to
          (c.own.ensures.column.all c.args.over.from c.args.over.to c.requires.within r)) in
          cc (e, c.if-has.false))
          c.loop-k.invariant.earlier;
    }

pub returns-then-has-clause-first : goal.returns-then-has-clause-first
returns-then-has-clause-first g c = record {
  number = c.loop-k.k;
  among = (let up : c.loop-k.k < c.count_inside-last.result = omega (arith, c.loop-k-test.true) in subst (λ x. c.loop-k.k < x) c.count_inside-last.ensures up);
  is = c.inside-branch.ensures.tree;
  earlier = c.loop-k.invariant.earlier;
}

pub returns-then-has-clause-most : goal.returns-then-has-clause-most
returns-then-has-clause-most g c = subst (λ x. c.row-row.new.steps + 1 ≤ c.args.steps.now + x) c.count_inside-last.ensures
    (omega (arith, c.loop-k.invariant.looked, c.row-row.ensures.steps, c.loop-k-test.true))

pub returns-then-has-clause-reached : goal.returns-then-has-clause-reached
returns-then-has-clause-reached g c =
    c.own.ensures.column.each c.args.over.from c.args.over.to
    (c.row-row.ensures.row.each c.args.over.to (c.has.ensures.0 c.if-has.true))

pub inside-requires-clause-kth : goal.inside-requires-clause-kth
inside-requires-clause-kth g c =
    let some : 1 ≤ count_of (parts_of (tree_of c.args.self.now.ere.now c.args.table.now c.args.number)) =
    some_branch c.args.self.now.fold c.args.self.now.text.now (tree_of c.args.self.now.ere.now c.args.table.now c.args.number) c.args.over.from c.args.over.to
    c.requires.kind c.requires.reached in omega (arith, c.count_inside-last.ensures)

pub returns-clause-reached : goal.returns-clause-reached
returns-clause-reached g c =
    let F = c.args.self.now.fold in
    let W = c.args.self.now.text.now in
    let tree = tree_of c.args.self.now.ere.now c.args.table.now c.args.number in
    let some : 1 ≤ count_of (parts_of tree) = some_branch F W tree c.args.over.from c.args.over.to c.requires.kind c.requires.reached in
    let b = alt_reaches F W tree c.args.over.from c.args.over.to c.requires.kind c.requires.reached in
    subst (λ x. Reaches (IsParse F W x) c.args.over.from c.args.over.to) (sym c.inside.ensures.tree)
    (last_reaches F W (parts_of tree) c.args.over.from c.args.over.to (c.count_inside-last.result - 1) (omega (arith, c.count_inside-last.ensures))
    (λ d b less. c.loop-k.invariant.earlier d b (omega (arith, less, c.loop-k-test.false))) b.0 b.1 b.2)

pub returns-clause-first : goal.returns-clause-first
returns-clause-first g c =
    let some : 1 ≤ count_of (parts_of (tree_of c.args.self.now.ere.now c.args.table.now c.args.number)) =
    some_branch c.args.self.now.fold c.args.self.now.text.now (tree_of c.args.self.now.ere.now c.args.table.now c.args.number) c.args.over.from c.args.over.to
    c.requires.kind c.requires.reached in
    record {
      number = c.count_inside-last.result - 1;
      among = omega (arith, c.count_inside-last.ensures);
      is = c.inside.ensures.tree;
      earlier = λ d b less. c.loop-k.invariant.earlier d b (omega (arith, less, c.loop-k-test.false));
    }

pub returns-clause-most : goal.returns-clause-most
returns-clause-most g c =
    let some : 1 ≤ count_of (parts_of (tree_of c.args.self.now.ere.now c.args.table.now c.args.number)) =
    some_branch c.args.self.now.fold c.args.self.now.text.now (tree_of c.args.self.now.ere.now c.args.table.now c.args.number) c.args.over.from c.args.over.to
    c.requires.kind c.requires.reached in omega (arith, c.count_inside-last.ensures, c.loop-k.invariant.looked, c.loop-k.auto.k-end)
