use Rattle.std.proofs.Common.{◌≡◌, ◌+◌, ◌-◌, ◌*◌, ◌≤◌, ◌∙◌, length, subst, sym, refl, arith}
use Rattle.posix_ere.specs.Nodes.{tree_at}
use Rattle.submatch.proofs.EndsOfRowsLemmas.{IsLoopedFrom, forward_column, looped_none, looped_next, looped_all, looped_closed}
use Rattle.submatch.proofs.CountsLemmas.{row_less, rows_within}
use Rattle.submatch.proofs.search.Search.looped.Goals as goal

pub loop-from-init : goal.loop-from-init
loop-from-init g c =
    let tree = tree_at c.args.self.now.ere.now c.args.child in (
      looped_none c.args.self.now.fold c.args.self.now.text.now tree c.args.least c.in_ok-column.column c.in_ok-column.ensures.long
          c.places-from.result c.places-from.ensures,
      subst (λ x. c.args.steps.now + x * (2 * (length c.args.self.now.text.now + 1)) ≤
          c.args.steps.now + (length c.args.self.now.text.now + 1) * (2 * (length c.args.self.now.text.now + 1)))
          (sym c.places-from.ensures) (omega arith),
      (λ e. refl),
    )

pub joined_row-row-requires-clause-forward : goal.joined_row-row-requires-clause-forward
joined_row-row-requires-clause-forward g c =
    forward_column c.args.self.now.fold c.args.self.now.text.now (tree_at c.args.self.now.ere.now c.args.child) c.args.part.now c.requires.part

pub joined_row-row-requires-clause-closed : goal.joined_row-row-requires-clause-closed
joined_row-row-requires-clause-closed g c = λ closed.
    let tree = tree_at c.args.self.now.ere.now c.args.child in
    let same : c.loop-from.from ≡ c.loop-from.from - 1 + 1 = omega arith in
    looped_closed c.args.self.now.fold c.args.self.now.text.now tree c.args.least (c.loop-from.from - 1 + 1) c.loop-from.column
    (subst (λ x. IsLoopedFrom c.args.self.now.fold c.args.self.now.text.now tree c.args.least x c.loop-from.column) same c.loop-from.invariant.0)

pub set-requires : goal.set-requires
set-requires g c = let long : length c.loop-from.column ≡ length c.args.self.now.text.now + 1 =
    (c.loop-from.invariant.0).long in let up : c.loop-from.from ≤ c.places-from.result = c.loop-from.auto.from
    in omega arith

pub loop-from-preserved : goal.loop-from-preserved
loop-from-preserved g c =
    let tree = tree_at c.args.self.now.ere.now c.args.child in
    let same : c.loop-from.from ≡ c.loop-from.from - 1 + 1 = omega arith in (
      looped_next c.args.self.now.fold c.args.self.now.text.now tree c.args.least (c.loop-from.from - 1) c.args.part.now c.loop-from.column
          c.set.new.self c.joined_row-row.result
          (let up : c.loop-from.from ≤ c.places-from.result = c.loop-from.auto.from
          in omega arith) c.requires.part c.set.ensures c.joined_row-row.ensures.row
          (subst (λ x. IsLoopedFrom c.args.self.now.fold c.args.self.now.text.now tree c.args.least x c.loop-from.column) same c.loop-from.invariant.0),
      row_less c.loop-from.steps c.joined_row-row.new.steps (c.loop-from.from - 1) (2 * (length c.args.self.now.text.now + 1))
          (c.args.steps.now + (length c.args.self.now.text.now + 1) * (2 * (length c.args.self.now.text.now + 1)))
          (subst (λ x. c.loop-from.steps + x * (2 * (length c.args.self.now.text.now + 1)) ≤
          c.args.steps.now + (length c.args.self.now.text.now + 1) * (2 * (length c.args.self.now.text.now + 1))) same c.loop-from.invariant.1)
          c.joined_row-row.ensures.most,
      (λ e. c.joined_row-row.ensures.idle e ∙ c.loop-from.invariant.2 e),
    )

pub returns-clause-column : goal.returns-clause-column
returns-clause-column g c =
    let tree = tree_at c.args.self.now.ere.now c.args.child in
    let none : c.loop-from.from ≡ 0 = omega arith in
    looped_all c.args.self.now.fold c.args.self.now.text.now tree c.args.least c.loop-from.column
    (subst (λ x. IsLoopedFrom c.args.self.now.fold c.args.self.now.text.now tree c.args.least x c.loop-from.column) none c.loop-from.invariant.0)

pub returns-clause-most : goal.returns-clause-most
returns-clause-most g c =
    rows_within c.args.steps.now c.loop-from.steps (length c.args.self.now.text.now + 1) (length c.args.self.now.text.now + 1) (omega arith)
    (omega (arith, c.loop-from.invariant.1))

pub returns-clause-idle : goal.returns-clause-idle
returns-clause-idle g c = c.loop-from.invariant.2
