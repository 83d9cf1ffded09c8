use Rattle.std.proofs.Common.{◌≡◌, ◌+◌, ◌-◌, ◌*◌, ◌<◌, ◌≤◌, ◌∙◌, length, slice_index, max, subst, sym, ap, arith}
use Rattle.std.proofs.Math.Dec.{ltb, leb}
use Rattle.std.proofs.lemmas.Bool.{ltb-true, lt-ltb, leb-true, le-leb}
use Rattle.posix_ere.specs.Parts.{parts_of, count_of, part}
use Rattle.posix_ere.specs.Nodes.{tree_at}
use Rattle.submatch.specs.Rows.{IsColumn}
use Rattle.submatch.specs.Table.{part_at, column_at, last_count, square}
use Rattle.submatch.proofs.CountsLemmas.{row_less, rows_done}
use Rattle.submatch.proofs.EndsOfRowsLemmas.{Iterations}
use Rattle.submatch.proofs.GrowingLemmas.{AreBuilt, column_added, built_first}
use Rattle.submatch.proofs.MakingLemmas.{index_is, one_inside, IsThere, inside_now, inside_same, there_forward}
use Rattle.submatch.proofs.MakingLemmas.{rep_begun, iterations_next, built_rep, rep_closed}
use Rattle.submatch.proofs.search.Search.made_rep.Goals as goal

pub loop-k-init : goal.loop-k-init
loop-k-init g c =
    let t = tree_at c.args.self.now.ere.now c.args.at in
    let one : length c.args.inside.items ≡ 1 =
    one_inside c.args.self.now.ere.now c.args.table.now c.args.at c.args.least c.args.most c.args.inside.items c.requires.kind c.requires.inside in
    let count : length c.args.inside.items ≡ count_of (parts_of t) = c.requires.inside.count in
    let is : c.index-part.result.now ≡ slice_index c.args.inside.items 0 =
    index_is c.args.inside.items 0 c.index-part.result.now (omega arith) c.index-part.ensures in
    let some : 0 < count_of (parts_of t) = omega arith in
    let same_tree = subst (λ x. tree_at c.args.self.now.ere.now (part_at c.args.table.now x).at
    ≡ part (parts_of t) 0) (sym is) (c.requires.inside.trees_are 0 some) in (
      subst (λ l. AreBuilt (length c.args.self.now.text.now)
          (Iterations c.args.self.now.fold c.args.self.now.text.now
          (part (parts_of t) 0) c.args.least c.args.most) c.args.table.now c.add_column.new.self l l c.in_ok-own.own c.push.new.self.items)
          (sym c.last_count-last.ensures)
          (built_first (length c.args.self.now.text.now)
          (Iterations c.args.self.now.fold c.args.self.now.text.now
          (part (parts_of t) 0) c.args.least c.args.most) c.args.table.now
          (last_count c.args.least c.args.most) c.add_column.new.self c.in_ok-own.own
          c.new-rests.result.items c.push.new.self.items c.new-rests.ensures.items c.in_ok-push.ensures.items
          (column_added c.args.table.now c.add_column.new.self c.in_ok-column.column c.in_ok-own.ensures.columns
          c.in_ok-own.ensures.parts) c.in_ok-own.ensures.parts
          (rep_begun c.args.self.now.fold c.args.self.now.text.now c.args.self.now.ere.now c.args.table.now
          c.add_column.new.self (part (parts_of t) 0) c.args.least c.args.most c.in_ok-own.own
          c.in_ok-column.column c.in_ok-own.ensures.number c.in_ok-own.ensures.columns
          (subst (λ u. IsColumn (length c.args.self.now.text.now) (Iterations c.args.self.now.fold c.args.self.now.text.now u c.args.least c.args.most
          (last_count c.args.least c.args.most)) c.in_ok-column.column) same_tree c.in_ok-column.ensures.column))),
      omega (arith, c.in_ok-column.ensures.most),
      (λ e. c.in_ok-column.ensures.idle (subst (λ x. length (column_at c.args.table.now (part_at c.args.table.now x).own) ≡ 0) (sym is) e)),
    )

pub last_column-requires-clause-there : goal.last_column-requires-clause-there
last_column-requires-clause-there g c =
    let t = tree_at c.args.self.now.ere.now c.args.at in
    let one : length c.args.inside.items ≡ 1 =
    one_inside c.args.self.now.ere.now c.args.table.now c.args.at c.args.least c.args.most c.args.inside.items c.requires.kind c.requires.inside in
    let count : length c.args.inside.items ≡ count_of (parts_of t) = c.requires.inside.count in
    let is : c.index-part.result.now ≡ slice_index c.args.inside.items 0 =
    index_is c.args.inside.items 0 c.index-part.result.now (omega arith) c.index-part.ensures in
    subst (λ x. x < length c.args.table.now.parts) (sym is) (c.requires.inside.before 0 (omega arith))

pub add_joined-requires-clause-part : goal.add_joined-requires-clause-part
add_joined-requires-clause-part g c =
    let t = tree_at c.args.self.now.ere.now c.args.at in
    let one : length c.args.inside.items ≡ 1 =
    one_inside c.args.self.now.ere.now c.args.table.now c.args.at c.args.least c.args.most c.args.inside.items c.requires.kind c.requires.inside in
    let count : length c.args.inside.items ≡ count_of (parts_of t) = c.requires.inside.count in
    let is : c.index-part.result.now ≡ slice_index c.args.inside.items 0 =
    index_is c.args.inside.items 0 c.index-part.result.now (omega arith) c.index-part.ensures in
    let there : IsThere c.args.self.now.fold c.args.self.now.text.now c.args.self.now.ere.now c.loop-k.table c.index-part.result.now (part (parts_of t) 0) =
    inside_now c.args.self.now.fold c.args.self.now.text.now c.args.self.now.ere.now c.args.table.now c.loop-k.table c.args.inside.items (parts_of t) 0
    c.index-part.result.now c.requires.parts c.requires.inside c.loop-k.invariant.0.grows (omega arith) is in
    there.number

pub add_joined-requires-clause-closed : goal.add_joined-requires-clause-closed
add_joined-requires-clause-closed g c = λ closed.
    let before = c.is_before_loop.ensures closed in
    let same : c.loop-k.k ≡ c.last_count-last.result = omega (arith, before.1) in
    rep_closed c.args.self.now.fold c.args.self.now.text.now c.args.self.now.ere.now c.args.table.now c.loop-k.table
    (part (parts_of
    (tree_at c.args.self.now.ere.now c.args.at)) 0) c.args.least c.args.most c.last_count-last.result c.loop-k.k c.loop-k.own c.loop-k.rests.items
    c.last_count-last.ensures same before.0 c.loop-k.invariant.0

pub add_joined-requires-clause-own : goal.add_joined-requires-clause-own
add_joined-requires-clause-own g c =
    let t = tree_at c.args.self.now.ere.now c.args.at in
    let one : length c.args.inside.items ≡ 1 =
    one_inside c.args.self.now.ere.now c.args.table.now c.args.at c.args.least c.args.most c.args.inside.items c.requires.kind c.requires.inside in
    let count : length c.args.inside.items ≡ count_of (parts_of t) = c.requires.inside.count in
    let is : c.index-part.result.now ≡ slice_index c.args.inside.items 0 =
    index_is c.args.inside.items 0 c.index-part.result.now (omega arith) c.index-part.ensures in
    let there : IsThere c.args.self.now.fold c.args.self.now.text.now c.args.self.now.ere.now c.loop-k.table c.index-part.result.now (part (parts_of t) 0) =
    inside_now c.args.self.now.fold c.args.self.now.text.now c.args.self.now.ere.now c.args.table.now c.loop-k.table c.args.inside.items (parts_of t) 0
    c.index-part.result.now c.requires.parts c.requires.inside c.loop-k.invariant.0.grows (omega arith) is in
    there.column.there

pub add_joined-requires-clause-forward : goal.add_joined-requires-clause-forward
add_joined-requires-clause-forward g c =
    let t = tree_at c.args.self.now.ere.now c.args.at in
    let one : length c.args.inside.items ≡ 1 =
    one_inside c.args.self.now.ere.now c.args.table.now c.args.at c.args.least c.args.most c.args.inside.items c.requires.kind c.requires.inside in
    let count : length c.args.inside.items ≡ count_of (parts_of t) = c.requires.inside.count in
    let is : c.index-part.result.now ≡ slice_index c.args.inside.items 0 =
    index_is c.args.inside.items 0 c.index-part.result.now (omega arith) c.index-part.ensures in
    let there : IsThere c.args.self.now.fold c.args.self.now.text.now c.args.self.now.ere.now c.loop-k.table c.index-part.result.now (part (parts_of t) 0) =
    inside_now c.args.self.now.fold c.args.self.now.text.now c.args.self.now.ere.now c.args.table.now c.loop-k.table c.args.inside.items (parts_of t) 0
    c.index-part.result.now c.requires.parts c.requires.inside c.loop-k.invariant.0.grows (omega arith) is in
    there_forward c.args.self.now.fold c.args.self.now.text.now c.args.self.now.ere.now c.loop-k.table c.index-part.result.now (part (parts_of t) 0) there

pub add_joined-requires-clause-rest : goal.add_joined-requires-clause-rest
add_joined-requires-clause-rest g c = c.loop-k.invariant.0.here.there

pub loop-k-preserved : goal.loop-k-preserved
loop-k-preserved g c =
    let t = tree_at c.args.self.now.ere.now c.args.at in
    let one : length c.args.inside.items ≡ 1 =
    one_inside c.args.self.now.ere.now c.args.table.now c.args.at c.args.least c.args.most c.args.inside.items c.requires.kind c.requires.inside in
    let count : length c.args.inside.items ≡ count_of (parts_of t) = c.requires.inside.count in
    let is : c.index-part.result.now ≡ slice_index c.args.inside.items 0 =
    index_is c.args.inside.items 0 c.index-part.result.now (omega arith) c.index-part.ensures in
    let back : c.loop-k.k ≡ c.loop-k.k - 1 + 1 = omega arith in
    let up : c.loop-k.k ≤ c.last_count-last.result = c.loop-k.auto.k in
    let within : c.loop-k.k - 1 + 1 ≤ last_count c.args.least c.args.most = subst (λ l. c.loop-k.k - 1 + 1 ≤ l) c.last_count-last.ensures (omega arith) in
    let bound : c.max.result ≡ max c.args.least 1 = c.max.ensures in (
      subst (λ l. AreBuilt (length c.args.self.now.text.now)
          (Iterations c.args.self.now.fold c.args.self.now.text.now
          (part (parts_of t) 0) c.args.least c.args.most) c.args.table.now c.add_joined.new.table l
          (c.loop-k.k - 1) c.in_ok-own-2.own c.add_joined.new.rests.items)
          (sym c.last_count-last.ensures)
          (iterations_next c.args.self.now.fold c.args.self.now.text.now c.args.self.now.ere.now c.args.table.now
          c.loop-k.table c.add_joined.new.table c.args.inside.items (parts_of t)
          c.args.least c.args.most (c.loop-k.k - 1) c.index-part.result.now c.loop-k.own c.in_ok-own-2.own
          (leb c.args.least (c.loop-k.k - 1)) (ltb (c.loop-k.k - 1) c.max.result) c.loop-k.rests.items c.add_joined.new.rests.items
          c.requires.parts c.requires.inside (omega arith) within is
          (le-leb c.args.least (c.loop-k.k - 1)) (leb-true c.args.least (c.loop-k.k - 1))
          (λ less. lt-ltb (c.loop-k.k - 1) c.max.result (omega arith))
          (λ passed. let less : c.loop-k.k - 1 < c.max.result = ltb-true (c.loop-k.k - 1) c.max.result passed in omega arith)
          (subst (λ l. AreBuilt (length c.args.self.now.text.now)
          (Iterations c.args.self.now.fold c.args.self.now.text.now
          (part (parts_of t) 0) c.args.least c.args.most) c.args.table.now c.loop-k.table l
          (c.loop-k.k - 1 + 1) c.loop-k.own c.loop-k.rests.items) c.last_count-last.ensures
          (subst (λ x. AreBuilt (length c.args.self.now.text.now)
          (Iterations c.args.self.now.fold c.args.self.now.text.now
          (part (parts_of t) 0) c.args.least c.args.most) c.args.table.now c.loop-k.table c.last_count-last.result
          x c.loop-k.own c.loop-k.rests.items) back c.loop-k.invariant.0))
          c.in_ok-own-2.ensures.added),
      row_less c.loop-k.steps c.add_joined.new.steps (c.loop-k.k - 1) (2 * square c.args.self.now.text.now)
          (c.args.steps.now + (2 * square c.args.self.now.text.now) + c.last_count-last.result *
          (2 * square c.args.self.now.text.now))
          (subst (λ x. c.loop-k.steps + x * (2 * square c.args.self.now.text.now) ≤ c.args.steps.now +
          (2 * square c.args.self.now.text.now) + c.last_count-last.result *
          (2 * square c.args.self.now.text.now)) back c.loop-k.invariant.1)
          c.add_joined.ensures.most,
      (λ e. c.add_joined.ensures.idle
          (ap length
          (inside_same c.args.self.now.fold c.args.self.now.text.now c.args.self.now.ere.now c.args.table.now
          c.loop-k.table c.args.inside.items (parts_of t) 0
          c.index-part.result.now c.requires.parts c.requires.inside c.loop-k.invariant.0.grows (omega arith) is) ∙ e) ∙ c.loop-k.invariant.2 e),
    )

pub returns-clause-made : goal.returns-clause-made
returns-clause-made g c =
    let t = tree_at c.args.self.now.ere.now c.args.at in
    let none : c.loop-k.k ≡ 0 = omega arith in
    built_rep c.args.self.now.fold c.args.self.now.text.now c.args.self.now.ere.now c.args.table.now c.loop-k.table
    c.args.at c.loop-k.own c.args.least c.args.most
    c.loop-k.rests.items c.args.inside.items c.new.result c.new.ensures c.requires.known c.requires.kind c.requires.inside
    (subst (λ l. AreBuilt (length c.args.self.now.text.now)
    (Iterations c.args.self.now.fold c.args.self.now.text.now
    (part (parts_of t) 0) c.args.least c.args.most) c.args.table.now c.loop-k.table l 0 c.loop-k.own c.loop-k.rests.items) c.last_count-last.ensures
    (subst (λ x. AreBuilt (length c.args.self.now.text.now)
    (Iterations c.args.self.now.fold c.args.self.now.text.now
    (part (parts_of t) 0) c.args.least c.args.most) c.args.table.now c.loop-k.table c.last_count-last.result x
    c.loop-k.own c.loop-k.rests.items) none c.loop-k.invariant.0))

pub returns-clause-most : goal.returns-clause-most
returns-clause-most g c =
    subst (λ l. c.loop-k.steps ≤ c.args.steps.now + (2 * square c.args.self.now.text.now) + l * (2 * square c.args.self.now.text.now)) c.last_count-last.ensures
    (rows_done (c.args.steps.now + (2 * square c.args.self.now.text.now)) c.loop-k.steps c.loop-k.k
    (2 * square c.args.self.now.text.now) c.last_count-last.result c.loop-k.invariant.1)

pub returns-clause-idle : goal.returns-clause-idle
returns-clause-idle g c = c.loop-k.invariant.2

pub returns-in_err-own-2-clause-most : goal.returns-in_err-own-2-clause-most
returns-in_err-own-2-clause-most g c =
    let back : c.loop-k.k ≡ c.loop-k.k - 1 + 1 = omega arith in
    subst (λ l. c.add_joined.new.steps ≤ c.args.steps.now + (2 * square c.args.self.now.text.now) + l *
    (2 * square c.args.self.now.text.now)) c.last_count-last.ensures
    (rows_done (c.args.steps.now + (2 * square c.args.self.now.text.now)) c.add_joined.new.steps (c.loop-k.k - 1)
    (2 * square c.args.self.now.text.now) c.last_count-last.result
    (row_less c.loop-k.steps c.add_joined.new.steps (c.loop-k.k - 1) (2 * square c.args.self.now.text.now)
    (c.args.steps.now + (2 * square c.args.self.now.text.now) + c.last_count-last.result *
    (2 * square c.args.self.now.text.now))
    (subst (λ x. c.loop-k.steps + x * (2 * square c.args.self.now.text.now) ≤ c.args.steps.now +
    (2 * square c.args.self.now.text.now) + c.last_count-last.result *
    (2 * square c.args.self.now.text.now)) back c.loop-k.invariant.1)
    c.add_joined.ensures.most))

pub returns-in_err-own-2-clause-idle : goal.returns-in_err-own-2-clause-idle
returns-in_err-own-2-clause-idle g c =
    let t = tree_at c.args.self.now.ere.now c.args.at in
    let one : length c.args.inside.items ≡ 1 =
    one_inside c.args.self.now.ere.now c.args.table.now c.args.at c.args.least c.args.most c.args.inside.items c.requires.kind c.requires.inside in
    let count : length c.args.inside.items ≡ count_of (parts_of t) = c.requires.inside.count in
    let is : c.index-part.result.now ≡ slice_index c.args.inside.items 0 =
    index_is c.args.inside.items 0 c.index-part.result.now (omega arith) c.index-part.ensures in
    λ e. c.add_joined.ensures.idle
    (ap length
    (inside_same c.args.self.now.fold c.args.self.now.text.now c.args.self.now.ere.now c.args.table.now c.loop-k.table c.args.inside.items (parts_of t) 0
    c.index-part.result.now c.requires.parts c.requires.inside c.loop-k.invariant.0.grows (omega arith) is) ∙ e) ∙ c.loop-k.invariant.2 e

pub returns-in_err-column-clause-idle : goal.returns-in_err-column-clause-idle
returns-in_err-column-clause-idle g c =
    let t = tree_at c.args.self.now.ere.now c.args.at in
    let one : length c.args.inside.items ≡ 1 =
    one_inside c.args.self.now.ere.now c.args.table.now c.args.at c.args.least c.args.most c.args.inside.items c.requires.kind c.requires.inside in
    let count : length c.args.inside.items ≡ count_of (parts_of t) = c.requires.inside.count in
    let is : c.index-part.result.now ≡ slice_index c.args.inside.items 0 =
    index_is c.args.inside.items 0 c.index-part.result.now (omega arith) c.index-part.ensures in
    λ e. c.last_column.ensures.idle (subst (λ x. length (column_at c.args.table.now (part_at c.args.table.now x).own) ≡ 0) (sym is) e)

pub returns-in_err-own-clause-idle : goal.returns-in_err-own-clause-idle
returns-in_err-own-clause-idle g c =
    let t = tree_at c.args.self.now.ere.now c.args.at in
    let one : length c.args.inside.items ≡ 1 =
    one_inside c.args.self.now.ere.now c.args.table.now c.args.at c.args.least c.args.most c.args.inside.items c.requires.kind c.requires.inside in
    let count : length c.args.inside.items ≡ count_of (parts_of t) = c.requires.inside.count in
    let is : c.index-part.result.now ≡ slice_index c.args.inside.items 0 =
    index_is c.args.inside.items 0 c.index-part.result.now (omega arith) c.index-part.ensures in
    λ e. c.in_ok-column.ensures.idle (subst (λ x. length (column_at c.args.table.now (part_at c.args.table.now x).own) ≡ 0) (sym is) e)

pub returns-in_err-push-clause-idle : goal.returns-in_err-push-clause-idle
returns-in_err-push-clause-idle g c =
    let t = tree_at c.args.self.now.ere.now c.args.at in
    let one : length c.args.inside.items ≡ 1 =
    one_inside c.args.self.now.ere.now c.args.table.now c.args.at c.args.least c.args.most c.args.inside.items c.requires.kind c.requires.inside in
    let count : length c.args.inside.items ≡ count_of (parts_of t) = c.requires.inside.count in
    let is : c.index-part.result.now ≡ slice_index c.args.inside.items 0 =
    index_is c.args.inside.items 0 c.index-part.result.now (omega arith) c.index-part.ensures in
    λ e. c.in_ok-column.ensures.idle (subst (λ x. length (column_at c.args.table.now (part_at c.args.table.now x).own) ≡ 0) (sym is) e)
