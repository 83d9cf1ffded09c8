use Rattle.std.proofs.Common.{◌≡◌, ◌+◌, ◌-◌, ◌*◌, ◌<◌, ◌≤◌, ◌∙◌, length, slice_index, subst, ap, refl, arith}
use Rattle.posix_ere.specs.Parts.{parts_of, count_of, part}
use Rattle.posix_ere.specs.Nodes.{tree_at}
use Rattle.submatch.specs.Table.{PartValue, part_at, square}
use Rattle.submatch.proofs.CountsLemmas.{row_less, rows_done}
use Rattle.submatch.proofs.EndsOfRowsLemmas.{Pieces}
use Rattle.submatch.proofs.GrowingLemmas.{AreBuilt, grows_same, built_first}
use Rattle.submatch.proofs.MakingLemmas.{index_is, IsThere, inside_now, there_forward, branch_begun, pieces_next, built_branch}
use Rattle.submatch.proofs.search.Search.made_pieces.Goals as goal

pub loop-k-init : goal.loop-k-init
loop-k-init g c =
    let ts = parts_of (tree_at c.args.self.now.ere.now c.args.at) in
    let n = length c.args.self.now.text.now in
    let P = Pieces c.args.self.now.fold c.args.self.now.text.now ts in
    let count : length c.args.inside.items ≡ count_of ts = c.requires.inside.count in
    let some : 0 < length c.args.inside.items = c.requires.some in
    let last : c.len-last.result - 1 + 1 ≡ count_of ts = omega (arith, c.len-last.ensures) in
    let number : c.own-own.result ≡ (part_at c.args.table.now (_)).own =
    c.own-own.ensures ∙ ap (λ (p : PartValue). p.own) c.part.ensures ∙
    ap (λ x. (part_at c.args.table.now x).own)
    (index_is c.args.inside.items (c.len-last.result - 1) c.index.result.now
    (omega (arith, c.len-last.ensures)) c.index.ensures) in (
      built_first n P c.args.table.now (c.len-last.result - 1) c.args.table.now c.own-own.result c.new-rests.result.items c.push.new.self.items
          c.new-rests.ensures.items c.in_ok-push.ensures.items (grows_same c.args.table.now) refl
          (branch_begun c.args.self.now.fold c.args.self.now.text.now c.args.self.now.ere.now c.args.table.now c.args.inside.items ts (c.len-last.result - 1)
          c.own-own.result c.requires.parts c.requires.inside last number),
      omega arith,
    )

pub add_joined-requires-clause-part : goal.add_joined-requires-clause-part
add_joined-requires-clause-part g c =
    let ts = parts_of (tree_at c.args.self.now.ere.now c.args.at) in
    let count : length c.args.inside.items ≡ count_of ts = c.requires.inside.count in
    let some : 0 < length c.args.inside.items = c.requires.some in
    let last : c.len-last.result - 1 + 1 ≡ count_of ts = omega (arith, c.len-last.ensures) in
    let up : c.loop-k.k ≤ c.len-last.result - 1 = c.loop-k.auto.k in
    let is : c.index-in-loop-k.result.now ≡ slice_index c.args.inside.items (c.loop-k.k - 1) =
    index_is c.args.inside.items (c.loop-k.k - 1) c.index-in-loop-k.result.now (omega arith) c.index-in-loop-k.ensures in
    let there : IsThere c.args.self.now.fold c.args.self.now.text.now c.args.self.now.ere.now c.loop-k.table
    c.index-in-loop-k.result.now (part ts (c.loop-k.k - 1)) =
    inside_now c.args.self.now.fold c.args.self.now.text.now c.args.self.now.ere.now c.args.table.now c.loop-k.table c.args.inside.items ts (c.loop-k.k - 1)
    c.index-in-loop-k.result.now c.requires.parts c.requires.inside c.loop-k.invariant.0.grows (omega arith) is in
    there.number

pub add_joined-requires-clause-own : goal.add_joined-requires-clause-own
add_joined-requires-clause-own g c =
    let ts = parts_of (tree_at c.args.self.now.ere.now c.args.at) in
    let count : length c.args.inside.items ≡ count_of ts = c.requires.inside.count in
    let some : 0 < length c.args.inside.items = c.requires.some in
    let last : c.len-last.result - 1 + 1 ≡ count_of ts = omega (arith, c.len-last.ensures) in
    let up : c.loop-k.k ≤ c.len-last.result - 1 = c.loop-k.auto.k in
    let is : c.index-in-loop-k.result.now ≡ slice_index c.args.inside.items (c.loop-k.k - 1) =
    index_is c.args.inside.items (c.loop-k.k - 1) c.index-in-loop-k.result.now (omega arith) c.index-in-loop-k.ensures in
    let there : IsThere c.args.self.now.fold c.args.self.now.text.now c.args.self.now.ere.now c.loop-k.table
    c.index-in-loop-k.result.now (part ts (c.loop-k.k - 1)) =
    inside_now c.args.self.now.fold c.args.self.now.text.now c.args.self.now.ere.now c.args.table.now c.loop-k.table c.args.inside.items ts (c.loop-k.k - 1)
    c.index-in-loop-k.result.now c.requires.parts c.requires.inside c.loop-k.invariant.0.grows (omega arith) is in
    there.column.there

pub add_joined-requires-clause-forward : goal.add_joined-requires-clause-forward
add_joined-requires-clause-forward g c =
    let ts = parts_of (tree_at c.args.self.now.ere.now c.args.at) in
    let count : length c.args.inside.items ≡ count_of ts = c.requires.inside.count in
    let some : 0 < length c.args.inside.items = c.requires.some in
    let last : c.len-last.result - 1 + 1 ≡ count_of ts = omega (arith, c.len-last.ensures) in
    let up : c.loop-k.k ≤ c.len-last.result - 1 = c.loop-k.auto.k in
    let is : c.index-in-loop-k.result.now ≡ slice_index c.args.inside.items (c.loop-k.k - 1) =
    index_is c.args.inside.items (c.loop-k.k - 1) c.index-in-loop-k.result.now (omega arith) c.index-in-loop-k.ensures in
    let there : IsThere c.args.self.now.fold c.args.self.now.text.now c.args.self.now.ere.now c.loop-k.table
    c.index-in-loop-k.result.now (part ts (c.loop-k.k - 1)) =
    inside_now c.args.self.now.fold c.args.self.now.text.now c.args.self.now.ere.now c.args.table.now c.loop-k.table c.args.inside.items ts (c.loop-k.k - 1)
    c.index-in-loop-k.result.now c.requires.parts c.requires.inside c.loop-k.invariant.0.grows (omega arith) is in
    there_forward c.args.self.now.fold c.args.self.now.text.now c.args.self.now.ere.now c.loop-k.table
    c.index-in-loop-k.result.now (part ts (c.loop-k.k - 1)) there

pub loop-k-preserved : goal.loop-k-preserved
loop-k-preserved g c =
    let ts = parts_of (tree_at c.args.self.now.ere.now c.args.at) in
    let count : length c.args.inside.items ≡ count_of ts = c.requires.inside.count in
    let some : 0 < length c.args.inside.items = c.requires.some in
    let last : c.len-last.result - 1 + 1 ≡ count_of ts = omega (arith, c.len-last.ensures) in
    let up : c.loop-k.k ≤ c.len-last.result - 1 = c.loop-k.auto.k in
    let is : c.index-in-loop-k.result.now ≡ slice_index c.args.inside.items (c.loop-k.k - 1) =
    index_is c.args.inside.items (c.loop-k.k - 1) c.index-in-loop-k.result.now (omega arith) c.index-in-loop-k.ensures in
    let back : c.loop-k.k ≡ c.loop-k.k - 1 + 1 = omega arith in (
      pieces_next c.args.self.now.fold c.args.self.now.text.now c.args.self.now.ere.now c.args.table.now c.loop-k.table
          c.add_joined.new.table c.args.inside.items ts
          (c.len-last.result - 1) (c.loop-k.k - 1) c.index-in-loop-k.result.now c.loop-k.own c.in_ok-own.own c.loop-k.rests.items c.add_joined.new.rests.items
          c.requires.parts c.requires.inside last (omega arith) is
          (subst (λ x. AreBuilt (length c.args.self.now.text.now) (Pieces c.args.self.now.fold c.args.self.now.text.now ts) c.args.table.now c.loop-k.table
          (c.len-last.result - 1) x c.loop-k.own c.loop-k.rests.items) back c.loop-k.invariant.0) c.in_ok-own.ensures.added,
      row_less c.loop-k.steps c.add_joined.new.steps (c.loop-k.k - 1) (2 * square c.args.self.now.text.now)
          (c.args.steps.now + (c.len-last.result - 1) * (2 * square c.args.self.now.text.now))
          (subst (λ x. c.loop-k.steps + x * (2 * square c.args.self.now.text.now) ≤ c.args.steps.now +
          (c.len-last.result - 1) * (2 * square c.args.self.now.text.now)) back c.loop-k.invariant.1)
          c.add_joined.ensures.most,
    )

pub returns-clause-made : goal.returns-clause-made
returns-clause-made g c =
    let ts = parts_of (tree_at c.args.self.now.ere.now c.args.at) in
    let count : length c.args.inside.items ≡ count_of ts = c.requires.inside.count in
    let some : 0 < length c.args.inside.items = c.requires.some in
    let last : c.len-last.result - 1 + 1 ≡ count_of ts = omega (arith, c.len-last.ensures) in
    let none : c.loop-k.k ≡ 0 = omega arith in
    built_branch c.args.self.now.fold c.args.self.now.text.now c.args.self.now.ere.now c.args.table.now c.loop-k.table
    c.args.at c.loop-k.own (c.len-last.result - 1)
    c.loop-k.rests.items c.args.inside.items c.new.result c.new.ensures c.requires.known c.requires.kind c.requires.inside last
    (subst (λ x. AreBuilt (length c.args.self.now.text.now) (Pieces c.args.self.now.fold c.args.self.now.text.now ts) c.args.table.now c.loop-k.table
    (c.len-last.result - 1) x c.loop-k.own c.loop-k.rests.items) none c.loop-k.invariant.0)

pub returns-clause-most : goal.returns-clause-most
returns-clause-most g c =
    let count : length c.args.inside.items ≡ count_of (parts_of (tree_at c.args.self.now.ere.now c.args.at)) = c.requires.inside.count in
    let same : c.len-last.result - 1 ≡ count_of (parts_of (tree_at c.args.self.now.ere.now c.args.at)) - 1 = omega (arith, c.len-last.ensures) in
    subst (λ x. c.loop-k.steps ≤ c.args.steps.now + x * (2 * square c.args.self.now.text.now)) same
    (rows_done c.args.steps.now c.loop-k.steps c.loop-k.k (2 * square c.args.self.now.text.now) (c.len-last.result - 1) c.loop-k.invariant.1)

pub returns-in_err-own-clause-most : goal.returns-in_err-own-clause-most
returns-in_err-own-clause-most g c =
    let count : length c.args.inside.items ≡ count_of (parts_of (tree_at c.args.self.now.ere.now c.args.at)) = c.requires.inside.count in
    let same : c.len-last.result - 1 ≡ count_of (parts_of (tree_at c.args.self.now.ere.now c.args.at)) - 1 = omega (arith, c.len-last.ensures) in
    let back : c.loop-k.k ≡ c.loop-k.k - 1 + 1 = omega arith in
    subst (λ x. c.add_joined.new.steps ≤ c.args.steps.now + x * (2 * square c.args.self.now.text.now)) same
    (rows_done c.args.steps.now c.add_joined.new.steps (c.loop-k.k - 1) (2 * square c.args.self.now.text.now) (c.len-last.result - 1)
    (row_less c.loop-k.steps c.add_joined.new.steps (c.loop-k.k - 1) (2 * square c.args.self.now.text.now)
    (c.args.steps.now + (c.len-last.result - 1) * (2 * square c.args.self.now.text.now))
    (subst (λ x. c.loop-k.steps + x * (2 * square c.args.self.now.text.now) ≤ c.args.steps.now +
    (c.len-last.result - 1) * (2 * square c.args.self.now.text.now)) back c.loop-k.invariant.1)
    c.add_joined.ensures.most))
