use Rattle.std.proofs.Common.{◌≡◌, ◌<◌, ◌∙◌, length, subst, sym, ap, arith}
use Rattle.posix_ere.specs.Parts.{parts_of, weight}
use Rattle.posix_ere.specs.Nodes.{tree_at}
use Rattle.submatch.specs.Table.{PartValue, IsPart, IsShare, column_at, part_at, square}
use Rattle.submatch.proofs.GrowingLemmas.{grows_along, part_added, more_parts, kept_parts, new_part}
use Rattle.submatch.proofs.CompilingLemmas.{share_within, compiled_none, compiled_next, spent_so_far, all_inside, all_shared}
use Rattle.submatch.proofs.search.Search.+compile.Goals as goal

pub compile-returns-clause-parts : goal.compile-returns-clause-parts
compile-returns-clause-parts g t c =
    let same : length c.compile_inside.new.table.parts ≡ length c.made.new.table.parts = ap length (sym c.in_ok-part.ensures.made.parts) in
    more_parts c.args.self.now.fold c.args.self.now.text.now c.args.self.now.ere.now c.made.new.table
    c.add_part.new.self c.in_ok-part.part c.add_part.ensures.columns c.in_ok-number.ensures.parts
    (subst (λ n. IsPart c.args.self.now.fold c.args.self.now.text.now c.args.self.now.ere.now c.made.new.table n
    c.in_ok-part.part) same c.in_ok-part.ensures.made.part)
    (kept_parts c.compile_inside.new.table c.made.new.table c.in_ok-part.ensures.made.grows c.args.self.now.fold
    c.args.self.now.text.now c.args.self.now.ere.now c.in_ok-part.ensures.made.parts c.in_ok-inside.ensures.parts)

pub compile-returns-clause-grows : goal.compile-returns-clause-grows
compile-returns-clause-grows g t c =
    grows_along c.args.table.now c.compile_inside.new.table c.add_part.new.self c.in_ok-inside.ensures.grows
    (grows_along c.compile_inside.new.table c.made.new.table c.add_part.new.self c.in_ok-part.ensures.made.grows
    (part_added c.made.new.table c.add_part.new.self c.in_ok-part.part c.in_ok-number.ensures.columns c.in_ok-number.ensures.parts))

pub compile-returns-clause-there : goal.compile-returns-clause-there
compile-returns-clause-there g t c = subst (λ x. x < length c.add_part.new.self.parts) (sym c.in_ok-number.ensures.number)
    (new_part c.made.new.table c.add_part.new.self c.in_ok-part.part c.in_ok-number.ensures.parts).0

pub compile-returns-clause-number : goal.compile-returns-clause-number
compile-returns-clause-number g t c = ap (λ x. (part_at c.add_part.new.self x).at) c.in_ok-number.ensures.number ∙
    ap (λ (p : PartValue). p.at)
    ((new_part c.made.new.table c.add_part.new.self c.in_ok-part.part c.in_ok-number.ensures.parts).1)
    ∙ c.in_ok-part.ensures.made.number

pub compile-returns-clause-most : goal.compile-returns-clause-most
compile-returns-clause-most g t c = c.made.ensures.most c.args.steps.now c.in_ok-inside.ensures.share

pub compile-returns-clause-share : goal.compile-returns-clause-share
compile-returns-clause-share g t c =
    let share = c.in_ok-part.ensures.share c.args.steps.now c.in_ok-inside.ensures.share in
    let rows : column_at c.add_part.new.self (part_at c.add_part.new.self c.in_ok-number.number).own ≡ column_at c.made.new.table c.in_ok-part.part.own =
    ap (λ x. column_at c.add_part.new.self (part_at c.add_part.new.self x).own) c.in_ok-number.ensures.number ∙
    ap (λ (p : PartValue). column_at c.add_part.new.self p.own)
    ((new_part c.made.new.table c.add_part.new.self c.in_ok-part.part c.in_ok-number.ensures.parts).1) ∙
    ((part_added c.made.new.table c.add_part.new.self c.in_ok-part.part c.in_ok-number.ensures.columns c.in_ok-number.ensures.parts).columns
    c.in_ok-part.part.own c.in_ok-part.ensures.made.part.own.there).1 in
    subst (λ r. IsShare (0 < length r) 1 (weight (tree_at c.args.self.now.ere.now c.args.at))
    (square c.args.self.now.text.now) c.args.steps.now c.made.new.steps) (sym rows) share

pub compile-returns-in_err-inside-clause-most : goal.compile-returns-in_err-inside-clause-most
compile-returns-in_err-inside-clause-most g t c =
    share_within (tree_at c.args.self.now.ere.now c.args.at)
    (square c.args.self.now.text.now) c.args.steps.now c.compile_inside.new.steps c.compile_inside.ensures.most

pub compile-returns-in_err-part-clause-most : goal.compile-returns-in_err-part-clause-most
compile-returns-in_err-part-clause-most g t c = c.made.ensures.most c.args.steps.now c.in_ok-inside.ensures.share

pub compile-returns-in_err-number-clause-most : goal.compile-returns-in_err-number-clause-most
compile-returns-in_err-number-clause-most g t c = c.made.ensures.most c.args.steps.now c.in_ok-inside.ensures.share

pub compile_inside-loop-k-init : goal.compile_inside-loop-k-init
compile_inside-loop-k-init g t c =
    compiled_none c.args.self.now.fold c.args.self.now.text.now c.args.self.now.ere.now
    (parts_of (tree_at c.args.self.now.ere.now c.args.at))
    (square c.args.self.now.text.now) c.args.table.now c.new-inside.result.items c.args.steps.now
    c.new-inside.ensures.items c.requires.parts

pub compile_inside-loop-k-preserved : goal.compile_inside-loop-k-preserved
compile_inside-loop-k-preserved g t c =
    compiled_next c.args.self.now.fold c.args.self.now.text.now c.args.self.now.ere.now
    (parts_of (tree_at c.args.self.now.ere.now c.args.at))
    (square c.args.self.now.text.now) c.args.table.now c.loop-k.table c.compile.new.table
    c.loop-k.inside.items c.push.new.self.items c.loop-k.k c.in_ok-part.part c.child.result c.args.steps.now c.loop-k.steps c.compile.new.steps
    (subst (λ n. c.loop-k.k < n) c.children-k-end.ensures c.loop-k-test.true) c.in_ok-part.ensures.parts c.in_ok-part.ensures.grows c.in_ok-part.ensures.there
    c.in_ok-part.ensures.number c.child.ensures.part c.in_ok-push.ensures.items c.in_ok-part.ensures.share c.loop-k.invariant

pub compile_inside-returns-in_err-part-clause-most : goal.compile_inside-returns-in_err-part-clause-most
compile_inside-returns-in_err-part-clause-most g t c =
    spent_so_far c.args.self.now.fold c.args.self.now.text.now c.args.self.now.ere.now
    (parts_of (tree_at c.args.self.now.ere.now c.args.at))
    (square c.args.self.now.text.now) c.loop-k.k c.child.result c.args.steps.now c.loop-k.steps c.compile.new.steps
    (subst (λ n. c.loop-k.k < n) c.children-k-end.ensures c.loop-k-test.true) c.child.ensures.part c.loop-k.invariant.share.most c.compile.ensures.most

pub compile_inside-returns-in_err-push-clause-most : goal.compile_inside-returns-in_err-push-clause-most
compile_inside-returns-in_err-push-clause-most g t c =
    spent_so_far c.args.self.now.fold c.args.self.now.text.now c.args.self.now.ere.now
    (parts_of (tree_at c.args.self.now.ere.now c.args.at))
    (square c.args.self.now.text.now) c.loop-k.k c.child.result c.args.steps.now c.loop-k.steps c.compile.new.steps
    (subst (λ n. c.loop-k.k < n) c.children-k-end.ensures c.loop-k-test.true) c.child.ensures.part c.loop-k.invariant.share.most c.compile.ensures.most

pub compile_inside-returns-clause-parts : goal.compile_inside-returns-clause-parts
compile_inside-returns-clause-parts g t c = c.loop-k.invariant.parts

pub compile_inside-returns-clause-grows : goal.compile_inside-returns-clause-grows
compile_inside-returns-clause-grows g t c = c.loop-k.invariant.grows

pub compile_inside-returns-clause-inside : goal.compile_inside-returns-clause-inside
compile_inside-returns-clause-inside g t c =
    let e : c.loop-k.k ≡ c.children-k-end.result = omega arith in
    all_inside c.args.self.now.fold c.args.self.now.text.now c.args.self.now.ere.now
    (parts_of (tree_at c.args.self.now.ere.now c.args.at))
    (square c.args.self.now.text.now) c.args.table.now c.loop-k.table c.loop-k.inside.items c.loop-k.k
    c.args.steps.now c.loop-k.steps (e ∙ c.children-k-end.ensures) c.loop-k.invariant

pub compile_inside-returns-clause-most : goal.compile_inside-returns-clause-most
compile_inside-returns-clause-most g t c =
    let e : c.loop-k.k ≡ c.children-k-end.result = omega arith in
    (all_shared c.args.self.now.fold c.args.self.now.text.now c.args.self.now.ere.now
    (parts_of (tree_at c.args.self.now.ere.now c.args.at))
    (square c.args.self.now.text.now) c.args.table.now c.loop-k.table c.loop-k.inside.items c.loop-k.k
    c.args.steps.now c.loop-k.steps (e ∙ c.children-k-end.ensures) c.loop-k.invariant).most

pub compile_inside-returns-clause-share : goal.compile_inside-returns-clause-share
compile_inside-returns-clause-share g t c =
    let e : c.loop-k.k ≡ c.children-k-end.result = omega arith in
    all_shared c.args.self.now.fold c.args.self.now.text.now c.args.self.now.ere.now
    (parts_of (tree_at c.args.self.now.ere.now c.args.at))
    (square c.args.self.now.text.now) c.args.table.now c.loop-k.table c.loop-k.inside.items c.loop-k.k
    c.args.steps.now c.loop-k.steps (e ∙ c.children-k-end.ensures) c.loop-k.invariant
