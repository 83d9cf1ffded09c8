use Rattle.std.proofs.Common.{◌≡◌, ◌+◌, ◌≤◌, length, arith}
use Rattle.posix_ere.specs.Parts.{parts_of, part}
use Rattle.submatch.specs.Table.{tree_of, last_count}
use Rattle.submatch.proofs.CountsLemmas.{row_more}
use Rattle.submatch.proofs.IteratingLemmas.{has_gone_on, has_stopped, at_the_bound, turns_within}
use Rattle.submatch.proofs.search.Search.last_iteration.Goals as goal

pub loop-done-preserved : goal.loop-done-preserved
loop-done-preserved g c =
    let F = c.args.self.now.fold in
    let W = c.args.self.now.text.now in
    let tree = part (parts_of (tree_of c.args.self.now.ere.now c.args.table.now c.args.rep.number)) 0 in (
      has_gone_on F W tree c.args.rep.least c.args.rep.most c.args.over.from c.args.over.to c.loop-done.done c.loop-done.place c.in-Some.end c.loop-done.last
          c.in-Some.ensures.end c.loop-done.invariant.0,
      row_more c.args.steps.now c.loop-done.steps c.iteration_end.new.steps c.loop-done.done (length W + 2) c.loop-done.invariant.1 c.in-Some.ensures.most,
    )

pub returns-in_default-clause-groups : goal.returns-in_default-clause-groups
returns-in_default-clause-groups g c = has_stopped c.args.self.now.fold c.args.self.now.text.now
    (part (parts_of (tree_of c.args.self.now.ere.now c.args.table.now c.args.rep.number)) 0) c.args.rep.least c.args.rep.most c.args.over.from c.args.over.to
    c.loop-done.done c.loop-done.place c.loop-done.last c.in_default.ensures.end c.loop-done.invariant.0

pub returns-in_default-clause-most : goal.returns-in_default-clause-most
returns-in_default-clause-most g c = turns_within c.args.steps.now c.iteration_end.new.steps (c.loop-done.done + 1) c.iterations_bound-done-end.result
    (last_count c.args.rep.least c.args.rep.most + length c.args.self.now.text.now + 1) (length c.args.self.now.text.now)
    (let less : c.loop-done.done + 1 ≤ c.iterations_bound-done-end.result = omega (arith, c.loop-done-test.true)
    in less) c.iterations_bound-done-end.ensures.most
    (row_more c.args.steps.now c.loop-done.steps c.iteration_end.new.steps c.loop-done.done (length c.args.self.now.text.now + 2) c.loop-done.invariant.1
    c.in_default.ensures.most)

pub returns-clause-groups : goal.returns-clause-groups
returns-clause-groups g c =
    let F = c.args.self.now.fold in
    let W = c.args.self.now.text.now in
    let tree = part (parts_of (tree_of c.args.self.now.ere.now c.args.table.now c.args.rep.number)) 0 in
    let end : c.loop-done.done ≡ c.iterations_bound-done-end.result = omega (arith, c.loop-done-test.false) in
    has_stopped F W tree c.args.rep.least c.args.rep.most c.args.over.from c.args.over.to c.loop-done.done c.loop-done.place c.loop-done.last
    (at_the_bound F W tree c.args.rep.least c.args.rep.most c.args.over.from c.args.over.to c.loop-done.done c.iterations_bound-done-end.result
    c.loop-done.place c.loop-done.last end c.iterations_bound-done-end.ensures.some c.iterations_bound-done-end.ensures.none c.loop-done.invariant.0)
    c.loop-done.invariant.0

pub returns-clause-most : goal.returns-clause-most
returns-clause-most g c = turns_within c.args.steps.now c.loop-done.steps c.loop-done.done c.iterations_bound-done-end.result
    (last_count c.args.rep.least c.args.rep.most + length c.args.self.now.text.now + 1) (length c.args.self.now.text.now)
    c.loop-done.auto.done-end c.iterations_bound-done-end.ensures.most c.loop-done.invariant.1
