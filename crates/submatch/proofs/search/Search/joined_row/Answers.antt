use Rattle.std.proofs.Common.{ℕ, ◌+◌, ◌≤◌, ◌<◌, length, arith}
use Rattle.submatch.specs.Rows.{Has}
use Rattle.submatch.proofs.ColumnLemmas.{row_gone, leads_inside}
use Rattle.submatch.proofs.ClosedLemmas.{one_is_closed}
use Rattle.submatch.proofs.search.Search.joined_row.Goals as goal

pub join_rows-requires-clause-row : goal.join_rows-requires-clause-row
join_rows-requires-clause-row g c = λ closed. one_is_closed c.args.rest.now c.args.joint.stops c.args.from c.one-row.result c.one-row.ensures

pub returns-clause-row : goal.returns-clause-row
returns-clause-row g c =
    row_gone c.args.joint.stops c.args.joint.empties c.args.part.now c.args.rest.now c.args.from c.row-first.result c.one-row.result c.join_rows.new.row
    c.join.new.self c.row-first.ensures.row (λ at h. (c.requires.forward c.args.from at (c.row-first.ensures.row.each at h)).0) c.one-row.ensures
    c.row_after-here.result c.row_after-here.ensures.row c.join_rows.ensures.row c.join.ensures

pub returns-clause-most : goal.returns-clause-most
returns-clause-most g c =
    let looked = c.join_rows.ensures.steps (length c.args.self.now.text.now + 1) (omega (arith, c.requires.within))
    (λ at h. let within : at ≤ length c.args.self.now.text.now = (c.requires.forward c.args.from at (c.row-first.ensures.row.each at h)).1 in omega arith) in
    omega (arith, looked, c.row-first.ensures.steps, c.row_after-here.ensures.most)

pub returns-clause-idle : goal.returns-clause-idle
returns-clause-idle g c = λ e.
    let none : (at : ℕ) → Has c.row-first.result at → ⊥ = λ at h.
    let some : c.args.from < length c.args.part.now = leads_inside c.args.part.now c.args.from at (c.row-first.ensures.row.each at h) in omega arith in
    let looked : c.join_rows.new.steps + (c.args.from + 1) ≤ c.row_after-here.new.steps + (c.args.from + 1) =
    c.join_rows.ensures.steps (c.args.from + 1) (omega arith) (λ at h. absurd (none at h)) in
    omega (arith, looked, c.join_rows.ensures.up, c.row-first.ensures.idle e, c.row_after-here.ensures.idle (none c.args.from))
