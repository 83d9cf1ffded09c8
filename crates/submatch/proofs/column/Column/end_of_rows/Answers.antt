use Rattle.std.proofs.Common.{◌≡◌, ◌<◌, length, ap, arith}
use Rattle.submatch.proofs.ColumnLemmas.{leads_inside}
use Rattle.submatch.proofs.column.Column.end_of_rows.Goals as goal

pub returns-clause-past : goal.returns-clause-past
returns-clause-past g c = λ i j small leads.
    let inside : i < length c.args.self.now = leads_inside c.args.self.now i j leads in
    let same : length c.self.inside.rows.items ≡ length c.args.self.now = ap length c.self.view_is in omega arith
