use Rattle.std.proofs.Common.{refl, subst}
use Rattle.submatch.specs.Rows.{Has, AddsPlaces}
use Rattle.submatch.proofs.RowLemmas.{joined_places, both}
use Rattle.submatch.proofs.row.Row.join.Goals as goal

pub returns : goal.returns
returns c = subst (λ x. AddsPlaces (Has x) c.args.self.now (both c.self.inside.words c.other.inside.words)) c.other.view_is
    (subst (λ x. AddsPlaces (Has c.other.inside.words) x (both c.self.inside.words c.other.inside.words)) c.self.view_is
    (joined_places c.self.inside.words c.other.inside.words (both c.self.inside.words c.other.inside.words) refl))
