use Rattle.std.proofs.Common.{◌≡◌, ◌↔◌, ℕ, Some, IfOk, slice_get, sym, ◌∙◌, ap, subst}
use Rattle.naptr_data.specs.declared.offer.Offer.{Offer}
use Rattle.ddds_walk.specs.Clients.{meant}
use Rattle.ddds_walk.specs.Rules.{IsEdgeOf}
use Rattle.ddds_walk.specs.declared.edge.Edge.{Edge}
use Rattle.ddds_walk.proofs.domain_edges.edges_of.Goals as goal

pub returns-in-Rules-clause-edges : goal.returns-in-Rules-clause-edges
returns-in-Rules-clause-edges g c =
    let client = (meant g.P.DddsApp.meaning c.args.client.now) in
    let same : Offer.Rules c.as_slice.result.now ≡ c.args.offer.now = ap (λ v. Offer.Rules v) c.as_slice.ensures ∙ sym c.in-Rules.is in
    subst (λ (o : Offer). IfOk c.edges_of_rules.result
    (λ edges. (rank : ℕ) (edge : Edge) → (slice_get edges rank ≡ Some edge) ↔ IsEdgeOf client o rank edge)) same
    c.edges_of_rules.ensures.edges
