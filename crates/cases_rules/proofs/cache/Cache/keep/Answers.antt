use Rattle.std.proofs.Common.{◌∷◌, ap}
use Rattle.cases_rules.specs.Names.{names_of}
use Rattle.cases_rules.specs.State.{Cached}
use Rattle.cases_rules.proofs.KeptLemmas.{kept_after, keeps}
use Rattle.cases_rules.proofs.cache.Cache.keep.Goals as goal

pub invariant_of-self : goal.invariant_of-self
invariant_of-self c = kept_after c.args.name.now c.fold-folded.result c.fold-folded.ensures (names_of c.self.inside.kept)
    (c.fold-folded.result ∷ names_of c.without.result) (names_of c.before-self-inside.result) c.self.inside.fetched
    c.fetched_after-self-inside.result c.self.invariant c.without.ensures c.before-self-inside.ensures c.fetched_after-self-inside.ensures.fetched

pub returns-clause-names : goal.returns-clause-names
returns-clause-names c = keeps c.args.name.now c.fold-folded.result c.fold-folded.ensures (names_of c.self.inside.kept) c.args.self.now.names
    (ap (λ (x : Cached). x.names) c.self.view_is) (c.fold-folded.result ∷ names_of c.without.result) (names_of c.before-self-inside.result)
    c.without.ensures c.before-self-inside.ensures

pub returns-clause-after : goal.returns-clause-after
returns-clause-after c = invariant_of-self c
