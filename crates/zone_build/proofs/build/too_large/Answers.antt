use Rattle.zone_build.proofs.FaultLemmas.{large_at_soa, large_after_soa, large_nowhere, canonical_some, canonical_rising, canonical_others}
use Rattle.zone_build.proofs.build.too_large.Goals as goal

pub split_at-requires : goal.split_at-requires
split_at-requires c = canonical_some c.args.kept.now c.requires

pub first_large-requires : goal.first_large-requires
first_large-requires c = canonical_rising c.args.kept.now c.split_at.result.0.now c.requires c.split_at.ensures.front

pub first_large-requires-2 : goal.first_large-requires-2
first_large-requires-2 c = canonical_others c.args.kept.now c.split_at.result.1.now c.requires c.split_at.ensures.back

pub returns-in-Some-clause-first : goal.returns-in-Some-clause-first
returns-in-Some-clause-first c =
    large_at_soa c.args.kept.now c.split_at.result.0.now c.in-Some.field-0 c.requires c.split_at.ensures.front c.in-Some.ensures.first

pub returns-in-Some-first_large-clause-first : goal.returns-in-Some-first_large-clause-first
returns-in-Some-first_large-clause-first c =
    large_after_soa c.args.kept.now c.split_at.result.0.now c.split_at.result.1.now c.in-Some-first_large.place
    c.requires c.split_at.ensures.front c.split_at.ensures.back c.in_default.ensures.first
    c.in-Some-first_large.ensures.first

pub returns-in-None-clause-first : goal.returns-in-None-clause-first
returns-in-None-clause-first c =
    large_nowhere c.args.kept.now c.split_at.result.0.now c.split_at.result.1.now c.requires c.split_at.ensures.front
    c.split_at.ensures.back c.in_default.ensures.first c.in-None.ensures.first
