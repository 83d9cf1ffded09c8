use Rattle.std.proofs.Common.{ap, ◌∙◌}
use Rattle.zone_build.specs.Indexing.{key_of}
use Rattle.zone_build.proofs.IndexNamesLemmas.{owners_none, owners_more, owners_all}
use Rattle.zone_build.proofs.indexing.add_owners.Goals as goal

pub loop-first-init : goal.loop-first-init
loop-first-init c = owners_none c.args.records.now c.args.index.now c.requires.places

pub loop-first-preserved : goal.loop-first-preserved
loop-first-preserved c =
    owners_more c.args.records.now c.loop-first.first c.end_of-end.result c.key_of-key.result c.loop-first.index
    c.insert.new.self c.loop-first.invariant c.end_of-end.ensures
    (c.key_of-key.ensures ∙ ap (key_of c.loop-first.index.seed) c.owner_at.ensures) c.in_ok-insert.ensures

pub returns : goal.returns
returns c = owners_all c.args.records.now c.loop-first.first c.loop-first.index c.loop-first-test.false c.loop-first.invariant
