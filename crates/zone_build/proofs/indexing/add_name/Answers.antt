use Rattle.zone_build.proofs.IndexNamesLemmas.{found_earlier, grown_same, inserted_grown, inserted_has, test_less}
use Rattle.zone_build.proofs.indexing.add_name.Goals as goal

pub returns-in-Some-clause-grown : goal.returns-in-Some-clause-grown
returns-in-Some-clause-grown c = grown_same c.args.records.now c.args.index.now c.requires.all

pub returns-in-Some-clause-passed : goal.returns-in-Some-clause-passed
returns-in-Some-clause-passed c = λ t.
    found_earlier c.args.records.now c.args.index.now c.key_of-key.result c.args.places.first c.args.name.now
    c.in-Some.found c.requires.all c.in-Some.ensures.there c.in-Some.ensures.meets
    (test_less c.in-Some.found.first c.args.places.first t)

pub returns-in_ok-insert-in-None-clause-grown : goal.returns-in_ok-insert-in-None-clause-grown
returns-in_ok-insert-in-None-clause-grown c =
    inserted_grown c.args.records.now c.args.index.now c.insert.new.self c.key_of-key.result c.args.places c.requires.all
    c.requires.places c.in_ok-insert-in-None.ensures

pub returns-in_ok-insert-in-None-clause-has : goal.returns-in_ok-insert-in-None-clause-has
returns-in_ok-insert-in-None-clause-has c =
    inserted_has c.args.records.now c.args.index.now c.insert.new.self c.key_of-key.result c.args.name.now c.args.places
    c.key_of-key.ensures c.requires.below c.in_ok-insert-in-None.ensures
