use Rattle.std.proofs.Common.{refl}
use Rattle.zone_build.specs.Indexing.{key_of, owner_at}
use Rattle.zone_build.proofs.FindLemmas.{set_renamed, set_lacking}
use Rattle.zone_build.proofs.find.set_of.Goals as goal

pub set_in-requires-clause-places : goal.set_in-requires-clause-places
set_in-requires-clause-places c = c.requires.index.places (key_of c.args.index.now.seed c.args.owner.now) c.in-Some.places c.in-Some.ensures.there

pub returns-in-Some : goal.returns-in-Some
returns-in-Some c =
    set_renamed c.args.records.now
    (owner_at c.args.records.now c.in-Some.places.first) c.args.owner.now c.args.kind c.set_in.result.now
    c.in-Some.ensures.meets c.set_in.ensures

pub returns-in-None : goal.returns-in-None
returns-in-None c =
    set_lacking c.args.records.now c.args.index.now c.args.owner.now c.args.kind _ c.requires.canonical
    c.requires.index c.in-None.ensures.none c.if-kind-eq6.false refl
