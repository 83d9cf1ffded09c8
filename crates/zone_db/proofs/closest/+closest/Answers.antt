use Rattle.std.proofs.Common.{inl, refl, arith}
use Rattle.naptr_data.specs.Zones.{Exists}
use Rattle.zone_build.specs.Plain.{plain_of}
use Rattle.zone_db.proofs.SeekLemmas.{above_inside, root_exists, shorter_above, closest_further}
use Rattle.zone_db.proofs.closest.+closest.Goals as goal

pub closest-requires : goal.closest-requires
closest-requires t c =
    let s = shorter_above c.args.name.now c.in-Some.above c.in-Some.ensures in
    let not : ¬ Exists (plain_of c.args.zone.now) c.args.name.now = λ e. absurd (cc (c.if-exists.ensures.1 e)) in
    (omega (arith, s, c.decreases), above_inside c.args.zone.now c.args.name.now c.in-Some.above c.in-Some.ensures not c.requires)

pub returns-then-exists : goal.returns-then-exists
returns-then-exists t c = (c.if-exists.ensures.0 refl, inl refl)

pub returns-in-Some : goal.returns-in-Some
returns-in-Some t c =
    closest_further c.args.zone.now c.args.name.now c.in-Some.above c.closest.result c.in-Some.ensures
    (λ e. absurd (cc (c.if-exists.ensures.1 e))) c.requires c.closest.ensures

pub returns-in-None : goal.returns-in-None
returns-in-None t c = (root_exists c.args.zone.now c.args.name.now c.in-None.ensures c.requires, inl refl)
