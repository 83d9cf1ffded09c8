use Rattle.std.proofs.Common.{◌∙◌, sym, ap, subst, ◌++◌, ◌∷◌, [], take}
use Rattle.std.specs.Option.{option_map}
use Rattle.std.proofs.lemmas.List.{take_all, take_more}
use Rattle.zone_db.specs.LookUp.{IsDeciding}
use Rattle.zone_db.proofs.FoundLemmas.{deciding_none, apart_pair}
use Rattle.zone_db.proofs.deciding.deciding_zone.Goals as goal

pub loop-zone-init : goal.loop-zone-init
loop-zone-init c = deciding_none c.args.name.now

pub loop-zone-preserved : goal.loop-zone-preserved
loop-zone-preserved c =
    subst (λ xs. IsDeciding xs c.args.name.now (option_map (λ z. z.now) c.better-best.result))
    (ap (λ y. take c.loop-zone.zone-index c.args.zones.now ++ y ∷ []) c.zone-item.is
    ∙ sym (take_more c.args.zones.now c.loop-zone.zone-index c.zone-item.result c.loop-zone-test.true))
    (c.better-best.ensures _
    (λ z k. apart_pair c.args.zones.now c.loop-zone.zone-index z c.zone-item.result c.requires.apart
    c.loop-zone-test.true c.zone-item.is k) c.loop-zone.invariant)

pub returns : goal.returns
returns c =
    subst (λ xs. IsDeciding xs c.args.name.now (option_map (λ z. z.now) c.loop-zone.best))
    (take_all c.loop-zone.zone-index c.args.zones.now c.loop-zone-test.false) c.loop-zone.invariant
