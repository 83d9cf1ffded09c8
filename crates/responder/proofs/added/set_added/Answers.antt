use Rattle.std.proofs.Common.{◌≤◌, ap, arith}
use Rattle.zone_build.specs.Zone.{weight}
use Rattle.zone_db.specs.declared.draft.Added.{Added}
use Rattle.zone_db.specs.declared.found.Found.TheVariants as f
use Rattle.responder.specs.Sizes.{size}
use Rattle.responder.proofs.added.set_added.Goals as goal

pub returns-clause-size : goal.returns-clause-size
returns-clause-size c =
    let ready : weight c.args.set.now ≤ 60_000 =
    c.found_is_ready.ensures c.args.zones.now c.args.question.now.name c.args.question.now.kind (f.Set c.args.set)
    c.zones-zones.ensures.set c.requires in
    omega (arith, ready, c.in_ok-added.ensures.size, ap (λ (x : Added). size x.authority) c.nothing-added.ensures)
