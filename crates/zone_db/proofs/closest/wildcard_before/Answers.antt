use Rattle.std.proofs.Common.{◌∙◌, sym, ap}
use Rattle.dns_name.specs.Reading.{fitting}
use Rattle.zone_db.proofs.SeekLemmas.{wildcard_fits}
use Rattle.zone_db.proofs.closest.wildcard_before.Goals as goal

pub returns-in-Ok : goal.returns-in-Ok
returns-in-Ok c =
    let is = c.in-Ok.ensures ∙ ap fitting (sym (wildcard_fits c.args.zone.now c.args.name.now c.args.encloser.now c.wire-wire.ensures.name c.requires)) in
    cc

pub returns-in-Err : goal.returns-in-Err
returns-in-Err c =
    let is = c.in-Err.ensures ∙ ap fitting (sym (wildcard_fits c.args.zone.now c.args.name.now c.args.encloser.now c.wire-wire.ensures.name c.requires)) in
    absurd (cc)
