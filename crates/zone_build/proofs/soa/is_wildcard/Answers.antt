use Rattle.std.proofs.Common.{sym, ap, ◌∙◌}
use Rattle.zone_build.specs.Building.{begins_wildcard}
use Rattle.zone_build.proofs.SoaLemmas.{wildcard_of, wildcard_begins}
use Rattle.zone_build.proofs.soa.is_wildcard.Goals as goal

pub returns : goal.returns
returns c =
    let is = c.begins_wildcard.ensures ∙ ap begins_wildcard c.wire.ensures.value in
    (λ t. wildcard_of c.args.name.now c.wire.ensures.name (sym is ∙ t), λ w. is ∙ wildcard_begins c.args.name.now w)
