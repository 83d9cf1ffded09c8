use Rattle.std.proofs.Common.{List, ap, subst}
use Rattle.std.specs.Prelude.{IfOk}
use Rattle.dns_name.specs.Name.{folded_labels}
use Rattle.naptr_data.specs.Zones.{IsOffer}
use Rattle.zone_build.specs.Zone.{Zone}
use Rattle.zone_build.specs.Plain.{told}
use Rattle.zone_db.specs.Offering.{Asked}
use Rattle.zone_db.proofs.KeepLemmas.{keeps_none}
use Rattle.zone_db.proofs.source.ZoneSourceRuleSource.offer.Goals as goal

pub returns-clause-keeps : goal.returns-clause-keeps
returns-clause-keeps c = keeps_none (folded_labels c.args.name.now) c.offer_of.result

pub returns-clause-offered : goal.returns-clause-offered
returns-clause-offered c =
    subst (λ (zs : List Zone). IfOk c.offer_of.result (IsOffer (told zs) c.args.name.now))
    (ap (λ (a : Asked). a.zones) c.self.view_is) c.offer_of.ensures.offered
