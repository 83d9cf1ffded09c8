use Rattle.std.proofs.Common.{ap, subst}
use Rattle.naptr_data.specs.declared.offer.Offer.TheVariants as offer
use Rattle.zone_db.specs.Offering.{IsReadable}
use Rattle.zone_db.proofs.offer.read_offer.Goals as goal

pub target_of-requires : goal.target_of-requires
target_of-requires c = subst IsReadable c.in-Alias.is c.requires

pub returns-in-Alias-clause-reads : goal.returns-in-Alias-clause-reads
returns-in-Alias-clause-reads c =
    let r = subst IsReadable c.in-Alias.is c.requires in
    rw c.in-Alias.is (r.0, r.1, r.2, r.3, ap offer.Alias (c.target_of.ensures r.0 r.1 r.2 r.3))
