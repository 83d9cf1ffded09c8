-- What is found in zones is ready to be said.
use Rattle.std.proofs.Common.{◌≡◌, ℕ, List, [], ◌∷◌, ◌++◌, get_or, refl, sym, ap, subst, ◌∙◌, arith}
use Rattle.std.specs.Prelude.{Contains, IsTrue}
use Rattle.std.specs.List.{AllByRecursion}
use Rattle.std.proofs.lemmas.List.Elements.{Contains-append_left, Contains-append_right}
use Rattle.naptr_data.specs.Zones.{Labels}
use Rattle.naptr_data.proofs.CutLemmas.{Contains-head, Contains-after}
use Rattle.dns_wire.specs.Kinds.{kind_of, is_whole, ns, soa}
use Rattle.dns_wire.specs.declared.content.Content.{Content}
use Rattle.dns_wire.specs.declared.content.Content.TheVariants as content
use Rattle.dns_wire.specs.declared.content.Soa.{Soa}
use Rattle.dns_wire.specs.declared.record.Record.{Record}
use Rattle.zone_build.specs.Zone.{Zone, IsIn, IsSet, IsValid, weight}
use Rattle.zone_build.proofs.ListLemmas.{AllByRecursion-contains}
use Rattle.zone_build.proofs.RdataLemmas.{kind_is}
use Rattle.zone_db.specs.LookUp.{IsFound}
use Rattle.zone_db.specs.Sets.{AreZones}
use Rattle.zone_db.specs.declared.found.Found.{Found}
use Rattle.zone_db.specs.declared.found.Found.TheVariants as found
use Rattle.zone_db.proofs.OfferLemmas.{found_is_readable}
use Rattle.responder.specs.Ready.{IsAliasOf, IsReady, TellsServer, TellsSoa}

-- a list that is one alias, by its first record
pub alias_target : (set : List Record) (first : Record) (target target' : Labels) → IsAliasOf set target
    → first ≡ get_or set 0 first → first.content ≡ content.Cname target' → IsAliasOf set target'
alias_target set first target target' (one, is, tells) here told =
    let same : first ≡ one = here ∙ ap (λ s. get_or s 0 first) is in
    (one, is, ap (λ (r : Record). r.content) (sym same) ∙ told)

ns_content : (c : Content) → kind_of c ≡ ns → IsTrue (is_whole c) → (server : Labels) × (c ≡ content.Ns server)
ns_content (content.A address) e w = absurd (omega (arith, e))
ns_content (content.Ns server) e w = (server, refl)
ns_content (content.Cname target) e w = absurd (omega (arith, e))
ns_content (content.Soa the_soa) e w = absurd (omega (arith, e))
ns_content (content.Ptr name) e w = absurd (omega (arith, e))
ns_content (content.Mx preference exchange) e w = absurd (omega (arith, e))
ns_content (content.Txt texts) e w = absurd (omega (arith, e))
ns_content (content.Aaaa address) e w = absurd (omega (arith, e))
ns_content (content.Srv priority weight port target) e w = absurd (omega (arith, e))
ns_content (content.Naptr r) e w = absurd (omega (arith, e))
ns_content (content.Opt options) e w = absurd (cc)
ns_content (content.Raw bytes) e w = absurd (cc)

soa_content : (c : Content) → kind_of c ≡ soa → IsTrue (is_whole c) → (the_soa : Soa) × (c ≡ content.Soa the_soa)
soa_content (content.A address) e w = absurd (omega (arith, e))
soa_content (content.Ns server) e w = absurd (omega (arith, e))
soa_content (content.Cname target) e w = absurd (omega (arith, e))
soa_content (content.Soa the_soa) e w = (the_soa, refl)
soa_content (content.Ptr name) e w = absurd (omega (arith, e))
soa_content (content.Mx preference exchange) e w = absurd (omega (arith, e))
soa_content (content.Txt texts) e w = absurd (omega (arith, e))
soa_content (content.Aaaa address) e w = absurd (omega (arith, e))
soa_content (content.Srv priority weight port target) e w = absurd (omega (arith, e))
soa_content (content.Naptr r) e w = absurd (omega (arith, e))
soa_content (content.Opt options) e w = absurd (cc)
soa_content (content.Raw bytes) e w = absurd (cc)

-- a record of a valid zone has the kind of its content
kind_of_record : (zone : Zone) (one : Record) → IsValid zone → Contains zone.records one → one.kind ≡ kind_of one.content
kind_of_record zone one valid c = kind_is one.content one.kind one.class one.belongs (valid.plain one c).whole

tells_soa : (zone : Zone) (one : Record) → IsValid zone → Contains zone.records one → one.kind ≡ soa → TellsSoa one
tells_soa zone one valid c is = soa_content one.content (sym (kind_of_record zone one valid c) ∙ is) (valid.plain one c).whole

-- each of these records of a zone is an NS record
tell_servers : (zone : Zone) (owner : Labels) (set : List Record) → IsValid zone → ((one : Record) → Contains set one → Contains zone.records one)
    → AllByRecursion (IsIn owner ns) set → AllByRecursion TellsServer set
tell_servers zone owner [] valid among each = tt
tell_servers zone owner (one ∷ set) valid among each =
    let c = among one (Contains-head one set) in (
      ns_content one.content (sym (kind_of_record zone one valid c) ∙ each.0.1) (valid.plain one c).whole,
      tell_servers zone owner set valid (λ x d. among x (Contains-after one set x d)) each.1,
    )

pub in_set : (records : List Record) (owner : Labels) (kind : ℕ) (set : List Record) (one : Record) → IsSet records owner kind set
    → Contains set one → Contains records one
in_set records owner kind set one is c =
    subst (λ l. Contains l one) (sym is.parts)
    (Contains-append_right is.before (set ++ is.after) one (Contains-append_left set is.after one c))

pub valid_of : (zones : List Zone) (zone : Zone) → AreZones zones → Contains zones zone → IsValid zone
valid_of zones zone are c = AllByRecursion-contains IsValid zones zone are.each c

pub found_ready : (zones : List Zone) (name : Labels) (kind : ℕ) (f : Found) → AreZones zones → IsFound zones name kind f → IsReady f
found_ready zones name kind found.Outside are is = tt
found_ready zones name kind (found.Cut set) are (zone, owner, decides, highest, cut) =
    let valid = valid_of zones zone are decides.among in (
      tell_servers zone owner set.now valid (λ one c. in_set zone.records owner 2 set.now one cut c) cut.each,
      valid.small owner 2 set.now cut,
    )
found_ready zones name kind (found.Alias set) are is =
    let (one, target, only, tells) = found_is_readable zones name kind (found.Alias set) are is in (target, (one, only, tells))
found_ready zones name kind (found.Set set) are (zone, source, answered, served, not, is, one) =
    (valid_of zones zone are served.decides.among).small source answered set.now one
found_ready zones name kind (found.NoSet the_soa) are (zone, source, served, exists, not, none, is) =
    tells_soa zone the_soa.now (valid_of zones zone are served.decides.among) is.0 is.1
found_ready zones name kind (found.NoName the_soa) are (zone, source, served, not, is) =
    tells_soa zone the_soa.now (valid_of zones zone are served.decides.among) is.0 is.1
