-- The first refusal of a command.
use Rattle.std.proofs.Common.{inl, inr, ◌<◌, arith}
use Rattle.dns_name.specs.Name.{IsBelow}
use Rattle.naptr_data.specs.Zones.{Labels}
use Rattle.naptr_data.proofs.DecideLemmas.{Either, below_or_not}
use Rattle.naptr_rule.specs.declared.rule.Naptr.{Naptr}
use Rattle.service_field.specs.Applications.{Meaning}
use Rattle.dns_wire.specs.Kinds.{cname}
use Rattle.zone_build.specs.Zone.{Zone}
use Rattle.zone_db.specs.LookUp.{HasKind}
use Rattle.rule_check.specs.WellFormed.{IsFirstFault}
use Rattle.rule_check.specs.declared.fault.RuleFault.{RuleFault}
use Rattle.registry.specs.Commands.{HasNoRoom, HasRecord, HasRule, IsOutside, IsRefusal, Refuses, add, number, set_alias}
use Rattle.registry.specs.declared.fault.RegistryFault.{RegistryFault}
use Rattle.registry.specs.declared.fault.RegistryFault.TheVariants as fault

-- an owner that is not outside is at or below the apex
pub inside_of : (zone : Zone) (owner : Labels) → ¬ IsOutside zone owner → IsBelow owner zone.apex
inside_of zone owner not = by (below_or_not owner zone.apex)
  where
    by : Either (IsBelow owner zone.apex) → IsBelow owner zone.apex
    by (inl below) = below
    by (inr above) = absurd (not (inl above))

module _ (m : Meaning) (owner : Labels) (rule : Naptr) (zone : Zone) (formed : (why : RuleFault) → ¬ IsFirstFault m rule why)
    (inside : ¬ IsOutside zone owner) where
  before_duplicate : (e : RegistryFault) → number e < 3 → ¬ Refuses (add m owner rule) zone e
  before_duplicate (fault.IllFormed why) less h = formed why h
  before_duplicate fault.OutsideZone less h = inside h
  before_duplicate e less h = absurd (omega (arith, less))

  before_clash : ¬ HasRule zone owner rule → (e : RegistryFault) → number e < 5 → ¬ Refuses (add m owner rule) zone e
  before_clash new fault.Duplicate less h = new h
  before_clash new fault.Absent less h = h
  before_clash new e less h = before_duplicate e (omega (arith, less)) h

  before_large : ¬ HasRule zone owner rule → ¬ HasKind zone owner cname → (e : RegistryFault) → number e < 6 → ¬ Refuses (add m owner rule) zone e
  before_large new unaliased fault.AliasClash less h = unaliased h
  before_large new unaliased e less h = before_clash new e (omega (arith, less)) h

  pub add_duplicate : HasRule zone owner rule → IsRefusal (add m owner rule) zone fault.Duplicate
  add_duplicate there = record { here = there; first = before_duplicate }

  pub add_clash : ¬ HasRule zone owner rule → HasKind zone owner cname → IsRefusal (add m owner rule) zone fault.AliasClash
  add_clash new alias = record { here = alias; first = before_clash new }

  pub add_large : ¬ HasRule zone owner rule → ¬ HasKind zone owner cname → HasNoRoom zone owner rule
      → IsRefusal (add m owner rule) zone fault.SetTooLarge
  add_large new unaliased full = record { here = full; first = before_large new unaliased }

module _ (owner target : Labels) (zone : Zone) (inside : ¬ IsOutside zone owner) (unaliased : ¬ HasKind zone owner cname) where
  before_taken : (e : RegistryFault) → number e < 5 → ¬ Refuses (set_alias owner target) zone e
  before_taken (fault.IllFormed why) less h = h
  before_taken fault.OutsideZone less h = inside h
  before_taken fault.Duplicate less h = unaliased h
  before_taken fault.Absent less h = h
  before_taken e less h = absurd (omega (arith, less))

  pub alias_clash : HasRecord zone owner → IsRefusal (set_alias owner target) zone fault.AliasClash
  alias_clash there = record { here = there; first = before_taken }
