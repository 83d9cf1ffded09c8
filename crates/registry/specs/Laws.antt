-- Laws of commands.
use Rattle.std.specs.Prelude.{◌≡◌}
use Rattle.zone_build.specs.Zone.{Zone, IsValid}
use Rattle.registry.specs.Commands.{Command, IsDone, IsRefusal}
use Rattle.registry.specs.declared.fault.RegistryFault.{RegistryFault}

-- a command has one first refusal at most
abbrev pub CommandsHaveOneRefusal : Type 0
CommandsHaveOneRefusal =
    (command : Command) (zone : Zone) (one other : RegistryFault) → IsRefusal command zone one → IsRefusal command zone other → one ≡ other

-- a command makes one zone at most of a valid zone
abbrev pub CommandsMakeOneZone : Type 0
CommandsMakeOneZone =
    (command : Command) (old one other : Zone) → IsValid old → IsDone command old one → IsDone command old other → one ≡ other
