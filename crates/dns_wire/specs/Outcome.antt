-- How readings are told by calls (this project's own).
use Rattle.std.specs.Prelude.{◌≡◌, ◌⊎◌, Result, Ok, Err}
use Rattle.dns_wire.specs.declared.decode_fault.DecodeFault.{DecodeFault}
use Rattle.dns_wire.specs.declared.decode_fault.DecodeFault.TheVariants.{Memory}

-- a reading whose faults are told as others
abbrev pub ToldAs : {A F G : Type 0} → (F → G) → (Result A F → Type 0) → Result A G → Type 0
ToldAs {A} {F} {G} told One result =
    ((value : A) × One (Ok value) × (result ≡ Ok value)) ⊎ ((fault : F) × One (Err fault) × (result ≡ Err (told fault)))

-- a reading, or out of memory
abbrev pub OrMemory : {A : Type 0} → (Result A DecodeFault → Type 0) → Result A DecodeFault → Type 0
OrMemory One result = One result ⊎ (result ≡ Err Memory)
