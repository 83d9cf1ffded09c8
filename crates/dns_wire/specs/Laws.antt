-- Laws of messages (this project's own).
use Rattle.std.specs.Prelude.{◌≡◌, ◌⊎◌, ◌≤◌, ℕ, List, length}
use Rattle.std.specs.List.{AllByRecursion}
use Rattle.dns_name.specs.Name.{IsByte}
use Rattle.dns_wire.specs.Message.{Spells, Breaks}
use Rattle.dns_wire.specs.Ranges.{IsMessage}
use Rattle.dns_wire.specs.Encoding.{message_wire}
use Rattle.dns_wire.specs.declared.message.Message.{Message}
use Rattle.dns_wire.specs.declared.decode_fault.DecodeFault.{DecodeFault}
use Rattle.dns_wire.specs.declared.decode_fault.DecodeFault.TheVariants.{Memory}

-- bytes spell at most one message ..
abbrev pub OneMessage : Type 0
OneMessage = (bytes : List ℕ) (one other : Message) → Spells bytes one → Spells bytes other → one ≡ other

-- .. or they have at most one fault, which is never that it is out of memory ..
abbrev pub OneBreak : Type 0
OneBreak = (bytes : List ℕ) (one other : DecodeFault) → Breaks bytes one → Breaks bytes other → one ≡ other

abbrev pub NoMemory : Type 0
NoMemory = (bytes : List ℕ) → ¬ Breaks bytes Memory

-- .. never both ..
abbrev pub NotBoth : Type 0
NotBoth = (bytes : List ℕ) (message : Message) (fault : DecodeFault) → Spells bytes message → ¬ Breaks bytes fault

-- .. and always one of them
abbrev pub MessageOrBreak : Type 0
MessageOrBreak =
    (bytes : List ℕ) → AllByRecursion IsByte bytes → ((message : Message) × Spells bytes message) ⊎ ((fault : DecodeFault) × Breaks bytes fault)

-- what is written for a message of at most 65,535 bytes, without pointers, spells that message
abbrev pub ReadsBack : Type 0
ReadsBack = (message : Message) → IsMessage message → length (message_wire message) ≤ 65_535 → Spells (message_wire message) message
