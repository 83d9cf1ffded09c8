-- The bits of a header (RFC 1035, section 4.1.1), counted from the lowest, and numbers in a message.
use Rattle.std.specs.Prelude.{◌≡◌, ℕ, ◌+◌, ◌*◌, ◌/◌, ◌%◌, ◌^◌, ◌<◌, ◌⊎◌, List, length, slice_index_or, Bool, if◌then◌else◌}
use Rattle.dns_wire.specs.declared.message.Header.{Header}

-- QR: 1 in a reply
abbrev pub qr_of : ℕ → ℕ
qr_of bits = bits / 2 ^ 15 % 2

-- the opcode: what kind of question is asked, 0 for an ordinary one
abbrev pub opcode_of : ℕ → ℕ
opcode_of bits = bits / 2 ^ 11 % 2 ^ 4

-- TC: 1 where the message was cut short
abbrev pub tc_of : ℕ → ℕ
tc_of bits = bits / 2 ^ 9 % 2

-- RD: 1 where the server is asked to ask further servers
abbrev pub rd_of : ℕ → ℕ
rd_of bits = bits / 2 ^ 8 % 2

-- a bit that is set where something holds
abbrev pub bit : Bool → ℕ
bit holds = if holds then 1 else 0

-- the number of 16 bits at a place, the high byte before the low one
abbrev pub u16_at : List ℕ → ℕ → ℕ
u16_at bytes at = 256 * slice_index_or bytes at 0 + slice_index_or bytes (at + 1) 0

-- the number and the bits of a message
abbrev pub header_of : List ℕ → Header
header_of bytes = record { id = u16_at bytes 0; bits = u16_at bytes 2 }

-- nothing is said to what is no query: it has no whole header, or is itself a reply
abbrev pub IsSilent : List ℕ → Type 0
IsSilent query = (length query < 12) ⊎ (qr_of (header_of query).bits ≡ 1)
