-- ASCII letters in one case (RFC 1035, section 2.3.3; RFC 4343).
use Rattle.std.specs.Prelude.{ℕ, List, map}
use Rattle.std.specs.Char.{to_ascii_lowercase}

-- A to Z made small, all else as it is
abbrev pub folded_byte : ℕ → ℕ
folded_byte b = to_ascii_lowercase b

-- each byte folded
abbrev pub folded : List ℕ → List ℕ
folded bytes = map folded_byte bytes
