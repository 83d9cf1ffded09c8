-- Character-strings: on the wire (RFC 1035, section 3.3), and in zone texts (section 5.1; what is escaped is this project's own).
use Rattle.std.specs.Prelude.{ℕ, List, [], ◌∷◌, ◌++◌, length, nat_le, ◌==◌, ◌||◌, ◌&&◌, if◌then◌else◌}
use Rattle.std.specs.List.{flat_map}
use Rattle.enum_base.specs.Escapes.{decimal_escape}

-- a character-string: a length byte, then the bytes (RFC 1035, 3.3)
abbrev pub string_wire : List ℕ → List ℕ
string_wire text = length text ∷ text

-- how a byte stands between quotes: `"` and `\` with a `\` before them, a byte from 0x20 to 0x7E as it is, any other as `\` and
-- its number in three digits
abbrev pub quoted_byte : ℕ → List ℕ
quoted_byte byte =
    if byte == 34 || byte == 92 then 92 ∷ byte ∷ []
    else if nat_le 32 byte && nat_le byte 126 then byte ∷ []
    else decimal_escape byte

-- a character-string in quotes
abbrev pub quoted : List ℕ → List ℕ
quoted text = 34 ∷ (flat_map quoted_byte text ++ 34 ∷ [])
