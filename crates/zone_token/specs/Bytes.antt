-- The bytes that zone texts are made of (RFC 1035, section 5.1).
use Rattle.std.specs.Prelude.{ℕ, nat_le, List, [], ◌∷◌, length, position, unwrap_or, Bool, false, ◌&&◌, ◌||◌, ◌==◌, if◌then◌else◌}
use Rattle.std.specs.Prelude.{Option, Some, None, is_some}
pub use Rattle.enum_base.specs.Escapes.{backslash, escaped_byte}

abbrev pub tab : ℕ
tab = 9

abbrev pub line_feed : ℕ
line_feed = 10

abbrev pub carriage_return : ℕ
carriage_return = 13

abbrev pub space : ℕ
space = 32

abbrev pub quote : ℕ
quote = 34

abbrev pub dollar : ℕ
dollar = 36

abbrev pub opening : ℕ
opening = 40

abbrev pub closing : ℕ
closing = 41

abbrev pub semicolon : ℕ
semicolon = 59

abbrev pub at_sign : ℕ
at_sign = 64

-- a line feed stands at the front
abbrev pub is_line_end : List ℕ → Bool
is_line_end [] = false
is_line_end (byte ∷ rest) = byte == line_feed

-- a blank stands at the front: a space, a tab, or a carriage return before a line feed
abbrev pub is_blank : List ℕ → Bool
is_blank [] = false
is_blank (byte ∷ rest) = byte == space || byte == tab || (byte == carriage_return && is_line_end rest)

-- a byte that may stand outside quotes and comments: 0x21 to 0x7E
abbrev pub is_visible : ℕ → Bool
is_visible byte = nat_le 33 byte && nat_le byte 126

-- a byte that may stand inside quotes: 0x20 to 0x7E, 0x80 to 0xFF, and a tab
abbrev pub is_quotable : ℕ → Bool
is_quotable byte = byte == tab || (nat_le 32 byte && nat_le byte 126) || nat_le 128 byte

-- what stands after a backslash begins a well-formed escape
abbrev pub is_escape : List ℕ → Bool
is_escape text = is_some (escaped_byte text)

-- the byte that a text stands for at its front, and how many bytes it takes after the first
abbrev pub first_byte : List ℕ → Option (ℕ × ℕ)
first_byte [] = None
first_byte (byte ∷ rest) = if byte == backslash then escaped_byte rest else Some (byte, 0)

-- how many bytes stand at the front of a text before the first one that passes
abbrev pub size_until : (ℕ → Bool) → List ℕ → ℕ
size_until test text = unwrap_or (position test text) (length text)
