-- Addresses as text (RFC 1035, section 3.4.1; RFC 4291, section 2.2).
use Rattle.std.specs.Prelude.{ℕ, zero, suc, ◌+◌, ◌-◌, ◌*◌, List, [], ◌∷◌, ◌++◌, length, take, drop, position, replicate}
use Rattle.std.specs.Prelude.{nat_le, Bool, true, false, ◌&&◌, ◌==◌, if◌then◌else◌, Option, Some, None, option_map}
use Rattle.std.specs.Option.{option_or, option_map_or}
use Rattle.std.specs.Char.{is_ascii_digit}
use Rattle.std.specs.Result.{result_ok}
use Rattle.enum_base.specs.Decimal.{number_up_to}
use Rattle.enum_base.specs.Folding.{folded_byte}
use Rattle.zone_token.specs.Texts.{◌>>=◌}

abbrev pub dot : ℕ
dot = 46

abbrev pub colon : ℕ
colon = 58

-- what stands before the first such byte, and what stands after it
unfoldable pub cut : ℕ → List ℕ → Option (List ℕ × List ℕ)
cut byte text = option_map (λ at. (take at text, drop (at + 1) text)) (position (λ b. b == byte) text)

-- a decimal number of at most 255
unfoldable pub octet_of : List ℕ → Option ℕ
octet_of text = result_ok (number_up_to 255 text)

-- the four bytes of a dotted quad
unfoldable pub quad_of : List ℕ → Option (List ℕ)
quad_of text = do
  first ← cut dot text
  second ← cut dot first.1
  third ← cut dot second.1
  a ← octet_of first.0
  b ← octet_of second.0
  c ← octet_of third.0
  d ← octet_of third.1
  Some (a ∷ b ∷ c ∷ d ∷ [])

-- the value of a hexadecimal digit, in any case
abbrev pub hex_of_small : ℕ → Option ℕ
hex_of_small digit =
    if is_ascii_digit digit then Some (digit - 48)
    else if nat_le 97 digit && nat_le digit 102 then Some (digit - 87)
    else None

abbrev pub hex_of : ℕ → Option ℕ
hex_of digit = hex_of_small (folded_byte digit)

-- the two bytes of four hexadecimal digits
unfoldable pub digits_of : ℕ → ℕ → ℕ → ℕ → Option (List ℕ)
digits_of a b c d = do
  first ← hex_of a
  second ← hex_of b
  third ← hex_of c
  fourth ← hex_of d
  Some ((16 * first + second) ∷ (16 * third + fourth) ∷ [])

abbrev pub zero_digit : ℕ
zero_digit = 48

-- the two bytes of a group: one to four hexadecimal digits, with zeros before fewer than four
abbrev pub group_of : List ℕ → Option (List ℕ)
group_of [] = None
group_of (d ∷ []) = digits_of zero_digit zero_digit zero_digit d
group_of (c ∷ d ∷ []) = digits_of zero_digit zero_digit c d
group_of (b ∷ c ∷ d ∷ []) = digits_of zero_digit b c d
group_of (a ∷ b ∷ c ∷ d ∷ []) = digits_of a b c d
group_of (a ∷ b ∷ c ∷ d ∷ e ∷ rest) = None

-- the bytes of the last of some groups: a group, or a dotted quad where one may stand
unfoldable pub last_group : Bool → List ℕ → Option (List ℕ)
last_group quad text = option_or (group_of text) (if quad then quad_of text else None)

-- the bytes of one or more groups with colons between them, at most so many; the last may be a dotted quad
unfoldable pub groups_of : ℕ → Bool → List ℕ → Option (List ℕ)
groups_of zero quad text = None
groups_of (suc more) quad text =
    option_map_or (λ parts. group_of parts.0 >>= λ group. groups_of more quad parts.1 >>= λ groups. Some
    (group ++ groups)) (cut colon text) (last_group quad text)

-- the bytes of the groups on one side of two colons, which may be none
unfoldable pub side_of : Bool → List ℕ → Option (List ℕ)
side_of quad text = if length text == 0 then Some [] else groups_of 8 quad text

-- a colon stands at the front
abbrev pub is_colon : List ℕ → Bool
is_colon [] = false
is_colon (byte ∷ rest) = byte == colon

-- the place of the first two colons in a row, where some bytes stand before the text
abbrev pub double_from : ℕ → List ℕ → Option ℕ
double_from at [] = None
double_from at (byte ∷ rest) = if byte == colon && is_colon rest then Some at else double_from (at + 1) rest

-- what stands before the first two colons in a row, and what stands after them
unfoldable pub cut_double : List ℕ → Option (List ℕ × List ℕ)
cut_double text = option_map (λ at. (take at text, drop (at + 2) text)) (double_from 0 text)

-- sixteen bytes: those of both sides, with zeros for one or more groups between them
unfoldable pub filled : List ℕ → List ℕ → Option (List ℕ)
filled front back =
    if nat_le (length front + length back) 14 then Some (front ++ (replicate (16 - (length front + length back)) 0 ++ back)) else None

-- eight groups are sixteen bytes
abbrev pub if_whole : List ℕ → Option (List ℕ)
if_whole bytes = if length bytes == 16 then Some bytes else None

-- the sixteen bytes of an address: eight groups, or fewer around two colons
unfoldable pub address_of : List ℕ → Option (List ℕ)
address_of text =
    option_map_or (λ sides. side_of false sides.0 >>= λ front. side_of true sides.1 >>= λ back. filled front back)
    (cut_double text) (groups_of 8 true text >>= if_whole)
