-- Bytes of expressions.
use Rattle.std.specs.Prelude.{ℕ, Bool, not, ◌&&◌, ◌||◌, ◌==◌, nat_le}

-- a byte from the space to the tilde
abbrev pub is_printable : ℕ → Bool
is_printable b = nat_le 32 b && nat_le b 126

abbrev pub is_digit : ℕ → Bool
is_digit b = nat_le 48 b && nat_le b 57

abbrev pub is_upper : ℕ → Bool
is_upper b = nat_le 65 b && nat_le b 90

abbrev pub is_lower : ℕ → Bool
is_lower b = nat_le 97 b && nat_le b 122

abbrev pub is_alpha : ℕ → Bool
is_alpha b = is_upper b || is_lower b

abbrev pub is_alnum : ℕ → Bool
is_alnum b = is_alpha b || is_digit b

-- a byte that may follow a backslash
abbrev pub is_special : ℕ → Bool
is_special b = is_printable b && not (is_alnum b)

-- a byte that stands for itself: a printable byte other than `^ . [ $ ( ) | * + ? { \`
abbrev pub is_ordinary : ℕ → Bool
is_ordinary b =
    is_printable b && not (b == 94 || b == 46 || b == 91 || b == 36 || b == 40 || b == 41 || b == 124 || b == 42
    || b == 43 || b == 63 || b == 123 || b == 92)
