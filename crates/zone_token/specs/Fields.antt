-- The fields of an entry (RFC 1035, section 5.1).
use Rattle.std.specs.Prelude.{ℕ, nat_le, List, [], ◌∷◌, length, slice_get, Bool, if◌then◌else◌, bytes_eq, Option, Some, None, Result, Ok, Err}
use Rattle.enum_base.specs.Folding.{folded}
use Rattle.dns_name.specs.Reading.{name_of}
use Rattle.zone_token.specs.Bytes.{at_sign}
use Rattle.zone_token.specs.Token.{Token}
use Rattle.zone_token.specs.declared.fault.TextWhy.{TextWhy}
use Rattle.zone_token.specs.declared.fault.TextWhy.TheVariants.{BadName, BadData}

-- a text is this word, in any case
unfoldable pub is_word : List ℕ → List ℕ → Bool
is_word text word = bytes_eq (folded text) (folded word)

-- a value, or this fault in place of another
abbrev pub or_fault : {A E : Type 0} → Result A E → TextWhy → Result A TextWhy
or_fault (Ok value) why = Ok value
or_fault (Err other) why = Err why

-- a token is the unescaped sign of the origin
abbrev pub is_origin : Token → Bool
is_origin token = bytes_eq token.text (at_sign ∷ [])

-- the name that a token stands for under an origin
unfoldable pub name_in : List (List ℕ) → Token → Result (List (List ℕ)) TextWhy
name_in origin token =
    if token.quoted then Err BadName
    else if is_origin token then Ok origin
    else or_fault (name_of token.text (Some origin)) BadName

-- the name at a place, or the fault of a missing one
abbrev pub name_or : TextWhy → List (List ℕ) → Option Token → Result (List (List ℕ)) TextWhy
name_or missing origin None = Err missing
name_or missing origin (Some token) = name_in origin token

unfoldable pub name_at : TextWhy → List (List ℕ) → List Token → ℕ → Result (List (List ℕ)) TextWhy
name_at missing origin tokens place = name_or missing origin (slice_get tokens place)

-- the text of a bare token
abbrev pub bare_in : Option Token → Option (List ℕ)
bare_in None = None
bare_in (Some token) = if token.quoted then None else Some token.text

-- the text of the bare token at a place
unfoldable pub bare_at : List Token → ℕ → Option (List ℕ)
bare_at tokens place = bare_in (slice_get tokens place)

-- no token stands at a place or after it
unfoldable pub ends_at : List Token → ℕ → Result (Unit {0}) TextWhy
ends_at tokens place = if nat_le (length tokens) place then Ok tt else Err BadData
