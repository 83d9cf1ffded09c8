-- What cuts entries and what reads tokens have in common.
use Rattle.std.specs.Prelude.{◌≡◌, ℕ, List, ◌∷◌, ◌++◌, take, drop, Bool, true, Ok}
use Rattle.zone_token.specs.Bytes.{line_feed}
use Rattle.zone_token.specs.Entries.{entries_from}
use Rattle.zone_token.specs.Tokens.{front_of}
use Rattle.zone_token.specs.declared.spot.Part.TheVariants.{Plain}
use Rattle.zone_token.specs.declared.spot.Spot.{Spot}
use Rattle.zone_token.specs.declared.token.Front.{Front}

-- plain text, inside parentheses or not
abbrev pub plain : Bool → Spot
plain inside = record { part = Plain; inside = inside }

-- an entry goes on over what the reader of tokens takes at the front of a text, and then stands in plain text again, inside
-- parentheses exactly where the reader does; a line feed outside parentheses is left out
abbrev pub EntriesGoOn : Type 0
EntriesGoOn =
    (begun : List ℕ) (inside : Bool) (byte : ℕ) (rest : List ℕ) (front : Front) → front_of inside (byte ∷ rest) ≡ Ok front
    → (byte ≡ line_feed → inside ≡ true)
    → entries_from begun (plain inside) (byte ∷ rest) ≡ entries_from (begun ++ byte ∷ take front.more rest) (plain front.inside) (drop front.more rest)
