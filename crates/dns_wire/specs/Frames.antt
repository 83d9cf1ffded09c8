-- The messages of a stream as they are read from its bytes. It serves the proofs alone.
use Rattle.std.specs.Prelude.{◌≡◌, ℕ, zero, suc, ◌+◌, ◌*◌, ◌≤◌, List, [], ◌∷◌, length, take, drop}
use Rattle.std.specs.List.{AllByRecursion}
use Rattle.dns_wire.specs.Framing.{FitsFrame, framed_all, Stream}

-- the messages that some bytes are, at most that many
unfoldable pub messages_within : ℕ → List ℕ → List (List ℕ)
messages_within zero bytes = []
messages_within (suc more) [] = []
messages_within (suc more) (high ∷ []) = []
messages_within (suc more) (high ∷ low ∷ rest) =
    take (256 * high + low) rest ∷ messages_within more (drop (256 * high + low) rest)

-- the messages that some bytes are
unfoldable pub messages_of : List ℕ → List (List ℕ)
messages_of bytes = messages_within (length bytes) bytes

-- the stream of some bytes, of which those up to a place were given
abbrev pub cut_at : List ℕ → ℕ → Stream
cut_at bytes place = record { given = messages_of (take place bytes); rest = drop place bytes }

-- these bytes are whole messages
pub record AreWhole (bytes : List ℕ) : Type 0 where
  pub parts : framed_all (messages_of bytes) ≡ bytes
  pub fit : AllByRecursion FitsFrame (messages_of bytes)

-- the bytes up to a place are whole messages
pub record IsFrontWhole (bytes : List ℕ) (place : ℕ) : Type 0 where
  pub inside : place ≤ length bytes
  pub front : AreWhole (take place bytes)
