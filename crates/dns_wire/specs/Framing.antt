-- Messages on a stream (RFC 1035, section 4.2.2).
use Rattle.std.specs.Prelude.{◌≡◌, ℕ, ◌^◌, ◌<◌, List, [], ◌∷◌, ◌++◌, length}
use Rattle.std.specs.Int.{w16, to_be_bytes}
use Rattle.std.specs.List.{AllByRecursion, flat_map}
use Rattle.dns_name.specs.Name.{IsByte}

-- the length of a message fits two bytes
abbrev pub FitsFrame : List ℕ → Type 0
FitsFrame message = length message < 2 ^ 16

-- a message on a stream: its length in two bytes, the high byte first, and its bytes (RFC 1035, 4.2.2)
abbrev pub framed : List ℕ → List ℕ
framed message = to_be_bytes w16 (length message) ++ message

-- messages on a stream, one after another
abbrev pub framed_all : List (List ℕ) → List ℕ
framed_all messages = flat_map framed messages

-- a stream so far: the messages that were given, and the bytes after them
pub record Stream : Type 0 where
  pub given : List (List ℕ)
  pub rest : List ℕ

-- all its bytes
abbrev pub stream_bytes : Stream → List ℕ
stream_bytes stream = framed_all stream.given ++ stream.rest

-- a whole message stands at the front of some bytes, and others after it
pub record BeginsWith (bytes message after : List ℕ) : Type 0 where
  pub fits : FitsFrame message
  pub parts : bytes ≡ framed message ++ after

-- no whole message stands at the front of some bytes
abbrev pub IsNoWhole : List ℕ → Type 0
IsNoWhole bytes = (message after : List ℕ) → ¬ BeginsWith bytes message after

-- the message at the front of the rest was given
pub record GivesMessage (old new : Stream) (message : List ℕ) : Type 0 where
  pub first : BeginsWith old.rest message new.rest
  pub given : new.given ≡ old.given ++ message ∷ []

-- a stream is these whole messages and a rest that is no whole message
pub record IsCutInto (bytes : List ℕ) (messages : List (List ℕ)) (rest : List ℕ) : Type 0 where
  pub parts : bytes ≡ framed_all messages ++ rest
  pub fit : AllByRecursion FitsFrame messages
  pub end : IsNoWhole rest

-- a stream has such a cut
pub record HasCut (bytes : List ℕ) : Type 0 where
  pub messages : List (List ℕ)
  pub rest : List ℕ
  pub cut : IsCutInto bytes messages rest

-- every stream of bytes has one ..
abbrev pub SomeCut : Type 0
SomeCut = (bytes : List ℕ) → AllByRecursion IsByte bytes → HasCut bytes

-- .. and no other
abbrev pub OneCut : Type 0
OneCut =
    (bytes : List ℕ) (one other : List (List ℕ)) (rest rest' : List ℕ) → IsCutInto bytes one rest → IsCutInto bytes other rest' → (one ≡ other) × (rest ≡ rest')
