-- A plain reading of entries in turn. That it says and breaks exactly as `Zone` defines is proved.
use Rattle.std.specs.Prelude.{ℕ, ◌+◌, List, [], ◌∷◌, ◌++◌, length, Bool, ◌&&◌, ◌==◌, if◌then◌else◌, Result, Ok, Err}
use Rattle.dns_name.specs.Name.{Labels}
use Rattle.dns_wire.specs.Kinds.{internet, is_whole, kind_of}
use Rattle.dns_wire.specs.declared.record.Record as wire
use Rattle.zone_token.specs.Entries.{beginning, after, ends_entry}
use Rattle.zone_text.specs.Zone.{beginning_with, advanced, said_in, lines_in, entry_within}
use Rattle.zone_token.specs.declared.spot.Spot.{Spot}
use Rattle.zone_text.specs.declared.meaning.Standing.{Standing}
use Rattle.zone_text.specs.declared.meaning.Statement.{Statement}
use Rattle.zone_text.specs.declared.meaning.Meaning.{Meaning}
use Rattle.zone_token.specs.declared.fault.TextWhy.{TextWhy}
use Rattle.zone_text.specs.declared.fault.TextFault.{TextFault}

-- what was read of a text: what stands after its last entry, the line and the byte after it, and what was stated
pub record Read : Type 0 where
  pub standing : Standing
  pub line : ℕ
  pub size : ℕ
  pub said : List Statement

-- nothing was read
abbrev pub unread : Labels → Read
unread origin = record { standing = beginning_with origin; line = 1; size = 0; said = [] }

-- what was read after an entry of this meaning
abbrev pub read_after : Read → List ℕ → Meaning → Read
read_after read entry meaning = record {
  standing = advanced read.standing meaning;
  line = read.line + lines_in entry;
  size = read.size + length entry;
  said = read.said ++ said_in meaning;
}

-- a fault of the entry that begins on this line
abbrev pub on_line : {A B : Type 0} → ℕ → Result A TextWhy → (A → Result B TextFault) → Result B TextFault
on_line line (Ok x) next = next x
on_line line (Err why) next = Err (record { line = line; why = why })

-- one entry more
abbrev pub step : Read → List ℕ → Result Read TextFault
step read entry =
    on_line read.line (entry_within (read.size + length entry) (length read.said) read.standing entry) (λ meaning. Ok (read_after read entry meaning))

infixl 10 ◌>>=◌
abbrev pub ◌>>=◌ : {A B : Type 0} → Result A TextFault → (A → Result B TextFault) → Result B TextFault
(Ok x) >>= f = f x
(Err e) >>= f = Err e

-- entries in turn
abbrev pub run : Read → List (List ℕ) → Result Read TextFault
run read [] = Ok read
run read (entry ∷ entries) = step read entry >>= λ next. run next entries

-- what stands after the entries of a text that ended, and the spot to which it leads
abbrev pub rest_from : List ℕ → Spot → List ℕ → List ℕ × Spot
rest_from begun spot [] = (begun, spot)
rest_from begun spot (byte ∷ rest) =
    if ends_entry spot byte then rest_from [] beginning rest else rest_from (begun ++ byte ∷ []) (after spot byte) rest

abbrev pub rest_of : List ℕ → List ℕ × Spot
rest_of text = rest_from [] beginning text

-- what a record states
abbrev pub said_of : wire.Record → Statement
said_of one = record { owner = one.owner; ttl = one.ttl; content = one.content }

-- a record of class IN and the kind of its content, which is of the ten types
abbrev pub is_plain : wire.Record → Bool
is_plain one = one.kind == kind_of one.content && one.class == internet && is_whole one.content
