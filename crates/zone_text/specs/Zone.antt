-- What a zone text says, and where it breaks (RFC 1035, section 5.1; the limits are this project's own).
use Rattle.std.specs.Prelude.{◌≡◌, ◌⊎◌, ⊤, IsTrue, ℕ, ◌+◌, ◌≤◌, nat_lt, List, [], ◌∷◌, ◌++◌, length, count_by, ◌==◌, if◌then◌else◌, Some, None, Result, Ok, Err}
use Rattle.std.specs.List.{flat_map}
use Rattle.dns_name.specs.Name.{Labels}
use Rattle.dns_wire.specs.Kinds.{internet, is_whole, kind_of}
use Rattle.dns_wire.specs.declared.record.Record as wire
use Rattle.zone_token.specs.Bytes.{line_feed}
use Rattle.zone_token.specs.Entries.{entries_of, ended_of}
use Rattle.zone_token.specs.Tokens.{◌>>=◌}
use Rattle.zone_text.specs.Meaning.{entry_of}
use Rattle.zone_text.specs.declared.meaning.Standing.{Standing}
use Rattle.zone_text.specs.declared.meaning.Statement.{Statement}
use Rattle.zone_text.specs.declared.meaning.Meaning.{Meaning}
use Rattle.zone_text.specs.declared.meaning.Meaning.TheVariants.{Nothing, Origin, DefaultTtl, Record}
use Rattle.zone_token.specs.declared.fault.TextWhy.{TextWhy}
use Rattle.zone_token.specs.declared.fault.TextWhy.TheVariants.{TooMany, TooLarge}

-- the most bytes of a text, and the most records
abbrev pub most_bytes : ℕ
most_bytes = 67_108_864

abbrev pub most_records : ℕ
most_records = 100_000

-- what stands before the first entry
abbrev pub beginning_with : Labels → Standing
beginning_with origin = record { origin = origin; owner = None; default_ttl = None; last_ttl = None }

-- what stands after an entry of this meaning
abbrev pub advanced : Standing → Meaning → Standing
advanced standing Nothing = standing
advanced standing (Origin name) = record standing { origin = name }
advanced standing (DefaultTtl ttl) = record standing { default_ttl = Some ttl }
advanced standing (Record said) = record standing { owner = Some said.owner; last_ttl = Some said.ttl }

-- what stands after entries of these meanings
abbrev pub standing_after : Standing → List Meaning → Standing
standing_after standing [] = standing
standing_after standing (meaning ∷ meanings) = standing_after (advanced standing meaning) meanings

-- entries have these meanings, one after another
abbrev pub Mean : Standing → List (List ℕ) → List Meaning → Type 0
Mean standing [] [] = ⊤
Mean standing (entry ∷ entries) (meaning ∷ meanings) =
    (entry_of standing entry ≡ Ok meaning) × Mean (advanced standing meaning) entries meanings
Mean standing [] (meaning ∷ meanings) = ⊥
Mean standing (entry ∷ entries) [] = ⊥

-- what entries of these meanings state
abbrev pub said_in : Meaning → List Statement
said_in Nothing = []
said_in (Origin name) = []
said_in (DefaultTtl ttl) = []
said_in (Record said) = said ∷ []

abbrev pub statements_of : List Meaning → List Statement
statements_of meanings = flat_map said_in meanings

-- the bytes of entries
abbrev pub bytes_of : List (List ℕ) → List ℕ
bytes_of entries = flat_map (λ entry. entry) entries

-- how many line feeds there are
abbrev pub lines_in : List ℕ → ℕ
lines_in bytes = count_by (λ byte. byte == line_feed) bytes

-- a record of class IN and of one of the ten types is what an entry states
pub record Is (record_of : wire.Record) (said : Statement) : Type 0 where
  pub owner : record_of.owner ≡ said.owner
  pub kind : record_of.kind ≡ kind_of said.content
  pub class : record_of.class ≡ internet
  pub ttl : record_of.ttl ≡ said.ttl
  pub content : record_of.content ≡ said.content
  pub whole : IsTrue (is_whole record_of.content)

-- records are what entries state, one after another
abbrev pub Are : List wire.Record → List Statement → Type 0
Are [] [] = ⊤
Are (one ∷ records) (said ∷ statements) = Is one said × Are records statements
Are [] (said ∷ statements) = ⊥
Are (one ∷ records) [] = ⊥

-- what an entry means that is not after the last byte and states no record too many, or its fault
abbrev pub unless_full : ℕ → Meaning → Result Meaning TextWhy
unless_full number Nothing = Ok Nothing
unless_full number (Origin name) = Ok (Origin name)
unless_full number (DefaultTtl ttl) = Ok (DefaultTtl ttl)
unless_full number (Record said) = if number == most_records then Err TooMany else Ok (Record said)

abbrev pub entry_within : ℕ → ℕ → Standing → List ℕ → Result Meaning TextWhy
entry_within size number standing entry =
    if nat_lt most_bytes size then Err TooLarge else entry_of standing entry >>= unless_full number

-- entries say these records in turn, and none is broken
pub record Say (origin : Labels) (entries : List (List ℕ)) (statements : List Statement) : Type 0 where
  pub meanings : List Meaning
  pub mean : Mean (beginning_with origin) entries meanings
  pub stated : statements ≡ statements_of meanings
  pub size : length (bytes_of entries) ≤ most_bytes
  pub number : length statements ≤ most_records

-- the first broken entry begins on this line, counted from 1, and has this fault
pub record Break (origin : Labels) (entries : List (List ℕ)) (line : ℕ) (why : TextWhy) : Type 0 where
  pub front : List (List ℕ)
  pub entry : List ℕ
  pub back : List (List ℕ)
  pub meanings : List Meaning
  pub parts : entries ≡ front ++ entry ∷ back
  pub mean : Mean (beginning_with origin) front meanings
  pub size : length (bytes_of front) ≤ most_bytes
  pub number : length (statements_of meanings) ≤ most_records
  pub begins : line ≡ 1 + lines_in (bytes_of front)
  pub broken : entry_within (length (bytes_of front) + length entry) (length (statements_of meanings))
      (standing_after (beginning_with origin) meanings) entry ≡ Err why

-- a text says these records
pub record ZoneSays (text : List ℕ) (origin : Labels) (records : List wire.Record) : Type 0 where
  pub statements : List Statement
  pub say : Say origin (entries_of text) statements
  pub records_are : Are records statements

-- the first broken entry of a text
abbrev pub ZoneBreaks : List ℕ → Labels → ℕ → TextWhy → Type 0
ZoneBreaks text origin line why = Break origin (entries_of text) line why

-- a text is broken whatever follows: an entry that ended is, or there is a byte too many
abbrev pub BreaksSoFar : List ℕ → Labels → ℕ → TextWhy → Type 0
BreaksSoFar text origin line why =
    Break origin (ended_of text) line why ⊎ ((most_bytes + 1 ≤ length text) × Break origin (entries_of text) line why)
