-- The entries of a zone text (RFC 1035, section 5.1). An entry ends with the first line feed outside parentheses, or
-- with the text; a line feed inside quotes ends it too.
use Rattle.std.specs.Prelude.{ℕ, List, [], ◌∷◌, ◌++◌, Bool, true, false, not, ◌&&◌, ◌||◌, ◌==◌, if◌then◌else◌}
use Rattle.zone_token.specs.Bytes.{line_feed, quote, opening, closing, semicolon, backslash, size_until}
use Rattle.zone_token.specs.declared.spot.Part.{Part}
use Rattle.zone_token.specs.declared.spot.Part.TheVariants.{Plain, Escaped, Quoted, QuotedEscaped, Comment}
use Rattle.zone_token.specs.declared.spot.Spot.{Spot}

-- the part of an entry that stands after a byte: plain text, what a backslash escapes, a quoted text, or a comment
abbrev pub part_after : Part → ℕ → Part
part_after Plain byte =
    if byte == quote then Quoted
    else if byte == semicolon then Comment
    else if byte == backslash then Escaped
    else Plain
part_after Escaped byte = Plain
part_after Quoted byte = if byte == quote then Plain else if byte == backslash then QuotedEscaped else Quoted
part_after QuotedEscaped byte = Quoted
part_after Comment byte = if byte == line_feed then Plain else Comment

-- whether parentheses are open after a byte
abbrev pub inside_after : Part → Bool → ℕ → Bool
inside_after Plain inside byte = if byte == opening then true else if byte == closing then false else inside
inside_after Escaped inside byte = inside
inside_after Quoted inside byte = inside
inside_after QuotedEscaped inside byte = inside
inside_after Comment inside byte = inside

-- a line feed in this part ends the entry, whether parentheses are open or not
abbrev pub is_quoted : Part → Bool
is_quoted Plain = false
is_quoted Escaped = false
is_quoted Quoted = true
is_quoted QuotedEscaped = true
is_quoted Comment = false

-- the part after a byte that has no meaning of its own
abbrev pub unescaped : Part → Part
unescaped Plain = Plain
unescaped Escaped = Plain
unescaped Quoted = Quoted
unescaped QuotedEscaped = Quoted
unescaped Comment = Comment

-- a byte has a meaning of its own in some part
abbrev pub turns : ℕ → Bool
turns byte =
    byte == line_feed || byte == quote || byte == semicolon || byte == opening || byte == closing || byte == backslash

-- after a backslash
abbrev pub is_escaped : Part → Bool
is_escaped Plain = false
is_escaped Escaped = true
is_escaped Quoted = false
is_escaped QuotedEscaped = true
is_escaped Comment = false

-- how many bytes at the front of a text leave a spot as it is: those before the first with a meaning of its own, if none is escaped
abbrev pub still_size : Spot → List ℕ → ℕ
still_size spot text = if is_escaped spot.part then 0 else size_until turns text

-- where an entry begins
abbrev pub beginning : Spot
beginning = record { part = Plain; inside = false }

-- the spot after a byte
abbrev pub after : Spot → ℕ → Spot
after spot byte = record { part = part_after spot.part byte; inside = inside_after spot.part spot.inside byte }

-- a byte at a spot ends its entry
abbrev pub ends_entry : Spot → ℕ → Bool
ends_entry spot byte = byte == line_feed && (is_quoted spot.part || not spot.inside)

-- an entry, unless it has no bytes
abbrev pub last_entry : List ℕ → List (List ℕ)
last_entry [] = []
last_entry (byte ∷ bytes) = (byte ∷ bytes) ∷ []

-- the entries of a text in turn, where some bytes of the first stand before the text and lead to a spot
abbrev pub entries_from : List ℕ → Spot → List ℕ → List (List ℕ)
entries_from begun spot [] = last_entry begun
entries_from begun spot (byte ∷ rest) =
    if ends_entry spot byte then (begun ++ byte ∷ []) ∷ entries_from [] beginning rest
    else entries_from (begun ++ byte ∷ []) (after spot byte) rest

-- the entries of a text that end in it: all but a last one that no line feed ends
abbrev pub ended_from : List ℕ → Spot → List ℕ → List (List ℕ)
ended_from begun spot [] = []
ended_from begun spot (byte ∷ rest) =
    if ends_entry spot byte then (begun ++ byte ∷ []) ∷ ended_from [] beginning rest
    else ended_from (begun ++ byte ∷ []) (after spot byte) rest

-- the entries of a text in turn
abbrev pub entries_of : List ℕ → List (List ℕ)
entries_of text = entries_from [] beginning text

-- the entries of a text that end in it
abbrev pub ended_of : List ℕ → List (List ℕ)
ended_of text = ended_from [] beginning text
