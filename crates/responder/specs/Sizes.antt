-- How many bytes replies have (RFC 1035, section 4.1), for private functions and laws.
use Rattle.std.specs.Prelude.{◌≡◌, ℕ, ◌+◌, ◌<◌, List, length, Option, MatchOption}
use Rattle.std.specs.List.{flat_map}
use Rattle.dns_wire.specs.Encoding.{question_wire, record_wire}
use Rattle.dns_wire.specs.declared.record.Record.{Record}
use Rattle.zone_db.specs.Replies.{questions_of, options_for}
use Rattle.zone_db.specs.declared.draft.Draft.{Draft}

-- the bytes of records
abbrev pub size : List Record → ℕ
size records = length (flat_map record_wire records)

-- the bytes of what is said but for the glue: a header has 12
abbrev pub base_size : Option Record → Draft → ℕ
base_size options draft =
    12 + length (flat_map question_wire (questions_of draft.question)) + size (options_for options draft.code) + size draft.answers + size draft.authority

-- what records leave of that much room, or that they take more
abbrev pub IsLeft : ℕ → ℕ → Option ℕ → Type 0
IsLeft room taken left = MatchOption left (room < taken) (λ rest. rest + taken ≡ room)
