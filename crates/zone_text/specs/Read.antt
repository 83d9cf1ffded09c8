-- What was read, as the reader has it.
use Rattle.std.specs.Prelude.{◌≡◌, ◌≤◌, ℕ, List, length, map, Ok}
use Rattle.dns_name.specs.Name.{Labels}
use Rattle.zone_token.specs.Entries.{ended_of}
use Rattle.zone_text.specs.Zone.{most_bytes}
use Rattle.zone_text.specs.Reading.{Read, unread, run, rest_of, said_of}
use Rattle.zone_text.specs.declared.progress.Progress.{Progress}
use Rattle.zone_token.specs.declared.spot.Spot.{Spot}

-- what was read so far
abbrev pub seen : Progress → Read
seen progress = record { standing = progress.standing; line = progress.line; size = progress.size; said = map said_of progress.records }

-- the entries of a text that ended were read, and what is left leads to a spot
pub record IsReading (origin : Labels) (text : List ℕ) (progress : Progress) (left : List ℕ) (spot : Spot) : Type 0 where
  pub ended : run (unread origin) (ended_of text) ≡ Ok (seen progress)
  pub rest : rest_of text ≡ (left, spot)
  pub small : length text ≤ most_bytes
