use Rattle.std.proofs.Common.{◌≡◌, drop}
use Rattle.zone_text.specs.Data.{strings_of}
use Rattle.zone_text.proofs.StringLemmas.{strings_before}
use Rattle.zone_text.proofs.data.read_strings.Given as goal

-- the strings so far stand before those of the tokens that are left
abbrev pub invariant-loop-token : goal.invariant-loop-token
invariant-loop-token l = strings_before l.texts (strings_of (drop l.token-index l.fields)) ≡ strings_of l.fields
