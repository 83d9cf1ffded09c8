-- The lines of a printed report (this project's own).
use Rattle.std.specs.Prelude.{ℕ, ◌-◌, ◌==◌, nat_lt, if◌then◌else◌, List, [], ◌∷◌, ◌++◌, length, codes, decimal}
use Rattle.std.specs.Prelude.{flat_map, slice_get, unwrap_or, Option, Some, None}
use Rattle.dns_name.specs.Name.{folded_labels}
use Rattle.dns_name.specs.Text.{text_of}
use Rattle.ddds_walk.specs.declared.report.End.{End}
use Rattle.ddds_walk.specs.declared.report.LoopPath.{LoopPath}
use Rattle.ddds_walk.specs.declared.report.Outcome.{Outcome}
use Rattle.ddds_walk.specs.declared.report.Outcome.TheVariants.{Uri, Target, Unserved}
use Rattle.ddds_walk.specs.declared.report.Report.{Report}
use Rattle.ddds_walk.specs.declared.report.Report.TheVariants.{Ends, Loop}
use Rattle.naptr_data.specs.Zones.{Labels}
use Rattle.naptr_rule.specs.declared.rule.Naptr.{Naptr}

-- numbers with dots between, or `-` where there is none
abbrev pub dotted : List ℕ → List ℕ
dotted [] = codes "-"
dotted (first ∷ rest) = decimal first ++ flat_map (λ number. codes "." ++ decimal number) rest

-- a path, by the number of keys: the ranks alone where there is one key, and the place and then the ranks where there
-- are several
abbrev pub path_text : ℕ → ℕ → List ℕ → List ℕ
path_text keys place ranks = dotted (if nat_lt 1 keys then place ∷ ranks else ranks)

-- the first word of an end's line: a URI, a target under the letter `s`, one under another letter, or a domain that
-- nobody serves
abbrev pub word_of : Outcome → List ℕ
word_of (Uri bytes) = codes "uri"
word_of (Target letter name) = if letter == 115 then codes "srv" else codes "addr"
word_of Unserved = codes "open"

-- ORDER, PREFERENCE and SERVICES of a rule, where there is one
abbrev pub rule_text : Option Naptr → List ℕ
rule_text None = []
rule_text (Some rule) = codes " " ++ decimal rule.order ++ codes " " ++ decimal rule.preference ++ codes " " ++ rule.services

-- what a rule gives: the URI, or the folded target
abbrev pub given_text : Outcome → List ℕ
given_text (Uri bytes) = codes " " ++ bytes
given_text (Target letter name) = codes " " ++ text_of (folded_labels name)
given_text Unserved = []

-- the line of an end: the word, its path and its domain, and then what there is of a rule
abbrev pub end_line : ℕ → End → List ℕ
end_line keys e =
    word_of e.outcome ++ codes " " ++ path_text keys e.place e.ranks ++ codes " " ++ text_of e.domain ++ rule_text e.rule ++ given_text e.outcome ++ codes "\n"

-- the last of some domains
abbrev pub last_domain : List Labels → Labels
last_domain domains = unwrap_or (slice_get domains (length domains - 1)) []

-- the first line of a loop: its path, and the domain that it comes back to
abbrev pub loop_line : ℕ → LoopPath → List ℕ
loop_line keys path =
    codes "loop " ++ path_text keys path.place path.ranks ++ codes " " ++ text_of (last_domain path.domains) ++ codes "\n"

-- the line of an edge: its rank, and the domains at both ends
abbrev pub edge_line : ℕ → Labels → Labels → List ℕ
edge_line rank from to =
    codes "edge " ++ decimal rank ++ codes " " ++ text_of from ++ codes " " ++ text_of to ++ codes "\n"

-- the lines of edges of these ranks from each domain to the next
abbrev pub edge_lines : List ℕ → List Labels → List ℕ
edge_lines [] domains = []
edge_lines (rank ∷ ranks) [] = []
edge_lines (rank ∷ ranks) (from ∷ []) = []
edge_lines (rank ∷ ranks) (from ∷ to ∷ domains) = edge_line rank from to ++ edge_lines ranks (to ∷ domains)

-- the last line: how many ends there are
abbrev pub last_line : ℕ → List ℕ
last_line count = codes "end " ++ decimal count ++ codes "\n"

-- a report from so many keys as it is printed
abbrev pub printed : ℕ → Report → List ℕ
printed keys (Ends ends) = flat_map (end_line keys) ends ++ last_line (length ends)
printed keys (Loop path) = loop_line keys path ++ edge_lines path.ranks path.domains ++ last_line 0
