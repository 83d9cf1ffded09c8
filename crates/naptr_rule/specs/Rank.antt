-- The order of rules.
use Rattle.std.specs.declared.cmp.Ordering.{Ordering}
use Rattle.std.specs.Ordering.{nat_cmp, ordering_then}
use Rattle.std.specs.Cmp.Lexicographic.{slice_cmp}
use Rattle.naptr_rule.specs.declared.rule.Naptr.{Naptr}
use Rattle.naptr_rule.specs.Rdata.{rdata}

-- rules are ordered by ORDER, then by PREFERENCE (RFC 3403, 4.1), then by their RDATA byte by byte (this project's own)
abbrev pub rank_of : Naptr → Naptr → Ordering
rank_of one other =
    ordering_then (nat_cmp one.order other.order) (ordering_then (nat_cmp one.preference other.preference) (slice_cmp nat_cmp (rdata one) (rdata other)))
