use Rattle.std.proofs.Common.{length}
use Rattle.cases_rules.proofs.listed.+are_after.Given as goal

abbrev pub decreases-are_after : goal.decreases-are_after
decreases-are_after l = length l.rest.now
