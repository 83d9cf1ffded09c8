use Rattle.std.proofs.Common.{◌<◌, length}
use Rattle.cases_rules.proofs.expressions.walked.Given as goal

abbrev pub invariant-loop-step : goal.invariant-loop-step
invariant-loop-step l = l.at < length l.ere
