use Rattle.std.proofs.lemmas.List.{take_rest}
use Rattle.zone_build.proofs.RunLemmas.{ordered_drop}
use Rattle.zone_build.proofs.sort.run_at.Goals as goal

pub run_len-requires-clause-ordered : goal.run_len-requires-clause-ordered
run_len-requires-clause-ordered c = rw take_rest (ordered_drop c.args.at c.args.sorted.now c.requires.ordered)
