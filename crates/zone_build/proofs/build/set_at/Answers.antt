use Rattle.std.proofs.lemmas.List.{take_rest}
use Rattle.zone_build.proofs.SetRunLemmas.{rising_drop, run_left}
use Rattle.zone_build.proofs.build.set_at.Goals as goal

pub set_len-requires-clause-rising : goal.set_len-requires-clause-rising
set_len-requires-clause-rising c = rw take_rest (rising_drop c.args.at c.args.records.now c.requires.rising)

pub returns-clause-run : goal.returns-clause-run
returns-clause-run c = run_left c.args.records.now _ c.args.at c.set_len.result (take_rest c.args.records.now c.args.at) c.set_len.ensures.run
