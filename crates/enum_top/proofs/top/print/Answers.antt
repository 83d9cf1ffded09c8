use Rattle.enum_top.proofs.PrintLemmas.{stopped_short, printed_whole, cut_short}
use Rattle.enum_top.proofs.top.print.Goals as goal

pub returns-in-Ok-clause-runs : goal.returns-in-Ok-clause-runs
returns-in-Ok-clause-runs g c =
    rw (← c.in-Ok.ensures.unwritten)
    (cut_short _ _ _ c.requires _ _ c.in-Ok.printed _ c.in-Ok.ensures.does c.as_slice.ensures
    c.write_whole.ensures.takes.front)

pub returns-clause-runs : goal.returns-clause-runs
returns-clause-runs g c =
    rw (← c.in-Err.ensures.unwritten) (stopped_short _ _ _ c.requires _ c.in-Err.why c.in-Err.ensures.does)

pub returns-in-Ok-write_whole-clause-runs : goal.returns-in-Ok-write_whole-clause-runs
returns-in-Ok-write_whole-clause-runs g c =
    rw (← c.in-Ok.ensures.unwritten)
    (printed_whole _ _ _ c.requires _ _ c.in-Ok.printed _ c.in-Ok.ensures.does c.as_slice.ensures c.in-Ok-write_whole.ensures.whole)
