use Rattle.std.proofs.Common.{sym}
use Rattle.zone_token.proofs.TimeLemmas.{loop_stops}
use Rattle.zone_token.proofs.times.read_united.Goals as goal

pub returns-in_err-next : goal.returns-in_err-next
returns-in_err-next c = rw c.from_residual.ensures
    (sym (loop_stops _ _ c.loop-rest.rest.now c.args.text.now c.loop-rest.invariant.same c.in-len1-up.len_at_least
    c.in_err-next.ensures.none))
