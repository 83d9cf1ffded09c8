use Rattle.std.proofs.Common.{take}
use Rattle.zone_db.specs.Replies.{IsGlue}
use Rattle.responder.proofs.glue.glue_of.Given as goal

abbrev pub invariant-loop-one : goal.invariant-loop-one
invariant-loop-one l = IsGlue l.zone (take l.one-index l.servers) l.glue
