use Rattle.std.proofs.Common.{◌≡◌, take}
use Rattle.zone_db.specs.Replies.{owned_by}
use Rattle.responder.proofs.copies.owned_list.Given as goal

abbrev pub invariant-loop-one : goal.invariant-loop-one
invariant-loop-one l = l.owned ≡ owned_by l.name (take l.one-index l.records)
