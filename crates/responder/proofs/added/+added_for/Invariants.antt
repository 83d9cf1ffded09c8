use Rattle.responder.proofs.added.+added_for.Given as goal

abbrev pub decreases-added_for : goal.decreases-added_for
decreases-added_for l = l.more
