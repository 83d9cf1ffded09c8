-- The laws are lemmas: this names them.
use Rattle.submatch.proofs.BestMatchLemmas.{one_is_best}
use Rattle.submatch.proofs.laws.best_match.Goals as goal

pub returns : goal.returns
returns c = one_is_best
