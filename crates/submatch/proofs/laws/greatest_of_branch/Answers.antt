-- The laws are lemmas: this names them.
use Rattle.submatch.proofs.GreedyLemmas.{branch_has_greatest_pieces, pieces_are_greedy}
use Rattle.submatch.proofs.laws.greatest_of_branch.Goals as goal

pub returns-clause-pieces : goal.returns-clause-pieces
returns-clause-pieces c = branch_has_greatest_pieces

pub returns-clause-greedy : goal.returns-clause-greedy
returns-clause-greedy c = pieces_are_greedy
