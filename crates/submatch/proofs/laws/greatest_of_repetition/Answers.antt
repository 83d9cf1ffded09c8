-- The laws are lemmas: this names them.
use Rattle.submatch.proofs.GreedyLemmas.{repetition_has_greatest_iterations, iterations_stop_last, iterations_are_greedy}
use Rattle.submatch.proofs.laws.greatest_of_repetition.Goals as goal

pub returns-clause-iterations : goal.returns-clause-iterations
returns-clause-iterations c = repetition_has_greatest_iterations

pub returns-clause-stop : goal.returns-clause-stop
returns-clause-stop c = iterations_stop_last

pub returns-clause-greedy : goal.returns-clause-greedy
returns-clause-greedy c = iterations_are_greedy
