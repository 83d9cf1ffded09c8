use Rattle.std.proofs.Common.{◌≡◌, length}
use Rattle.request_words.specs.Reading.{are_options}
use Rattle.request_words.specs.Words.{texts_of}
use Rattle.request_words.proofs.words.are_options.Given as goal

abbrev pub invariant-options : goal.invariant-options
invariant-options l = are_options l.choices (texts_of l.left) ≡ are_options l.choices (texts_of l.words)

abbrev pub decreases-options : goal.decreases-options
decreases-options l = length l.left
