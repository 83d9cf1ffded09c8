use Rattle.submatch.proofs.JoiningLemmas.{bits_shifted}
use Rattle.submatch.proofs.row.bits_from.Goals as goal

pub returns : goal.returns
returns c = λ bit. bits_shifted c.args.word c.args.from bit c.ranges.word.fits
