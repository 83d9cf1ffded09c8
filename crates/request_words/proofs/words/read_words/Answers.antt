use Rattle.request_words.proofs.ReadingLemmas.{meant_found, meant_only}
use Rattle.request_words.proofs.words.read_words.Goals as goal

pub returns-clause-meant : goal.returns-clause-meant
returns-clause-meant c = meant_found _ _ c.read_words_inner.ensures

pub returns-clause-only : goal.returns-clause-only
returns-clause-only c = meant_only _ _ c.read_words_inner.ensures
