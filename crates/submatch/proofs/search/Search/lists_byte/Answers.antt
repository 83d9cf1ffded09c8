use Rattle.submatch.proofs.ListedLemmas.{listed_by}
use Rattle.submatch.proofs.search.Search.lists_byte.Goals as goal

pub returns : goal.returns
returns g c = listed_by _ c.args.b c.lists.result c.lists.ensures
