use Rattle.request_words.proofs.ApexLemmas.{few_apexes}
use Rattle.request_words.proofs.laws.few_apexes.Goals as goal

pub returns : goal.returns
returns c = few_apexes
