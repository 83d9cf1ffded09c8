use Rattle.dns_name.proofs.SpellLemmas.{name_of-text_of}
use Rattle.dns_name.proofs.laws.written_is_read_again.Goals as goal

pub returns : goal.returns
returns c = name_of-text_of
