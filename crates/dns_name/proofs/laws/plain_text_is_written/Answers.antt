use Rattle.dns_name.proofs.TextLawLemmas.{IsAbsolute-unescaped}
use Rattle.dns_name.proofs.laws.plain_text_is_written.Goals as goal

pub returns : goal.returns
returns c = IsAbsolute-unescaped
