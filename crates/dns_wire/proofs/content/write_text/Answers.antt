use Rattle.dns_wire.proofs.EncodeLemmas.{front_through}
use Rattle.dns_wire.proofs.content.write_text.Goals as goal

pub returns-clause-front : goal.returns-clause-front
returns-clause-front c =
    front_through _ _ _ c.append.ensures.front c.append-2.ensures.front
