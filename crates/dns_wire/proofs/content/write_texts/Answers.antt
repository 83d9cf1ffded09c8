use Rattle.dns_wire.proofs.EncodeLemmas.{front_through, held_front}
use Rattle.dns_wire.proofs.content.write_texts.Goals as goal

pub returns-in_err-write_text-clause-front : goal.returns-in_err-write_text-clause-front
returns-in_err-write_text-clause-front c = front_through _ _ _ (held_front _ _ _ c.loop-text.invariant.0) c.in_err-write_text.ensures.front

pub returns-clause-front : goal.returns-clause-front
returns-clause-front c = held_front _ _ _ c.loop-text.invariant.0
