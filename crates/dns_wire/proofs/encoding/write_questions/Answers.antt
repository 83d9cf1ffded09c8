use Rattle.dns_wire.proofs.EncodeLemmas.{front_through, held_front}
use Rattle.dns_wire.proofs.encoding.write_questions.Goals as goal

pub returns-in_err-write_question-clause-front : goal.returns-in_err-write_question-clause-front
returns-in_err-write_question-clause-front c = front_through _ _ _ (held_front _ _ _ c.loop-question.invariant.0) c.in_err-write_question.ensures.front

pub returns-clause-front : goal.returns-clause-front
returns-clause-front c = held_front _ _ _ c.loop-question.invariant.0
