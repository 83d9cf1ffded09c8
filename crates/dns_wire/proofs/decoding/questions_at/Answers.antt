use Rattle.std.proofs.Common.{◌+◌, inl, arith}
use Rattle.dns_wire.specs.Message.{QuestionAt}
use Rattle.dns_wire.proofs.ItemLemmas.{reading-more, reading-stops}
use Rattle.dns_wire.proofs.decoding.questions_at.Goals as goal

pub returns-in_err-question-clause-questions : goal.returns-in_err-question-clause-questions
returns-in_err-question-clause-questions c =
    reading-stops
    (QuestionAt c.args.message.now) 12 _ c.questions._index c.args.count c.questions.questions c.questions.at
    c.in_err-question.field-0.0 _ c.questions.invariant c.questions-test.true
    (inl c.in_err-question.ensures.question) c.from_residual.ensures.1

pub questions-preserved : goal.questions-preserved
questions-preserved c =
    rw c.in_ok-push.ensures.ok
    (reading-more (QuestionAt c.args.message.now) 12 _ c.questions._index (c.questions._index + 1)
    c.questions.questions c.questions.at c.in_ok-question.question c.in_ok-question.next c.questions.invariant
    (omega arith) c.in_ok-question.ensures.question c.in_ok-question.ensures.within.1)
