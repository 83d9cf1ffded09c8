use Rattle.std.proofs.Common.{arith}
use Rattle.dns_wire.specs.Encoding.{question_wire}
use Rattle.dns_wire.proofs.EncodeLemmas.{size_most}
use Rattle.dns_wire.proofs.encoding.after_questions.Goals as goal

pub returns-in_err-left : goal.returns-in_err-left
returns-in_err-left c =
    rw c.from_residual.ensures
    (omega (
      arith,
      size_most question_wire c.args.questions.now c.loop-question.question-index
          c.question-item.result c.loop-question-test.true c.question-item.is,
      c.in_err-left.ensures,
      c.loop-question.invariant,
    ))
