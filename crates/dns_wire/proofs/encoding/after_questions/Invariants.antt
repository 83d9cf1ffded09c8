use Rattle.std.proofs.Common.{◌≡◌, ◌+◌, length, take}
use Rattle.std.specs.List.{flat_map}
use Rattle.dns_wire.specs.Encoding.{question_wire}
use Rattle.dns_wire.proofs.encoding.after_questions.Given as goal

abbrev pub invariant-loop-question : goal.invariant-loop-question
invariant-loop-question l = l.left + length (flat_map question_wire (take l.question-index l.questions)) ≡ l.fn.room
