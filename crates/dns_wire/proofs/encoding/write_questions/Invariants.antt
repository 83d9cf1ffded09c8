use Rattle.std.proofs.Common.{◌≡◌, ◌++◌, take}
use Rattle.std.specs.List.{AllByRecursion, flat_map}
use Rattle.dns_wire.specs.Ranges.{IsQuestion}
use Rattle.dns_wire.specs.Encoding.{question_wire}
use Rattle.dns_wire.proofs.encoding.write_questions.Given as goal

abbrev pub invariant-loop-question : goal.invariant-loop-question
invariant-loop-question l =
    (l.out ≡ l.initial.out ++ flat_map question_wire (take l.question-index l.questions))
    × AllByRecursion IsQuestion (take l.question-index l.questions)
