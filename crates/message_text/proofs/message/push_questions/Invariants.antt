use Rattle.std.proofs.Common.{◌≡◌, ◌++◌, take, flat_map}
use Rattle.message_text.specs.Shown.{question_line}
use Rattle.message_text.proofs.message.push_questions.Given as goal

abbrev pub invariant-loop-question : goal.invariant-loop-question
invariant-loop-question l = l.out ≡ l.initial.out ++ flat_map question_line (take l.question-index l.questions)
