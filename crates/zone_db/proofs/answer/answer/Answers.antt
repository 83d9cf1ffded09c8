use Rattle.zone_db.proofs.SeekLemmas.{alias_met, alias_lacking, is_answered, is_unanswered}
use Rattle.zone_db.proofs.answer.answer.Goals as goal
use Rattle.zone_db.proofs.answer.answer.Goals.{else-not-answers-via-then-not-answers+else-aliases-gt0, else-not-answers-via-else-not-answers}

pub returns-then-aliases-gt0 : goal.returns-then-aliases-gt0
returns-then-aliases-gt0 c = (
  alias_met c.args.zone.now c.args.source.now c.args.asked c.set-aliases.result.now c.set-aliases.ensures
      c.if-aliases-gt0.true (λ a. absurd (cc (c.if-not-answers.ensures.1 a))),
  c.set-aliases.ensures,
)

pub returns-in-Some : goal.returns-in-Some
returns-in-Some c = (
  c.in-Some.kind,
  elim c.else-not-answers.branch [
    | else-not-answers-via-then-not-answers+else-aliases-gt0 w ↦ alias_lacking c.args.zone.now c.args.source.now
        c.args.asked c.set-aliases.result.now c.set-aliases.ensures w.if-aliases-gt0.false
    | else-not-answers-via-else-not-answers w ↦ λ (here, not). not (c.answers.ensures.0 w.if-not-answers.false)
  ],
  is_answered c.args.zone.now c.args.source.now c.args.asked c.in-Some.kind c.in-Some.ensures,
  c.set.ensures,
)

pub returns-in-None : goal.returns-in-None
returns-in-None c = (
  elim c.else-not-answers.branch [
    | else-not-answers-via-then-not-answers+else-aliases-gt0 w ↦ alias_lacking c.args.zone.now c.args.source.now
        c.args.asked c.set-aliases.result.now c.set-aliases.ensures w.if-aliases-gt0.false
    | else-not-answers-via-else-not-answers w ↦ λ (here, not). not (c.answers.ensures.0 w.if-not-answers.false)
  ],
  is_unanswered c.args.zone.now c.args.source.now c.args.asked c.in-None.ensures,
  c.soa_of.ensures,
)
