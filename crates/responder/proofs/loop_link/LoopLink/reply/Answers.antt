use Rattle.std.proofs.Common.{Ok, sym, subst}
use Rattle.std.specs.Prelude.{Contains}
use Rattle.responder.specs.Answering.{Answers, AppendsReply}
use Rattle.responder.specs.Loops.{MemoryLink, Replies}
use Rattle.responder.specs.declared.reply.Answered.{Answered}
use Rattle.responder.proofs.LoopLemmas.{from_nothing, replies_ok}
use Rattle.responder.proofs.loop_link.LoopLink.reply.Goals as goal

pub returns-in-Ok-Reply : goal.returns-in-Ok-Reply
returns-in-Ok-Reply c =
    let now : MemoryLink = record {
      zones = c.self.inside.zones;
      failing = c.self.inside.failing;
      kept = c.self.inside.exchanged;
      held = c.self.inside.held;
      faults = c.self.inside.faults;
      short = c.self.inside.short;
    } in
    let not : ¬ Contains now.failing now.kept.exchanges =
    λ h. absurd (cc (c.if-is_listed.ensures.1 (subst (λ n. Contains now.failing n) (sym c.count.ensures) h))) in
    let appends : AppendsReply now.zones c.args.query.now c.args.way c.new-reply.result c.answer.new.out =
    subst (λ (a : Answered). Answers now.zones c.args.query.now c.args.way c.new-reply.result c.answer.new.out a) c.in-Ok-Reply.field-0-is
    c.in-Ok-Reply.ensures.answered in
    subst (λ (o : MemoryLink). Replies o (record now { held = c.answer.new.out }) c.args.way c.args.query.now (Ok tt)) c.self.view_is
    (replies_ok now c.answer.new.out c.args.way c.args.query.now
    (from_nothing now.zones c.args.query.now c.args.way c.new-reply.result c.answer.new.out c.new-reply.ensures appends) not)
