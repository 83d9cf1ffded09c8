use Rattle.responder.specs.Loops.{MemoryLink}
use Rattle.responder.proofs.LoopLemmas.{exchange_cause, exchange_told}
use Rattle.responder.proofs.loop_link.LoopLinkLink.exchange.Goals as goal

pub returns-clause-exchanged : goal.returns-clause-exchanged
returns-clause-exchanged c =
    let now : MemoryLink = record {
      zones = c.self.inside.zones;
      failing = c.self.inside.failing;
      kept = c.self.inside.exchanged;
      held = c.self.inside.held;
      faults = c.self.inside.faults;
      short = c.self.inside.short;
    } in
    let last : MemoryLink = record {
      zones = c.self-2.inside.zones;
      failing = c.self-2.inside.failing;
      kept = c.self-2.inside.exchanged;
      held = c.self-2.inside.held;
      faults = c.self-2.inside.faults;
      short = c.self-2.inside.short;
    } in
    exchange_told c.args.self.now now c.reply-done.new.self last c.begin.new.self c.end.new.self c.args.way c.args.query.now c.reply-done.result
    c.self.view_is c.begin.ensures c.reply-done.ensures c.self-2.view_is c.end.ensures

pub returns-clause-cause : goal.returns-clause-cause
returns-clause-cause c =
    let now : MemoryLink = record {
      zones = c.self.inside.zones;
      failing = c.self.inside.failing;
      kept = c.self.inside.exchanged;
      held = c.self.inside.held;
      faults = c.self.inside.faults;
      short = c.self.inside.short;
    } in
    let last : MemoryLink = record {
      zones = c.self-2.inside.zones;
      failing = c.self-2.inside.failing;
      kept = c.self-2.inside.exchanged;
      held = c.self-2.inside.held;
      faults = c.self-2.inside.faults;
      short = c.self-2.inside.short;
    } in
    exchange_cause c.args.self.now now c.reply-done.new.self last c.begin.new.self c.args.way c.args.query.now c.reply-done.result
    c.self.view_is c.reply-done.ensures c.self-2.view_is
