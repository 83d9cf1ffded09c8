use Rattle.std.proofs.Common.{subst}
use Rattle.wire_source.specs.Tries.{Asks, ComesTo}
use Rattle.wire_source.proofs.TryLemmas.{again}
use Rattle.wire_source.proofs.tries.ask_by.Goals as goal

pub returns-clause-asks : goal.returns-clause-asks
returns-clause-asks g c =
    let s = g.L.Link.state c.args.link.now in
    let s' = g.L.Link.state c.try_once-read.new.link in
    let faulty = c.is_faulty.ensures.0 c.if-not-is_faulty.false in
    again 2 c.args.name.now c.args.id.now c.try_once-read.new.id c.ask_twice.new.id s s' (g.L.Link.state c.ask_twice.new.link) faulty.0 c.ask_twice.result
    (subst (λ r. Asks 1 1 c.args.name.now c.args.id.now c.try_once-read.new.id s s' (λ last. ComesTo 1 last c.args.name.now s s' r)) faulty.1
    c.try_once-read.ensures.asks) c.ask_twice.ensures.asks
