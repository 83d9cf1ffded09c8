use Rattle.std.proofs.Common.{sym, subst}
use Rattle.wire_source.specs.Tries.{Asks, ComesTo, Ends}
use Rattle.wire_source.proofs.TryLemmas.{at_least_two, both_ways}
use Rattle.wire_source.proofs.tries.ask.Goals as goal

pub returns-clause-asked : goal.returns-clause-asked
returns-clause-asked g c =
    let s = g.L.Link.state c.args.link.now in
    let s' = g.L.Link.state c.ask_by-read.new.link in
    let s'' = g.L.Link.state c.ask_by.new.link in
    let short = c.is_cut_short.ensures.0 c.if-not-is_cut_short.false in
    subst (λ r. Asks 6 2 c.args.name.now c.args.id.now c.ask_by.new.id s s'' (λ last. Ends last c.args.name.now s s'' r)) (sym c.end_of-2.ensures)
    (both_ways c.args.name.now c.args.id.now c.ask_by-read.new.id c.ask_by.new.id s s' s'' c.ask_by.result
    (subst (λ r. Asks 3 1 c.args.name.now c.args.id.now c.ask_by-read.new.id s s' (λ last. ComesTo 3 last c.args.name.now s s' r)) short
    c.ask_by-read.ensures.asks) c.ask_by.ensures.way c.ask_by.ensures.asks)

pub returns-clause-datagram : goal.returns-clause-datagram
returns-clause-datagram g c = λ stream.
    at_least_two 3 1 3 1 c.args.name.now c.args.id.now c.ask_by-read.new.id c.ask_by.new.id (g.L.Link.state c.args.link.now)
    (g.L.Link.state c.ask_by-read.new.link) (g.L.Link.state c.ask_by.new.link) _ _ c.ask_by-read.ensures.asks c.ask_by.ensures.asks
