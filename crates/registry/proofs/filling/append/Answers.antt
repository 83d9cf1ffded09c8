use Rattle.std.proofs.Common.{◌∷◌, ◌++◌, List, ap, drop, length, take, ◌∙◌}
use Rattle.dns_wire.specs.declared.record.Record.{Record}
use Rattle.registry.proofs.FillLemmas.{more_held, more_put}
use Rattle.registry.proofs.filling.append.Goals as goal

pub put-requires : goal.put-requires
put-requires c =
    let set : List Record = c.set-set.result.now in
    more_held c.args.sets.now c.args.one.now set c.in_ok-more.more c.requires.folded c.requires.later c.set-set.ensures.set
    (c.in_ok-more.ensures ∙ ap (λ (x : Record). take (length set) set ++ x ∷ drop (length set) set) c.in_ok-copy.ensures)
    c.set-set.ensures.held

pub returns : goal.returns
returns c =
    let set : List Record = c.set-set.result.now in
    more_put c.args.sets.now c.args.one.now set c.in_ok-more.more c.requires.folded c.requires.later c.set-set.ensures.set
    (c.in_ok-more.ensures ∙ ap (λ (x : Record). take (length set) set ++ x ∷ drop (length set) set) c.in_ok-copy.ensures)
    c.put.new.self (c.in_ok-put.ensures.put set c.set-set.ensures.set) c.in_ok-put.ensures.rising
