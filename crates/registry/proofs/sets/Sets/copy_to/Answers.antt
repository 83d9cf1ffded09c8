use Rattle.std.proofs.Common.{◌++◌, ap, ◌∙◌}
use Rattle.std.specs.List.{flat_map}
use Rattle.dns_wire.specs.declared.record.Record.{Record}
use Rattle.std.proofs.Common.{List}
use Rattle.registry.proofs.FillLemmas.{values_are}
use Rattle.registry.proofs.sets.Sets.copy_to.Goals as goal

pub loop-set-init : goal.loop-set-init
loop-set-init c =
    ap (λ l. c.args.to.now ++ l)
    (ap (flat_map (λ (l : List Record). l)) (c.into_iter-set-iterator.ensures.into_iter_gives ∙ c.values-set-items.ensures.rest)
    ∙ values_are c.self.inside.map.entries ∙ c.self.view_is)
