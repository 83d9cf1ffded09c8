use Rattle.dns_name.proofs.BelowLemmas.{IsWire-name, parent_of-met}
use Rattle.dns_name.proofs.name.Name.parent.Goals as goal

pub split_first-requires-clause-name : goal.split_first-requires-clause-name
split_first-requires-clause-name c = IsWire-name _ _ c.wire-wire.ensures.value c.wire-wire.ensures.name

pub returns : goal.returns
returns c =
    parent_of-met c.args.self.now _ _ _ _ c.wire-wire.ensures.name c.wire-wire.ensures.value c.split_first.ensures.labels c.of_wire.ensures
