use Rattle.std.proofs.Common.{◌+◌, ◌≤◌, length, get_or, rules}
use Rattle.dns_name.proofs.NameLemmas.{Splits-slices, size-fits}
use Rattle.dns_name.proofs.name.split_first.Goals as goal

pub slice_bounds-result-end : goal.slice_bounds-result-end
slice_bounds-result-end c =
    let wire = c.args.wire.now in
    let fits : get_or wire 0 0 + 1 ≤ length wire = size-fits wire c.requires.name c.requires.more in
    search rules

pub returns-clause-labels : goal.returns-clause-labels
returns-clause-labels c = (Splits-slices c.args.wire.now c.requires.name c.requires.more).labels

pub returns-clause-rest : goal.returns-clause-rest
returns-clause-rest c = (Splits-slices c.args.wire.now c.requires.name c.requires.more).name
