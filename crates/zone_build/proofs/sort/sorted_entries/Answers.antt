use Rattle.std.proofs.Common.{subst}
use Rattle.std.specs.List.Sorted.{IsPermutation}
use Rattle.zone_build.proofs.SortLemmas.{are_givens}
use Rattle.zone_build.proofs.sort.sorted_entries.Goals as goal

pub returns-clause-givens : goal.returns-clause-givens
returns-clause-givens c =
    are_givens c.args.records.now c.sort.new.entries.items (subst (λ l. IsPermutation l c.sort.new.entries.items) c.in_ok-entries.ensures c.sort.ensures.same)
