use Rattle.std.proofs.Common.{sym, subst, length, ◌∙◌}
use Rattle.zone_build.specs.Building.{IsOrdered, IsStable, IsSoaAs, IsKeptOf}
use Rattle.zone_build.specs.declared.entry.Key.TheVariants.{Set}
use Rattle.zone_build.proofs.ListLemmas.{read_in, same_bool, other_bool}
use Rattle.zone_build.proofs.RunLemmas.{ordered_take, ordered_drop, stable_take, stable_drop}
use Rattle.zone_build.proofs.MergeLemmas.{from_none, from_all, set_added, set_passed}
use Rattle.zone_build.proofs.keep.push_sets.Goals as goal
use Rattle.zone_build.proofs.keep.push_sets.Goals.{then-is_soa-as_soa+in_ok-push_set, else-is_soa-as_soa}

pub loop-at-init : goal.loop-at-init
loop-at-init c = from_none Set (IsSoaAs c.args.as_soa) (IsKeptOf c.args.sorted.now) c.args.sorted.now c.args.out.now.items

pub push_set-requires-clause-ordered : goal.push_set-requires-clause-ordered
push_set-requires-clause-ordered c =
    subst IsOrdered (sym c.run_at-set.ensures.part) (ordered_take _ _ (ordered_drop c.loop-at.at c.args.sorted.now c.requires.ordered))

pub push_set-requires-clause-stable : goal.push_set-requires-clause-stable
push_set-requires-clause-stable c =
    subst IsStable (sym c.run_at-set.ensures.part) (stable_take _ _ (stable_drop c.loop-at.at c.args.sorted.now c.requires.stable))

pub loop-at-preserved : goal.loop-at-preserved
loop-at-preserved c =
    let all = c.args.sorted.now in
    let part = c.run_at-set.result.now in
    let among = read_in part 0 c.index-set-0.result c.run_at-set.ensures.run.some c.index-set-0.is in
    elim c.if-is_soa-as_soa.branch [
      | then-is_soa-as_soa+in_ok-push_set w ↦
          rw w.out-is (set_added c.args.as_soa all part c.loop-at.at
          (length part) c.index-set-0.result c.args.out.now.items c.loop-at.out.items w.push_set.new.out.items
          c.loop-at.invariant c.run_at-set.ensures.run c.run_at-set.ensures.part among
          (sym c.is_soa.ensures
          ∙ same_bool c.is_soa.result c.args.as_soa w.if-is_soa-as_soa.true) w.in_ok-push_set.ensures)
      | else-is_soa-as_soa w ↦
          rw w.out-is (set_passed c.args.as_soa all part c.loop-at.at
          (length part) c.index-set-0.result c.args.out.now.items c.loop-at.out.items c.loop-at.invariant
          c.run_at-set.ensures.run c.run_at-set.ensures.part among
          (λ is. other_bool c.is_soa.result c.args.as_soa w.if-is_soa-as_soa.false (c.is_soa.ensures ∙ is)))
    ]

pub returns : goal.returns
returns c =
    from_all Set (IsSoaAs c.args.as_soa)
    (IsKeptOf c.args.sorted.now) c.args.sorted.now c.loop-at.at c.args.out.now.items c.loop-at.out.items
    c.loop-at-test.false c.loop-at.invariant
