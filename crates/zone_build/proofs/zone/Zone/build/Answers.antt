use Rattle.std.proofs.Common.{List, None, ◌≡◌, ◌≤◌, length, map, sym, subst}
use Rattle.std.specs.Prelude.{Contains}
use Rattle.dns_wire.specs.declared.record.Record.{Record}
use Rattle.zone_build.specs.Zone.{IsCanonical, IsPlain}
use Rattle.zone_build.specs.Faults.{IsZoneFault}
use Rattle.zone_build.specs.Indexing.{IsIndex}
use Rattle.naptr_data.specs.Zones.{rules_and_aliases_in}
use Rattle.zone_build.specs.Plain.{owned_of}
use Rattle.zone_build.specs.Building.{AreApart, IsFirstLarge, IsLastFault, IsPlan}
use Rattle.zone_build.proofs.PlanLemmas.{plan_apart, plan_made}
use Rattle.zone_build.proofs.FaultLemmas.{last_is_fault, plan_valid}
use Rattle.zone_build.proofs.zone.Zone.build.Goals as goal

pub plan_of-requires : goal.plan_of-requires
plan_of-requires c = subst (λ (xs : List Record). (one : Record) → Contains xs one → IsPlain one) (sym c.as_slice.ensures) c.requires

pub returns-in-Err-clause-fault : goal.returns-in-Err-clause-fault
returns-in-Err-clause-fault c = subst (λ xs. IsZoneFault xs c.in-Err.fault) c.as_slice.ensures c.in-Err.ensures.err

pub arranged-requires : goal.arranged-requires
arranged-requires c =
    let plan = c.in-Ok.plan in
    subst (λ xs. AreApart (length xs) c.as_slice-2.result.now) (sym c.into_items.ensures)
    (subst (AreApart (length c.args.records)) (sym c.as_slice-2.ensures.value)
    (plan_apart c.args.records plan.apex plan.keeps.items plan.cut
    (subst (λ xs. IsPlan xs plan.apex plan.keeps.items plan.cut) c.as_slice.ensures c.in-Ok.ensures.ok)))

pub last_fault-requires : goal.last_fault-requires
last_fault-requires c =
    let plan = c.in-Ok.plan in
    let made =
    plan_made c.args.records c.as_slice.result.now c.into_items.result.items plan.apex plan.keeps.items
    c.as_slice-2.result.now plan.cut c.in_ok-kept.kept.items c.as_slice.ensures c.into_items.ensures
    c.as_slice-2.ensures.value c.in-Ok.ensures.ok c.in_ok-kept.ensures in
    subst IsCanonical (sym c.as_slice-3.ensures.value) made.1.order

pub returns-in-Some-clause-fault : goal.returns-in-Some-clause-fault
returns-in-Some-clause-fault c =
    let plan = c.in-Ok.plan in
    let kept = c.in_ok-kept.kept.items in
    let made =
    plan_made c.args.records c.as_slice.result.now c.into_items.result.items plan.apex plan.keeps.items
    c.as_slice-2.result.now plan.cut kept c.as_slice.ensures c.into_items.ensures c.as_slice-2.ensures.value
    c.in-Ok.ensures.ok c.in_ok-kept.ensures in
    last_is_fault c.args.records
    (record { apex = plan.apex; records = kept }) plan.keeps.items plan.cut c.in-Some.fault made.0 made.1
    (subst (λ xs. IsLastFault xs plan.cut c.in-Some.fault) c.as_slice-3.ensures.value c.in-Some.ensures.some)

pub index_of-requires : goal.index_of-requires
index_of-requires c =
    let plan = c.in-Ok.plan in
    let made =
    plan_made c.args.records c.as_slice.result.now c.into_items.result.items plan.apex plan.keeps.items
    c.as_slice-2.result.now plan.cut c.in_ok-kept.kept.items c.as_slice.ensures c.into_items.ensures
    c.as_slice-2.ensures.value c.in-Ok.ensures.ok c.in_ok-kept.ensures in
    subst IsCanonical (sym c.as_slice-in-None.ensures.value) made.1.order

pub invariant_of-result : goal.invariant_of-result
invariant_of-result c =
    let plan = c.in-Ok.plan in
    let kept = c.in_ok-kept.kept.items in
    let made =
    plan_made c.args.records c.as_slice.result.now c.into_items.result.items plan.apex plan.keeps.items
    c.as_slice-2.result.now plan.cut kept c.as_slice.ensures c.into_items.ensures c.as_slice-2.ensures.value
    c.in-Ok.ensures.ok c.in_ok-kept.ensures in
    record {
      valid = plan_valid c.args.records
          (record { apex = plan.apex; records = kept }) plan.keeps.items plan.cut c.requires made.0 made.1
          (subst (λ xs. IsFirstLarge xs None × (plan.cut ≡ None)) c.as_slice-3.ensures.value c.in-None.ensures.none);
      indexed = subst (λ xs. IsIndex xs plan.apex c.in_ok-index_of-in-None.field-0) c.as_slice-in-None.ensures.value c.in_ok-index_of-in-None.ensures;
      counted = subst (λ xs. c.count_in.result
          ≡ rules_and_aliases_in (map owned_of xs)) c.as_slice-in-None-2.ensures.value c.count_in.ensures.count;
      few = subst (λ (xs : List Record). c.count_in.result ≤ length xs) c.as_slice-in-None-2.ensures.value c.count_in.ensures.few;
    }

pub returns-clause-built : goal.returns-clause-built
returns-clause-built c =
    let plan = c.in-Ok.plan in
    (plan_made c.args.records c.as_slice.result.now c.into_items.result.items plan.apex plan.keeps.items
    c.as_slice-2.result.now plan.cut c.in_ok-kept.kept.items c.as_slice.ensures c.into_items.ensures
    c.as_slice-2.ensures.value c.in-Ok.ensures.ok c.in_ok-kept.ensures).1

pub returns-clause-valid : goal.returns-clause-valid
returns-clause-valid c =
    let plan = c.in-Ok.plan in
    let kept = c.in_ok-kept.kept.items in
    let made =
    plan_made c.args.records c.as_slice.result.now c.into_items.result.items plan.apex plan.keeps.items
    c.as_slice-2.result.now plan.cut kept c.as_slice.ensures c.into_items.ensures c.as_slice-2.ensures.value
    c.in-Ok.ensures.ok c.in_ok-kept.ensures in
    plan_valid c.args.records
    (record { apex = plan.apex; records = kept }) plan.keeps.items plan.cut c.requires made.0 made.1
    (subst (λ xs. IsFirstLarge xs None × (plan.cut ≡ None)) c.as_slice-3.ensures.value c.in-None.ensures.none)
