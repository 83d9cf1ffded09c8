use Rattle.std.proofs.Common.{◌++◌, ◌∷◌, [], sym, subst, ap, ◌∙◌}
use Rattle.naptr_data.specs.Zones.{rules_and_aliases}
use Rattle.zone_build.specs.Plain.{told}
use Rattle.zone_db.specs.Sets.{HoldsApex, IsFull}
use Rattle.zone_db.proofs.SetLemmas.{zones_added}
use Rattle.zone_db.proofs.set.ZoneSet.add.Goals as goal

pub invariant_of-self : goal.invariant_of-self
invariant_of-self c = rw c.in-Ok.ensures.items (record {
  set = zones_added c.self.inside.zones.items c.args.zone c.self.invariant.set c.apex.ensures.valid
      (λ h. absurd
      (cc (c.if-holds_apex.ensures.1
      (subst (λ a. HoldsApex c.as_slice.result.now a) (sym c.apex.ensures.apex)
      (subst (λ zs. HoldsApex zs c.args.zone.apex) (sym c.as_slice.ensures.value) h)))))
      (λ f. absurd
      (cc (c.if-is_full.ensures.1 (subst (λ zs. IsFull zs c.args.zone) (sym c.as_slice-2.ensures.value) f))));
  counted = c.count_with-count.ensures ∙ ap (λ zs. rules_and_aliases (told (zs ++ c.args.zone ∷ []))) c.as_slice-3.ensures.value;
})
