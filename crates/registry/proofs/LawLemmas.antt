-- A command has one first refusal at most, and makes one zone at most.
use Rattle.std.proofs.Common.{◌≡◌, ◌≢◌, ◌⊎◌, inl, inr, ℕ, ◌<◌, List, [], ◌∷◌, ◌++◌, refl, sym, ap, subst, ◌∙◌, arith}
use Rattle.std.specs.Prelude.{Contains}
use Rattle.std.specs.declared.cmp.Ordering.TheVariants.{Less, Equal}
use Rattle.dns_name.specs.Name.{folded_labels}
use Rattle.naptr_data.specs.Zones.{Labels}
use Rattle.naptr_data.proofs.CutLemmas.{Contains-head, Contains-middle, Contains-none, IsEarlier, head_or_after, two_cuts}
use Rattle.naptr_data.proofs.FoldLemmas.{same_folded}
use Rattle.dns_wire.specs.Kinds.{kind_of, soa}
use Rattle.dns_wire.specs.declared.content.Content.{Content}
use Rattle.dns_wire.specs.declared.content.Content.TheVariants as content
use Rattle.dns_wire.specs.declared.record.Record.{Record}
use Rattle.zone_build.specs.Zone.{Zone, AreOneSet, AreRepeats, IsCanonical, IsIn, IsSet, IsValid, order_of}
use Rattle.zone_build.proofs.ZoneOrFaultLemmas.{some_set}
use Rattle.zone_build.proofs.OneZoneLemmas.{canonical_same, same_fields}
use Rattle.zone_build.proofs.OrderLemmas.{repeats_equal}
use Rattle.zone_db.proofs.SeekLemmas.{set_none}
use Rattle.rule_check.specs.WellFormed.{OneRuleFault}
use Rattle.rule_check.specs.declared.fault.RuleFault.{RuleFault}
use Rattle.registry.specs.Commands.{Changes, Command, IsNew, IsWith, Refuses, add, drop_alias, number, remove, set_alias}
use Rattle.registry.specs.Laws.{CommandsHaveOneRefusal, CommandsMakeOneZone}
use Rattle.registry.specs.declared.fault.RegistryFault.{RegistryFault}
use Rattle.registry.specs.declared.fault.RegistryFault.TheVariants as fault
use Rattle.registry.proofs.ChangeLemmas.{with_has, without_has}
use Rattle.registry.proofs.FillLemmas.{rising_before}
use Rattle.registry.proofs.LookLemmas.{in_set}
use Rattle.registry.proofs.ZoneLemmas.{same_zone}

-- refusals at one place of the order are one
same_fault : OneRuleFault → (command : Command) (zone : Zone) (why other : RuleFault) → Refuses command zone (fault.IllFormed why)
    → Refuses command zone (fault.IllFormed other) → why ≡ other
same_fault law (add m owner rule) zone why other h k = law m rule why other h k
same_fault law (remove owner rule) zone why other h k = absurd h
same_fault law (set_alias owner target) zone why other h k = absurd h
same_fault law (drop_alias owner) zone why other h k = absurd h

same_number : OneRuleFault → (command : Command) (zone : Zone) (one other : RegistryFault) → number one ≡ number other
    → Refuses command zone one → Refuses command zone other → one ≡ other
same_number law command zone (fault.IllFormed why) (fault.IllFormed other) e h k =
    ap (λ x. fault.IllFormed x) (same_fault law command zone why other h k)
same_number law command zone fault.OutsideZone fault.OutsideZone e h k = refl
same_number law command zone fault.Duplicate fault.Duplicate e h k = refl
same_number law command zone fault.Absent fault.Absent e h k = refl
same_number law command zone fault.AliasClash fault.AliasClash e h k = refl
same_number law command zone fault.SetTooLarge fault.SetTooLarge e h k = refl
same_number law command zone fault.Memory fault.Memory e h k = refl
same_number law command zone one other e h k = absurd (omega (arith, e))

pub one_refusal : OneRuleFault → CommandsHaveOneRefusal
one_refusal law command zone one other h k = by (cases (number one) (number other))
  where
    cases : (n p : ℕ) → (n < p) ⊎ ((n ≡ p) ⊎ (p < n))
    cases n p = grind arith

    by : (number one < number other) ⊎ ((number one ≡ number other) ⊎ (number other < number one)) → one ≡ other
    by (inl less) = absurd (k.first one less h.here)
    by (inr (inl same)) = same_number law command zone one other same h.here k.here
    by (inr (inr less)) = absurd (h.first other less k.here)

-- the record that a command makes is one
module _ (zone : Zone) (v : IsValid zone) (owner : Labels) (said : Content) where
  one_set : (a : Record) → IsNew zone owner said a → (x : Record) → IsIn owner (kind_of said) x → AreOneSet a x
  one_set a new x i = (ap folded_labels new.owner ∙ sym (same_folded owner) ∙ sym i.0, new.kind ∙ sym i.1)

  in_own : (a : Record) → IsNew zone owner said a → (x : Record) → AreOneSet a x → IsIn owner (kind_of said) x
  in_own a new x same = (sym same.0 ∙ ap folded_labels new.owner ∙ sym (same_folded owner), sym same.1 ∙ new.kind)

  same_ttl : (a b : Record) → IsNew zone owner said a → IsNew zone owner said b → (set : List Record) → IsSet zone.records owner (kind_of said) set
      → a.ttl ≡ b.ttl
  same_ttl a b new new' [] s = new.first (none a new) ∙ sym (new'.first (none b new'))
    where
      none : (r : Record) → IsNew zone owner said r → (other : Record) → Contains zone.records other → AreOneSet r other → ⊥
      none r is other c same = set_none zone.records owner (kind_of said) [] s (omega arith) other c (in_own r is other same)
  same_ttl a b new new' (x ∷ set) s =
      let c = in_set zone.records (x ∷ set) owner (kind_of said) x s (Contains-head x set) in
      new.ttl x c (one_set a new x s.each.0) ∙ sym (new'.ttl x c (one_set b new' x s.each.0))

  same_new : (a b : Record) → IsNew zone owner said a → IsNew zone owner said b → a ≡ b
  same_new a b new new' =
      let s = some_set zone.records owner (kind_of said) v.order in
      same_fields a b (new.owner ∙ sym new'.owner) (new.kind ∙ sym new'.kind) (new.class ∙ sym new'.class)
      (same_ttl a b new new' s.0 s.1) (new.content ∙ sym new'.content)

-- a zone with one record more is one
more_in : (old one other : Zone) (a b : Record) → a ≡ b → IsWith old a one → IsWith old b other → (x : Record) → Contains one.records x
    → Contains other.records x
more_in old one other a b same w w' x c =
    subst (λ l. Contains l x) (sym w'.with_it) (elim (with_has w.before a w.after x (subst (λ l. Contains l x) w.with_it c)) [
      | inl here ↦ subst (λ r. Contains (w'.before ++ b ∷ w'.after) r) (sym same ∙ sym here) (Contains-middle w'.before b w'.after)
      | inr there ↦ without_has w'.before b w'.after x (subst (λ l. Contains l x) (sym w.without ∙ w'.without) there)
    ])

one_more : (old one other : Zone) (a b : Record) → a ≡ b → IsWith old a one → IsWith old b other → one ≡ other
one_more old one other a b same w w' =
    same_zone one.apex one.records other (w.apex ∙ sym w'.apex)
    (canonical_same one.records other.records w.order w'.order (more_in old one other a b same w w') (more_in old other one b a (sym same) w' w))

-- records in canonical order come one before another
before_it : (before : List Record) (b : Record) (after : List Record) → IsCanonical (before ++ b ∷ after) → (a : Record) → Contains before a
    → a.kind ≢ soa → order_of a b ≡ Less
before_it [] b after c a h other = absurd (Contains-none a h)
before_it (the_soa ∷ before) b after c a h other = elim (head_or_after the_soa before a h) [
  | inl here ↦ absurd (other (ap (λ (r : Record). r.kind) here ∙ c.0))
  | inr later ↦ rising_before before b after c.2 a later
]

not_earlier : (before : List Record) (a : Record) (after before' : List Record) (b : Record) (after' : List Record)
    → IsCanonical (before' ++ b ∷ after') → a.kind ≢ soa → AreRepeats a b → IsEarlier before a after before' b after' → ⊥
not_earlier before a after before' b after' c other same e =
    let less : order_of a b ≡ Less =
    before_it before' b after' c a (subst (λ l. Contains l a) (sym e.front) (Contains-middle before a e.middle)) other in
    let no : Less ≡ Equal = sym less ∙ repeats_equal a b same in
    absurd (cc no)

-- a zone with one record less is one
one_less : (old one other : Zone) (a b : Record) → a.kind ≢ soa → b.kind ≢ soa → AreRepeats a b → IsWith one a old → IsWith other b old → one ≡ other
one_less old one other a b no_soa no_soa' same w w' =
    same_zone one.apex one.records other (sym w.apex ∙ w'.apex)
    (w.without ∙ by (two_cuts w.before a w.after w'.before b w'.after (sym w.with_it ∙ w'.with_it)) ∙ sym w'.without)
  where
    by : ((w.before ≡ w'.before) × (a ≡ b) × (w.after ≡ w'.after))
        ⊎ (IsEarlier w.before a w.after w'.before b w'.after ⊎ IsEarlier w'.before b w'.after w.before a w.after)
        → w.before ++ w.after ≡ w'.before ++ w'.after
    by (inl equal) = ap (λ l. l ++ w.after) equal.0 ∙ ap (λ l. w'.before ++ l) equal.2
    by (inr (inl e)) = absurd (not_earlier w.before a w.after w'.before b w'.after (subst IsCanonical w'.with_it w'.order) no_soa same e)
    by (inr (inr e)) = absurd (not_earlier w'.before b w'.after w.before a w.after (subst IsCanonical w.with_it w.order) no_soa'
        ((sym same.0.0, sym same.0.1), sym same.1) e)

same_change : (command : Command) (old one other : Zone) → IsValid old → Changes command old one → Changes command old other → one ≡ other
same_change (add m owner rule) old one other v (a, new, w) (b, new', w') =
    one_more old one other a b (same_new old v owner (content.Naptr rule) a b new new') w w'
same_change (remove owner rule) old one other v (a, r, w) (b, r', w') =
    one_less old one other a b (λ e. omega (arith, r.0.1, e)) (λ e. omega (arith, r'.0.1, e))
    ((r.0.0 ∙ sym r'.0.0, r.0.1 ∙ sym r'.0.1), r.1 ∙ sym r'.1) w w'
same_change (set_alias owner target) old one other v (a, new, w) (b, new', w') =
    one_more old one other a b (same_new old v owner (content.Cname target) a b new new') w w'
same_change (drop_alias owner) old one other v (a, i, w) (b, i', w') =
    one_less old one other a b (λ e. omega (arith, i.1, e)) (λ e. omega (arith, i'.1, e))
    (v.alias a b (subst (λ l. Contains l a) (sym w.with_it) (Contains-middle w.before a w.after))
    (subst (λ l. Contains l b) (sym w'.with_it) (Contains-middle w'.before b w'.after)) i.1 (i.0 ∙ sym i'.0)) w w'

pub one_zone : CommandsMakeOneZone
one_zone command old one other v d d' = same_change command old one other v d.change d'.change
