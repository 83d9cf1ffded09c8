-- Rules that stand at one name of a valid zone and rank equal are one rule.
use Rattle.std.proofs.Common.{◌≡◌, ◌⊎◌, inl, inr, List, [], ◌∷◌, map, sym, ap, subst, ◌∙◌, arith}
use Rattle.std.specs.Prelude.{Contains}
use Rattle.std.specs.declared.cmp.Ordering.TheVariants.{Less, Equal}
use Rattle.std.specs.Ordering.{nat_cmp}
use Rattle.dns_wire.specs.Kinds.{naptr, soa}
use Rattle.dns_wire.specs.Rdata.{rdata_of}
use Rattle.dns_wire.specs.declared.content.Content.TheVariants as content
use Rattle.dns_wire.specs.declared.record.Record.{Record}
use Rattle.naptr_data.proofs.CutLemmas.{Contains-none, head_or_after}
use Rattle.naptr_rule.specs.Rank.{rank_of}
use Rattle.naptr_rule.specs.Rdata.{rdata}
use Rattle.naptr_data.specs.Zones.{Labels, HasItem, rule}
use Rattle.naptr_data.specs.Zones as plain
use Rattle.naptr_rule.specs.declared.rule.Naptr.{Naptr}
use Rattle.zone_db.specs.Laws.{ToldRulesAreApart}
use Rattle.zone_build.specs.Plain.{owned_of, plain_of}
use Rattle.zone_build.specs.Zone.{Zone, IsCanonical, IsRising, IsValid, order_of}
use Rattle.zone_build.proofs.ListLemmas.{AllByRecursion-contains}
use Rattle.zone_db.proofs.OfferLemmas.{in_told, rule_has}
use Rattle.zone_build.proofs.OrderLemmas.{bytes_cmp, bytes_cmp-equal, order_of-total, repeats_equal, then_equal, turned_equal}

-- rising records that are equal in order are one
rising_one : (records : List Record) → IsRising records → (one two : Record) → Contains records one
    → Contains records two → order_of one two ≡ Equal → one ≡ two
rising_one [] rising one two h k e = absurd (Contains-none one h)
rising_one (x ∷ records) rising one two h k e =
    by (λ c d. rising_one records rising.1 one two c d e) (head_or_after x records one h) (head_or_after x records two k)
  where
    later : (r : Record) → Contains records r → order_of x r ≡ Less
    later r c = AllByRecursion-contains (λ next. order_of x next ≡ Less) records r rising.0 c

    after : (r : Record) → Contains records r → order_of x r ≡ Equal → ⊥
    after r c same = absurd (cc (sym (later r c) ∙ same))

    by : (Contains records one → Contains records two → one ≡ two) → (one ≡ x) ⊎ Contains records one → (two ≡ x) ⊎ Contains records two → one ≡ two
    by on (inl i) (inl j) = i ∙ sym j
    by on (inl i) (inr d) = absurd (after two d (subst (λ v. order_of v two ≡ Equal) i e))
    by on (inr c) (inl j) =
        absurd (after one c (subst (λ v. order_of v one ≡ Equal) j (turned_equal order_of order_of-total one two e)))
    by on (inr c) (inr d) = on c d

-- so are rules in canonical order
canonical_one : (records : List Record) → IsCanonical records → (one two : Record) → one.kind ≡ naptr
    → two.kind ≡ naptr → Contains records one → Contains records two → order_of one two ≡ Equal → one ≡ two
canonical_one [] canonical one two p q h k e = absurd canonical
canonical_one (the_soa ∷ records) canonical one two p q h k e =
    by (head_or_after the_soa records one h) (head_or_after the_soa records two k)
  where
    no_soa : (r : Record) → r ≡ the_soa → r.kind ≡ naptr → ⊥
    no_soa r i kind =
        let same : soa ≡ naptr = sym canonical.0 ∙ sym (ap (λ (v : Record). v.kind) i) ∙ kind in
        absurd (omega (arith, same))

    by : (one ≡ the_soa) ⊎ Contains records one → (two ≡ the_soa) ⊎ Contains records two → one ≡ two
    by (inl i) d = absurd (no_soa one i p)
    by (inr c) (inl j) = absurd (no_soa two j q)
    by (inr c) (inr d) = rising_one records canonical.2 one two c d e

same_rdata : (r s : Naptr) → rank_of r s ≡ Equal → rdata r ≡ rdata s
same_rdata r s e =
    bytes_cmp-equal (rdata r) (rdata s)
    (then_equal (nat_cmp r.preference s.preference) (bytes_cmp (rdata r) (rdata s)) (then_equal (nat_cmp r.order s.order) _ e))

-- rules of a valid zone
one_rule : (z : Zone) → IsValid z → (name : Labels) (r s : Naptr) → HasItem (map owned_of z.records) name (rule r)
    → HasItem (map owned_of z.records) name (rule s) → rank_of r s ≡ Equal → r ≡ s
one_rule z valid name r s h k e =
    let f = rule_has z name r valid h in
    let g = rule_has z name s valid k in
    let bytes : rdata_of f.0.content ≡ rdata_of g.0.content = ap rdata_of f.3 ∙ same_rdata r s e ∙ ap rdata_of (sym g.3) in
    let equal : order_of f.0 g.0 ≡ Equal = repeats_equal f.0 g.0 ((f.2.0 ∙ sym g.2.0, f.2.1 ∙ sym g.2.1), bytes) in
    let same : f.0 ≡ g.0 = canonical_one z.records valid.order f.0 g.0 f.2.1 g.2.1 f.1 g.1 equal in
    let contents : content.Naptr r ≡ content.Naptr s = sym f.3 ∙ ap (λ (v : Record). v.content) same ∙ g.3 in
    cc

pub rules_are_apart : ToldRulesAreApart
rules_are_apart zones valid told_zone name r s among h k e =
    let (z, c, is) = in_told zones told_zone among in
    one_rule z (AllByRecursion-contains IsValid zones z valid c) name r s (stands z is (rule r) h) (stands z is (rule s) k) e
  where
    stands : (z : Zone) → told_zone ≡ plain_of z → (item : plain.Item) → HasItem told_zone.items name item → HasItem (map owned_of z.records) name item
    stands z is item h = subst (λ (v : plain.Zone). HasItem v.items name item) is h
