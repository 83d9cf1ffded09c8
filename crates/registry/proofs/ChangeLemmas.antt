-- A valid zone with a record more or less.
use Rattle.std.proofs.Common.{◌≡◌, ◌≢◌, ◌⊎◌, inl, inr, ℕ, ◌+◌, ◌≤◌, List, [], ◌∷◌, ◌++◌, length, refl, sym, ap, subst, ◌∙◌, arith, append_assoc, append-nil}
use Rattle.std.specs.Prelude.{Contains}
use Rattle.std.specs.List.{AllByRecursion}
use Rattle.std.proofs.lemmas.List.Elements.{Contains-append_cases, Contains-append_left, Contains-append_right}
use Rattle.std.proofs.lemmas.List.Sums.{sum_by-append}
use Rattle.dns_name.specs.Name.{AreSame, IsBelow, folded_labels}
use Rattle.naptr_data.specs.Zones.{Labels}
use Rattle.naptr_data.proofs.CutLemmas.{Contains-after, head_or_after}
use Rattle.naptr_data.proofs.DecideLemmas.{Either, numbers, same_or_not}
use Rattle.dns_wire.specs.Kinds.{cname, ns, soa}
use Rattle.dns_wire.specs.Rdata.{rdata_of}
use Rattle.dns_wire.specs.declared.record.Record.{Record}
use Rattle.zone_build.specs.Zone.{Zone, AreOneSet, AreRepeats, IsCanonical, IsIn, IsPlain, IsRising, IsSet, IsValid, IsWildcard, weight}
use Rattle.zone_build.proofs.ListLemmas.{AllByRecursion-contains, AllByRecursion-made}
use Rattle.zone_build.proofs.ZoneOrFaultLemmas.{some_set}
use Rattle.zone_build.proofs.SizeLemmas.{set_same_name}
use Rattle.registry.specs.Commands.{IsWith}
use Rattle.registry.specs.Holding.{IsPut}

-- what a longer list has
pub with_has : (before : List Record) (one : Record) (after : List Record) (y : Record) → Contains (before ++ one ∷ after) y
    → (y ≡ one) ⊎ Contains (before ++ after) y
with_has before one after y c = elim (Contains-append_cases before (one ∷ after) y c) [
  | inl front ↦ inr (Contains-append_left before after y front)
  | inr back ↦ elim (head_or_after one after y back) [ inl here ↦ inl here | inr later ↦ inr (Contains-append_right before after y later) ]
]

pub without_has : (before : List Record) (one : Record) (after : List Record) (y : Record) → Contains (before ++ after) y
    → Contains (before ++ one ∷ after) y
without_has before one after y c = elim (Contains-append_cases before after y c) [
  | inl front ↦ Contains-append_left before (one ∷ after) y front
  | inr back ↦ Contains-append_right before (one ∷ after) y (Contains-after one after y back)
]

-- the records of an owner and a kind among others, and what they weigh
module _ (owner : Labels) (kind : ℕ) where
  pub in_or_not : (one : Record) → Either (IsIn owner kind one)
  in_or_not one = by (same_or_not one.owner owner) (numbers one.kind kind)
    where
      by : Either (AreSame one.owner owner) → Either (one.kind ≡ kind) → Either (IsIn owner kind one)
      by (inl same) (inl is) = inl (same, is)
      by (inl same) (inr other) = inr (λ i. other i.1)
      by (inr other) is = inr (λ i. other i.0)

  abbrev pub chosen : (one : Record) → Either (IsIn owner kind one) → List Record → List Record
  chosen one (inl i) rest = one ∷ rest
  chosen one (inr n) rest = rest

  abbrev pub part : List Record → List Record
  part [] = []
  part (x ∷ xs) = chosen x (in_or_not x) (part xs)

  part_append : (xs ys : List Record) → part (xs ++ ys) ≡ part xs ++ part ys
  part_append [] ys = refl
  part_append (x ∷ xs) ys = ap (chosen x (in_or_not x)) (part_append xs ys) ∙ by (in_or_not x)
    where
      by : (e : Either (IsIn owner kind x)) → chosen x e (part xs ++ part ys) ≡ chosen x e (part xs) ++ part ys
      by (inl i) = refl
      by (inr n) = refl

  part_all : (xs : List Record) → AllByRecursion (IsIn owner kind) xs → part xs ≡ xs
  part_all [] all = refl
  part_all (x ∷ xs) all = by (in_or_not x) ∙ ap (λ l. x ∷ l) (part_all xs all.1)
    where
      by : (e : Either (IsIn owner kind x)) → chosen x e (part xs) ≡ x ∷ part xs
      by (inl i) = refl
      by (inr n) = absurd (n all.0)

  part_none : (xs : List Record) → AllByRecursion (λ one. ¬ IsIn owner kind one) xs → part xs ≡ []
  part_none [] none = refl
  part_none (x ∷ xs) none = by (in_or_not x) ∙ part_none xs none.1
    where
      by : (e : Either (IsIn owner kind x)) → chosen x e (part xs) ≡ part xs
      by (inl i) = absurd (none.0 i)
      by (inr n) = refl

  pub set_is_part : (records set : List Record) → IsSet records owner kind set → part records ≡ set
  set_is_part records set s =
      ap part s.parts ∙ part_append s.before (set ++ s.after)
      ∙ ap (λ l. l ++ part (set ++ s.after)) (part_none s.before s.none_before)
      ∙ part_append set s.after
      ∙ ap (λ l. part set ++ l) (part_none s.after s.none_after)
      ∙ append-nil (part set)
      ∙ part_all set s.each

  abbrev pub weight_of : Record → ℕ
  weight_of one = 265 + length (rdata_of one.content)

  weight_append : (xs ys : List Record) → weight (xs ++ ys) ≡ weight xs + weight ys
  weight_append xs ys = sum_by-append (λ (one : Record). 265 + length (rdata_of one.content)) xs ys

  weight_one : (one : Record) (rest : List Record) → weight (one ∷ rest) ≡ weight_of one + weight rest
  weight_one one rest =
      let alone : weight (one ∷ []) ≡ weight_of one = grind arith in
      weight_append (one ∷ []) rest ∙ ap (λ n. n + weight rest) alone

  weight_with : (before : List Record) (one : Record) (after : List Record)
      → weight (part (before ++ one ∷ after)) ≡ weight (part before) + weight (chosen one (in_or_not one) (part after))
  weight_with before one after = ap weight (part_append before (one ∷ after)) ∙ weight_append (part before) (part (one ∷ after))

  weight_without : (before after : List Record) → weight (part (before ++ after)) ≡ weight (part before) + weight (part after)
  weight_without before after = ap weight (part_append before after) ∙ weight_append (part before) (part after)

  pub lighter : (before : List Record) (one : Record) (after : List Record)
      → weight (part (before ++ after)) ≤ weight (part (before ++ one ∷ after))
  lighter before one after = by (in_or_not one) (weight_with before one after)
    where
      by : (e : Either (IsIn owner kind one)) → weight (part (before ++ one ∷ after)) ≡ weight (part before) + weight (chosen one e (part after))
          → weight (part (before ++ after)) ≤ weight (part (before ++ one ∷ after))
      by (inl i) h = let l = weight_one one (part after) in let m = weight_without before after in omega (arith, h, l, m)
      by (inr n) h = let m = weight_without before after in omega (arith, h, m)

  pub heavier : (before : List Record) (one : Record) (after : List Record) (most : ℕ) → weight (part (before ++ after)) ≤ most
      → (IsIn owner kind one → weight (part (before ++ after)) + weight_of one ≤ most) → weight (part (before ++ one ∷ after)) ≤ most
  heavier before one after most light room = by (in_or_not one) (weight_with before one after)
    where
      by : (e : Either (IsIn owner kind one)) → weight (part (before ++ one ∷ after)) ≡ weight (part before) + weight (chosen one e (part after))
          → weight (part (before ++ one ∷ after)) ≤ most
      by (inl i) h =
          let l = weight_one one (part after) in
          let m = weight_without before after in
          let r = room i in
          omega (arith, h, l, m, r)
      by (inr n) h = let m = weight_without before after in omega (arith, h, m, light)

-- what a record has to be for a zone to stay valid with it
pub record IsFit (zone : Zone) (one : Record) : Type 0 where
  pub plain : IsPlain one
  pub no_soa : one.kind ≢ soa
  pub no_ns : one.kind ≢ ns
  pub folded : folded_labels one.owner ≡ one.owner
  pub inside : IsBelow one.owner zone.apex
  pub ttl : (other : Record) → Contains zone.records other → AreOneSet one other → one.ttl ≡ other.ttl
  pub alone : (other : Record) → Contains zone.records other → AreSame one.owner other.owner → (one.kind ≢ cname) × (other.kind ≢ cname)
  pub room : (set : List Record) → IsSet zone.records one.owner one.kind set → weight set + (265 + length (rdata_of one.content)) ≤ 60_000

module _ (old new : Zone) (one : Record) (v : IsValid old) (w : IsWith old one new) (fit : IsFit old one) where
  from : (y : Record) → Contains new.records y → (y ≡ one) ⊎ Contains old.records y
  from y c = elim (with_has w.before one w.after y (subst (λ l. Contains l y) w.with_it c)) [
    | inl here ↦ inl here
    | inr there ↦ inr (subst (λ l. Contains l y) (sym w.without) there)
  ]

  each : (P : Record → Type 0) → P one → ((y : Record) → Contains old.records y → P y) → (y : Record) → Contains new.records y → P y
  each P here there y c = elim (from y c) [ inl is ↦ subst P (sym is) here | inr old_one ↦ there y old_one ]

  one_ttl : (x y : Record) → (x ≡ one) ⊎ Contains old.records x → (y ≡ one) ⊎ Contains old.records y → AreOneSet x y → x.ttl ≡ y.ttl
  one_ttl x y (inl a) (inl b) s = ap (λ (r : Record). r.ttl) (a ∙ sym b)
  one_ttl x y (inl a) (inr d) s = ap (λ (r : Record). r.ttl) a ∙ fit.ttl y d (subst (λ (r : Record). AreOneSet r y) a s)
  one_ttl x y (inr c) (inl b) s =
      let t : AreOneSet x one = subst (λ (r : Record). AreOneSet x r) b s in
      sym (fit.ttl x c (sym t.0, sym t.1)) ∙ ap (λ (r : Record). r.ttl) (sym b)
  one_ttl x y (inr c) (inr d) s = v.ttl x y c d s

  one_alias : (x y : Record) → (x ≡ one) ⊎ Contains old.records x → (y ≡ one) ⊎ Contains old.records y → x.kind ≡ cname
      → AreSame x.owner y.owner → AreRepeats x y
  one_alias x y (inl a) (inl b) k s = subst (λ (r : Record). AreRepeats x r) (a ∙ sym b) ((refl, refl), refl)
  one_alias x y (inl a) (inr d) k s =
      absurd ((fit.alone y d (subst (λ (r : Record). AreSame r.owner y.owner) a s)).0 (subst (λ (r : Record). r.kind ≡ cname) a k))
  one_alias x y (inr c) (inl b) k s = absurd ((fit.alone x c (sym (subst (λ (r : Record). AreSame x.owner r.owner) b s))).1 k)
  one_alias x y (inr c) (inr d) k s = v.alias x y c d k s

  small_with : (owner : Labels) (kind : ℕ) (set : List Record) → IsSet new.records owner kind set → weight set ≤ 60_000
  small_with owner kind set s =
      let was = some_set old.records owner kind v.order in
      let now : part owner kind (w.before ++ one ∷ w.after) ≡ set =
      ap (part owner kind) (sym w.with_it) ∙ set_is_part owner kind new.records set s in
      let before : was.0 ≡ part owner kind (w.before ++ w.after) =
      sym (set_is_part owner kind old.records was.0 was.1) ∙ ap (part owner kind) w.without in
      subst (λ l. weight l ≤ 60_000) now
      (heavier owner kind w.before one w.after 60_000 (subst (λ l. weight l ≤ 60_000) before (v.small owner kind was.0 was.1))
      (λ i. subst (λ l. weight l + (265 + length (rdata_of one.content)) ≤ 60_000) before
      (fit.room was.0 (set_same_name old.records owner kind one was.0 i was.1))))

  pub valid_with : IsValid new
  valid_with = record {
    plain = each IsPlain fit.plain v.plain;
    order = w.order;
    soa = each (λ (y : Record). y.kind ≡ soa → y.owner ≡ new.apex) (λ k. absurd (fit.no_soa k)) (λ y c k. v.soa y c k ∙ sym w.apex);
    folded = each (λ (y : Record). folded_labels y.owner ≡ y.owner) fit.folded v.folded;
    inside = each (λ (y : Record). IsBelow y.owner new.apex) (subst (λ a. IsBelow one.owner a) (sym w.apex) fit.inside)
        (λ y c. subst (λ a. IsBelow y.owner a) (sym w.apex) (v.inside y c));
    ttl = λ x y c d. one_ttl x y (from x c) (from y d);
    alias = λ x y c d. one_alias x y (from x c) (from y d);
    cuts = each (λ (y : Record). y.kind ≡ ns → ¬ IsWildcard y.owner) (λ k. absurd (fit.no_ns k)) v.cuts;
    small = small_with;
  }

module _ (old new : Zone) (one : Record) (v : IsValid old) (w : IsWith new one old) (order : IsCanonical new.records) where
  was : (y : Record) → Contains new.records y → Contains old.records y
  was y c =
      subst (λ l. Contains l y) (sym w.with_it)
      (without_has w.before one w.after y (subst (λ l. Contains l y) w.without c))

  small_without : (owner : Labels) (kind : ℕ) (set : List Record) → IsSet new.records owner kind set → weight set ≤ 60_000
  small_without owner kind set s =
      let before = some_set old.records owner kind v.order in
      let now : part owner kind (w.before ++ w.after) ≡ set =
      ap (part owner kind) (sym w.without) ∙ set_is_part owner kind new.records set s in
      let then : before.0 ≡ part owner kind (w.before ++ one ∷ w.after) =
      sym (set_is_part owner kind old.records before.0 before.1) ∙ ap (part owner kind) w.with_it in
      let low = lighter owner kind w.before one w.after in
      let high : weight (part owner kind (w.before ++ one ∷ w.after)) ≤ 60_000 =
      subst (λ l. weight l ≤ 60_000) then (v.small owner kind before.0 before.1) in
      subst (λ l. weight l ≤ 60_000) now (omega (arith, low, high))

  pub valid_without : IsValid new
  valid_without = record {
    plain = λ y c. v.plain y (was y c);
    order = order;
    soa = λ y c k. v.soa y (was y c) k ∙ w.apex;
    folded = λ y c. v.folded y (was y c);
    inside = λ y c. subst (λ a. IsBelow y.owner a) w.apex (v.inside y (was y c));
    ttl = λ x y c d. v.ttl x y (was x c) (was y d);
    alias = λ x y c d. v.alias x y (was x c) (was y d);
    cuts = λ y c. v.cuts y (was y c);
    small = small_without;
  }

-- the zone of an apex, an SOA and other records
abbrev pub zone_of : Labels → Record → List Record → Zone
zone_of apex the_soa others = record { apex = apex; records = the_soa ∷ others }

one_more : (b x y a : List Record) (one : Record) → b ++ ((x ++ one ∷ y) ++ a) ≡ (b ++ x) ++ one ∷ (y ++ a)
one_more b x y a one = ap (λ l. b ++ l) (append_assoc x (one ∷ y) a) ∙ sym (append_assoc b x (one ∷ (y ++ a)))

one_less : (b x y a : List Record) → b ++ ((x ++ y) ++ a) ≡ (b ++ x) ++ (y ++ a)
one_less b x y a = ap (λ l. b ++ l) (append_assoc x y a) ∙ sym (append_assoc b x (y ++ a))

module _ (apex : Labels) (the_soa : Record) (olds news set more : List Record) (one : Record) (v : IsValid (zone_of apex the_soa olds))
    (front back : List Record) (was : set ≡ front ++ back) (is : more ≡ front ++ one ∷ back) where
  -- a set with one record more is put in
  pub put_with : IsPut olds news set more → IsRising news → one.kind ≢ soa → IsWith (zone_of apex the_soa olds) one (zone_of apex the_soa news)
  put_with p rising other = record {
    before = the_soa ∷ (p.before ++ front);
    after = back ++ p.after;
    apex = refl;
    without = ap (λ l. the_soa ∷ l) olds_are;
    with_it = ap (λ l. the_soa ∷ l) news_are;
    order = (v.order.0, AllByRecursion-made (λ (y : Record). y.kind ≢ soa) news no_soa, rising);
  }
    where
      olds_are : olds ≡ (p.before ++ front) ++ (back ++ p.after)
      olds_are = p.was ∙ ap (λ l. p.before ++ (l ++ p.after)) was ∙ one_less p.before front back p.after

      news_are : news ≡ (p.before ++ front) ++ one ∷ (back ++ p.after)
      news_are = p.is ∙ ap (λ l. p.before ++ (l ++ p.after)) is ∙ one_more p.before front back p.after one

      no_soa : (y : Record) → Contains news y → y.kind ≢ soa
      no_soa y c = elim (with_has (p.before ++ front) one (back ++ p.after) y (subst (λ l. Contains l y) news_are c)) [
        | inl here ↦ subst (λ (r : Record). r.kind ≢ soa) (sym here) other
        | inr there ↦ AllByRecursion-contains (λ (r : Record). r.kind ≢ soa) olds y v.order.1 (subst (λ l. Contains l y) (sym olds_are) there)
      ]

module _ (apex : Labels) (the_soa : Record) (olds news set less : List Record) (one : Record) (v : IsValid (zone_of apex the_soa olds))
    (front back : List Record) (was : set ≡ front ++ one ∷ back) (is : less ≡ front ++ back) where
  -- a set with one record less is put in
  pub put_without : IsPut olds news set less → IsWith (zone_of apex the_soa news) one (zone_of apex the_soa olds)
  put_without p = record {
    before = the_soa ∷ (p.before ++ front);
    after = back ++ p.after;
    apex = refl;
    without = ap (λ l. the_soa ∷ l) (p.is ∙ ap (λ l. p.before ++ (l ++ p.after)) is ∙ one_less p.before front back p.after);
    with_it = ap (λ l. the_soa ∷ l) (p.was ∙ ap (λ l. p.before ++ (l ++ p.after)) was ∙ one_more p.before front back p.after one);
    order = v.order;
  }

  pub canonical_without : IsPut olds news set less → IsRising news → IsCanonical (the_soa ∷ news)
  canonical_without p rising = (
    v.order.0,
    AllByRecursion-made (λ (y : Record). y.kind ≢ soa) news (λ y c.
        AllByRecursion-contains (λ (r : Record). r.kind ≢ soa) olds y v.order.1
        (subst (λ l. Contains l y) (sym (p.was ∙ ap (λ l. p.before ++ (l ++ p.after)) was ∙ one_more p.before front back p.after one))
        (without_has (p.before ++ front) one (back ++ p.after) y
        (subst (λ l. Contains l y) (p.is ∙ ap (λ l. p.before ++ (l ++ p.after)) is ∙ one_less p.before front back p.after) c)))),
    rising,
  )
