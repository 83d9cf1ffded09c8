-- Records that commands put in and take away.
use Rattle.std.proofs.Common.{◌≡◌, ◌≢◌, ◌⊎◌, inl, inr, ℕ, ◌+◌, ◌<◌, ◌≤◌, List, [], ◌∷◌, ◌++◌, length, take, drop, refl, sym, ap, subst, ◌∙◌, arith, append_assoc, length-append}
use Rattle.std.specs.Prelude.{Contains, IsTrue}
use Rattle.std.specs.List.{AllByRecursion}
use Rattle.std.specs.Cmp.{tied_itself}
use Rattle.std.specs.Cmp.Lexicographic.{nat_list_cmp_total, slice_cmp}
use Rattle.std.specs.Ordering.{nat_cmp}
use Rattle.std.specs.declared.cmp.Ordering.TheVariants.{Less, Equal}
use Rattle.std.proofs.Math.Seq.{take-append_seam, drop-append_seam}
use Rattle.std.proofs.lemmas.List.Elements.{Contains-append_cases, Contains-append_left, Contains-append_right}
use Rattle.dns_name.specs.Name.{AreSame, IsBelow, folded_labels}
use Rattle.naptr_data.specs.Zones.{Labels}
use Rattle.naptr_data.proofs.BelowLemmas.{below_same_name}
use Rattle.naptr_data.proofs.CutLemmas.{Contains-after, Contains-head, Contains-middle, Contains-none, head_or_after}
use Rattle.naptr_data.proofs.FoldLemmas.{same_folded}
use Rattle.naptr_rule.specs.Rdata.{rdata}
use Rattle.naptr_rule.specs.declared.rule.Naptr.{Naptr}
use Rattle.dns_wire.specs.Kinds.{cname, internet, is_whole, kind_of, naptr, ns, soa}
use Rattle.dns_wire.specs.Rdata.{rdata_of}
use Rattle.dns_wire.specs.declared.content.Content.{Content}
use Rattle.dns_wire.specs.declared.content.Content.TheVariants as content
use Rattle.dns_wire.specs.declared.record.Record.{Record}
use Rattle.zone_build.specs.Zone.{Zone, AreOneSet, IsIn, IsRising, IsSet, IsValid, weight}
use Rattle.zone_build.proofs.ListLemmas.{AllByRecursion-contains, AllByRecursion-made}
use Rattle.zone_build.proofs.SizeLemmas.{one_set, set_same_name}
use Rattle.zone_db.specs.LookUp.{HasKind}
use Rattle.zone_db.specs.Offering.{RdataRises}
use Rattle.registry.specs.Commands.{HasNoRoom, HasRecord, HasRule, IsNew, IsRuleAt, IsWith}
use Rattle.registry.specs.Holding.{IsHeld, IsOf, IsPlace, IsPut, ttl_after}
use Rattle.registry.specs.declared.place.Place.{Place}
use Rattle.registry.specs.declared.place.Place.TheVariants as place
use Rattle.registry.proofs.ChangeLemmas.{IsFit, canonical_without, put_with, put_without, valid_with, valid_without, zone_of}
use Rattle.registry.proofs.LookLemmas.{free_lacks, in_set, set_after_soa, taken_has, to_set}

-- a list cut at a length
pub cut_front : (set front back : List Record) (at : ℕ) → set ≡ front ++ back → length front ≡ at → take at set ≡ front
cut_front set front back at is size =
    ap (λ n. take n set) (sym size) ∙ ap (take (length front)) is ∙ take-append_seam front back

pub cut_back : (set front back : List Record) (at : ℕ) → set ≡ front ++ back → length front ≡ at → drop at set ≡ back
cut_back set front back at is size =
    ap (λ n. drop n set) (sym size) ∙ ap (drop (length front)) is ∙ drop-append_seam front back

pub cut_after : (set front back : List Record) (one : Record) (at : ℕ) → set ≡ front ++ one ∷ back → length front ≡ at → drop (at + 1) set ≡ back
cut_after set front back one at is size =
    cut_back set (front ++ one ∷ []) back (at + 1) (is ∙ sym (append_assoc front (one ∷ []) back))
    (length-append front (one ∷ []) ∙ ap (λ n. n + 1) size)

-- RDATA that rises, with a record more or less
pub rises_with : (front : List Record) (one : Record) (back : List Record) → RdataRises (front ++ back)
    → AllByRecursion (λ x. slice_cmp nat_cmp (rdata_of x.content) (rdata_of one.content) ≡ Less) front
    → AllByRecursion (λ y. slice_cmp nat_cmp (rdata_of one.content) (rdata_of y.content) ≡ Less) back
    → RdataRises (front ++ one ∷ back)
rises_with [] one back r before after = (after, r)
rises_with (x ∷ front) one back r before after = (
  AllByRecursion-made (λ (y : Record). slice_cmp nat_cmp (rdata_of x.content) (rdata_of y.content) ≡ Less) (front ++ one ∷ back) later,
  rises_with front one back r.1 before.1 after,
)
  where
    later : (y : Record) → Contains (front ++ one ∷ back) y → slice_cmp nat_cmp (rdata_of x.content) (rdata_of y.content) ≡ Less
    later y c = elim (Contains-append_cases front (one ∷ back) y c) [
      | inl first ↦ AllByRecursion-contains (λ (z : Record). slice_cmp nat_cmp (rdata_of x.content) (rdata_of z.content) ≡ Less) (front ++ back) y r.0
          (Contains-append_left front back y first)
      | inr rest ↦ elim (head_or_after one back y rest) [
        | inl here ↦ subst (λ (z : Record). slice_cmp nat_cmp (rdata_of x.content) (rdata_of z.content) ≡ Less) (sym here) before.0
        | inr last ↦ AllByRecursion-contains (λ (z : Record). slice_cmp nat_cmp (rdata_of x.content) (rdata_of z.content) ≡ Less) (front ++ back) y r.0
            (Contains-append_right front back y last)
      ]
    ]

rises_without : (front : List Record) (one : Record) (back : List Record) → RdataRises (front ++ one ∷ back) → RdataRises (front ++ back)
rises_without [] one back r = r.1
rises_without (x ∷ front) one back r = (
  AllByRecursion-made (λ (y : Record). slice_cmp nat_cmp (rdata_of x.content) (rdata_of y.content) ≡ Less) (front ++ back) (λ y c.
      AllByRecursion-contains (λ (z : Record). slice_cmp nat_cmp (rdata_of x.content) (rdata_of z.content) ≡ Less) (front ++ one ∷ back) y r.0
      (elim (Contains-append_cases front back y c) [
        | inl first ↦ Contains-append_left front (one ∷ back) y first
        | inr last ↦ Contains-append_right front (one ∷ back) y (Contains-after one back y last)
      ])),
  rises_without front one back r.1,
)

all_without : (P : Record → Type 0) (front : List Record) (one : Record) (back : List Record) → AllByRecursion P (front ++ one ∷ back)
    → AllByRecursion P (front ++ back)
all_without P [] one back all = all.1
all_without P (x ∷ front) one back all = (all.0, all_without P front one back all.1)

all_with : (P : Record → Type 0) (front : List Record) (one : Record) (back : List Record) → AllByRecursion P (front ++ back) → P one
    → AllByRecursion P (front ++ one ∷ back)
all_with P [] one back all here = (here, all)
all_with P (x ∷ front) one back all here = (all.0, all_with P front one back all.1 here)

pub held_without : (owner : Labels) (kind : ℕ) (set front back : List Record) (one : Record) → set ≡ front ++ one ∷ back → IsHeld owner kind set
    → IsHeld owner kind (front ++ back)
held_without owner kind set front back one is h =
    let g : IsHeld owner kind (front ++ one ∷ back) = subst (IsHeld owner kind) is h in
    record { each = all_without (IsOf owner kind) front one back g.each; rising = rises_without front one back g.rising }

-- a record as a command makes it
pub record IsMade (owner : Labels) (set : List Record) (said : Content) (one : Record) : Type 0 where
  pub at : one.owner ≡ folded_labels owner
  pub kind : one.kind ≡ kind_of said
  pub class : one.class ≡ internet
  pub content : one.content ≡ said
  pub ttl : one.ttl ≡ ttl_after set

module _ (zone : Zone) (v : IsValid zone) (owner : Labels) (set : List Record) (said : Content) (one : Record) (made : IsMade owner set said one)
    (s : IsSet zone.records owner (kind_of said) set) where
  own : AreSame one.owner owner
  own = ap folded_labels made.at ∙ sym (same_folded owner)

  pub is_in : IsIn owner (kind_of said) one
  is_in = (own, made.kind)

  to_own : (other : Record) → AreOneSet one other → IsIn owner (kind_of said) other
  to_own other same = (sym same.0 ∙ own, sym same.1 ∙ made.kind)

  same_ttl : (other : Record) → Contains zone.records other → AreOneSet one other → one.ttl ≡ other.ttl
  same_ttl other c same = made.ttl ∙ by set (to_set zone.records set owner (kind_of said) other s c (to_own other same)) (in_own)
    where
      in_own : (x : Record) → Contains set x → Contains zone.records x × AreOneSet x other
      in_own x d =
          let i : IsIn owner (kind_of said) x = AllByRecursion-contains (IsIn owner (kind_of said)) set x s.each d in
          let j : IsIn owner (kind_of said) other = to_own other same in
          (in_set zone.records set owner (kind_of said) x s d, (i.0 ∙ sym j.0, i.1 ∙ sym j.1))

      by : (xs : List Record) → Contains xs other → ((x : Record) → Contains xs x → Contains zone.records x × AreOneSet x other) → ttl_after xs ≡ other.ttl
      by [] d all = absurd (Contains-none other d)
      by (x ∷ xs) d all = let h = all x (Contains-head x xs) in v.ttl x other h.0 c h.1

  first_ttl : ((other : Record) → Contains zone.records other → ¬ AreOneSet one other) → one.ttl ≡ 3_600
  first_ttl none = made.ttl ∙ by set (λ x d. none x (in_set zone.records set owner (kind_of said) x s d) (one_of x d))
    where
      one_of : (x : Record) → Contains set x → AreOneSet one x
      one_of x d =
          let i : IsIn owner (kind_of said) x = AllByRecursion-contains (IsIn owner (kind_of said)) set x s.each d in
          (own ∙ sym i.0, made.kind ∙ sym i.1)

      by : (xs : List Record) → ((x : Record) → Contains xs x → ⊥) → ttl_after xs ≡ 3_600
      by [] lacks = refl
      by (x ∷ xs) lacks = absurd (lacks x (Contains-head x xs))

  pub made_new : IsNew zone owner said one
  made_new = record { owner = made.at; kind = made.kind; class = made.class; content = made.content; ttl = same_ttl; first = first_ttl }

  pub made_fit : IsTrue (is_whole said) → kind_of said ≢ soa → kind_of said ≢ ns → IsBelow owner zone.apex
      → ((other : Record) → Contains zone.records other → AreSame other.owner owner → (kind_of said ≢ cname) × (other.kind ≢ cname))
      → weight set + (265 + length (rdata_of said)) ≤ 60_000 → IsFit zone one
  made_fit whole no_soa no_ns inside alone room = record {
    plain = record { class = made.class; whole = subst (λ (x : Content). IsTrue (is_whole x)) (sym made.content) whole };
    no_soa = λ e. no_soa (sym made.kind ∙ e);
    no_ns = λ e. no_ns (sym made.kind ∙ e);
    folded = own ∙ sym made.at;
    inside = below_same_name owner one.owner zone.apex (sym own) inside;
    ttl = same_ttl;
    alone = λ other c same. let h = alone other c (sym same ∙ own) in ((λ e. h.0 (sym made.kind ∙ e)), h.1);
    room = λ other t.
        let equal : set ≡ other = one_set zone.records one.owner one.kind set other
        (set_same_name zone.records owner (kind_of said) one set is_in s) t in
        subst (λ (x : Content). weight other + (265 + length (rdata_of x)) ≤ 60_000) (sym made.content)
        (subst (λ l. weight l + (265 + length (rdata_of said)) ≤ 60_000) equal room);
  }

-- a rule that is put in
module _ (apex : Labels) (the_soa : Record) (olds : List Record) (v : IsValid (zone_of apex the_soa olds)) (owner : Labels) (rule : Naptr)
    (set : List Record) (s : IsSet olds owner naptr set) (h : IsHeld (folded_labels owner) naptr set) where
  whole_set : IsSet (the_soa ∷ olds) owner naptr set
  whole_set = set_after_soa the_soa olds set owner naptr v.order.0 (λ e. omega (arith, e)) s

  pub free_place : (p : Place) (at : ℕ) → IsPlace set rule p → (p ≡ place.Taken at) ⊎ (p ≡ place.Free at)
      → ¬ HasRule (zone_of apex the_soa olds) owner rule → IsPlace set rule (place.Free at)
  free_place p at is (inl e) new = absurd (new (taken_has (zone_of apex the_soa olds) set owner rule at whole_set (subst (IsPlace set rule) e is)))
  free_place p at is (inr e) new = subst (IsPlace set rule) e is

  pub free_within : (at : ℕ) → IsPlace set rule (place.Free at) → at ≤ length set
  free_within at (front, back, is, size, before, after) =
      let whole = ap length is ∙ length-append front back in omega (arith, whole, size)

  pub rule_held : (at : ℕ) (one : Record) (more : List Record) → IsPlace set rule (place.Free at) → IsMade owner set (content.Naptr rule) one
      → more ≡ take at set ++ one ∷ drop at set → IsHeld (folded_labels owner) naptr more
  rule_held at one more (front, back, is, size, before, after) made e =
      let g : IsHeld (folded_labels owner) naptr (front ++ back) = subst (IsHeld (folded_labels owner) naptr) is h in
      let same : rdata_of one.content ≡ rdata rule = ap rdata_of made.content in
      let cut : more ≡ front ++ one ∷ back =
      e ∙ ap (λ l. l ++ one ∷ drop at set) (cut_front set front back at is size) ∙ ap (λ l. front ++ one ∷ l) (cut_back set front back at is size) in
      subst (IsHeld (folded_labels owner) naptr) (sym cut) (record {
        each = all_with (IsOf (folded_labels owner) naptr) front one back g.each (made.at, made.kind);
        rising = rises_with front one back g.rising
            (subst (λ b. AllByRecursion (λ (x : Record). slice_cmp nat_cmp (rdata_of x.content) b ≡ Less) front) (sym same) before)
            (subst (λ b. AllByRecursion (λ (y : Record). slice_cmp nat_cmp b (rdata_of y.content) ≡ Less) back) (sym same) after);
      })

  pub rule_fit : (one : Record) → IsMade owner set (content.Naptr rule) one → IsBelow owner apex
      → ¬ HasKind (zone_of apex the_soa olds) owner cname → ¬ HasNoRoom (zone_of apex the_soa olds) owner rule → IsFit (zone_of apex the_soa olds) one
  rule_fit one made inside unaliased room =
      made_fit (zone_of apex the_soa olds) v owner set (content.Naptr rule) one made whole_set refl (λ e. omega (arith, e)) (λ e. omega (arith, e))
      inside (λ other c same. ((λ e. omega (arith, e)), (λ k. unaliased (other, c, (same, k)))))
      (fits (weight set + (265 + length (rdata rule))) (λ full. room (set, whole_set, full)))
    where
      fits : (n : ℕ) → ¬ (60_000 < n) → n ≤ 60_000
      fits n not = grind arith

  pub rule_new : (one : Record) → IsMade owner set (content.Naptr rule) one → IsNew (zone_of apex the_soa olds) owner (content.Naptr rule) one
  rule_new one made = made_new (zone_of apex the_soa olds) v owner set (content.Naptr rule) one made whole_set

  -- what adding a rule makes
  pub rule_put : (at : ℕ) (one : Record) (more news : List Record) → IsPlace set rule (place.Free at) → IsMade owner set (content.Naptr rule) one
      → more ≡ take at set ++ one ∷ drop at set → IsPut olds news set more → IsRising news → IsBelow owner apex
      → ¬ HasKind (zone_of apex the_soa olds) owner cname → ¬ HasNoRoom (zone_of apex the_soa olds) owner rule
      → IsValid (zone_of apex the_soa news)
      × ((made : Record) × IsNew (zone_of apex the_soa olds) owner (content.Naptr rule) made × IsWith (zone_of apex the_soa olds) made (zone_of apex the_soa news))
  rule_put at one more news (front, back, is, size, before, after) made e put rising inside unaliased room =
      let cut : more ≡ front ++ one ∷ back =
      e ∙ ap (λ l. l ++ one ∷ drop at set) (cut_front set front back at is size) ∙ ap (λ l. front ++ one ∷ l) (cut_back set front back at is size) in
      let with : IsWith (zone_of apex the_soa olds) one (zone_of apex the_soa news) =
      put_with apex the_soa olds news set more one v front back is cut put rising (λ k. omega (arith, made.kind, k)) in (
        valid_with (zone_of apex the_soa olds) (zone_of apex the_soa news) one v with (rule_fit one made inside unaliased room),
        (one, rule_new one made, with),
      )

-- a rule that is taken away
module _ (apex : Labels) (the_soa : Record) (olds : List Record) (v : IsValid (zone_of apex the_soa olds)) (owner : Labels) (rule : Naptr)
    (set : List Record) (s : IsSet olds owner naptr set) (h : IsHeld (folded_labels owner) naptr set) where
  all_set : IsSet (the_soa ∷ olds) owner naptr set
  all_set = set_after_soa the_soa olds set owner naptr v.order.0 (λ e. omega (arith, e)) s

  pub taken_place : (p : Place) → IsPlace set rule p → HasRule (zone_of apex the_soa olds) owner rule → (at : ℕ) × IsPlace set rule (place.Taken at) × (p ≡ place.Taken at)
  taken_place (place.Taken at) is has = (at, is, refl)
  taken_place (place.Free at) is has = absurd (free_lacks (zone_of apex the_soa olds) set owner rule at all_set is has)

  pub taken_within : (at : ℕ) → IsPlace set rule (place.Taken at) → at < length set
  taken_within at (front, one, back, is, size, same) =
      let whole = ap length is ∙ length-append front (one ∷ back) in omega (arith, whole, size)

  pub taken_held : (at : ℕ) (less : List Record) → IsPlace set rule (place.Taken at) → less ≡ take at set ++ drop (at + 1) set
      → IsHeld (folded_labels owner) naptr less
  taken_held at less (front, one, back, is, size, same) e =
      subst (IsHeld (folded_labels owner) naptr)
      (sym (e ∙ ap (λ l. l ++ drop (at + 1) set) (cut_front set front (one ∷ back) at is size)
      ∙ ap (λ l. front ++ l) (cut_after set front back one at is size)))
      (held_without (folded_labels owner) naptr set front back one is h)

  -- what removing a rule makes
  without_rule : (front back less news : List Record) (one : Record) → set ≡ front ++ one ∷ back → less ≡ front ++ back
      → rdata_of one.content ≡ rdata rule → IsPut olds news set less → IsRising news
      → IsValid (zone_of apex the_soa news)
      × ((gone : Record) × IsRuleAt owner rule gone × IsWith (zone_of apex the_soa news) gone (zone_of apex the_soa olds))
  without_rule front back less news one is cut same put rising =
      let without = put_without apex the_soa olds news set less one v front back is cut put in
      let c : Contains set one = subst (λ l. Contains l one) (sym is) (Contains-middle front one back) in (
        valid_without (zone_of apex the_soa olds) (zone_of apex the_soa news) one v without
            (canonical_without apex the_soa olds news set less one v front back is cut put rising),
        (one, (AllByRecursion-contains (IsIn owner naptr) set one s.each c, same), without),
      )

  pub rule_taken : (at : ℕ) (less news : List Record) → IsPlace set rule (place.Taken at) → less ≡ take at set ++ drop (at + 1) set
      → IsPut olds news set less → IsRising news
      → IsValid (zone_of apex the_soa news)
      × ((gone : Record) × IsRuleAt owner rule gone × IsWith (zone_of apex the_soa news) gone (zone_of apex the_soa olds))
  rule_taken at less news (front, one, back, is, size, same) e put rising =
      without_rule front back less news one is
      (e ∙ ap (λ l. l ++ drop (at + 1) set) (cut_front set front (one ∷ back) at is size)
      ∙ ap (λ l. front ++ l) (cut_after set front back one at is size))
      same put rising

  only : (xs : List Record) (one : Record) → Contains xs one → length xs < 2 → xs ≡ one ∷ []
  only [] one c short = absurd (Contains-none one c)
  only (x ∷ []) one c short = elim (head_or_after x [] one c) [
    | inl here ↦ ap (λ y. y ∷ []) (sym here)
    | inr later ↦ absurd (Contains-none one later)
  ]
  only (x ∷ y ∷ xs) one c short = absurd (omega (arith, short))

  pub last_rule_taken : (news : List Record) → HasRule (zone_of apex the_soa olds) owner rule → length set < 2 → IsPut olds news set [] → IsRising news
      → IsValid (zone_of apex the_soa news)
      × ((gone : Record) × IsRuleAt owner rule gone × IsWith (zone_of apex the_soa news) gone (zone_of apex the_soa olds))
  last_rule_taken news (one, c, (i, same)) short put rising =
      without_rule [] [] [] news one (only set one (to_set (the_soa ∷ olds) set owner naptr one all_set c i) short) refl same put rising

-- aliases
module _ (apex : Labels) (the_soa : Record) (olds : List Record) (v : IsValid (zone_of apex the_soa olds)) (owner : Labels)
    (set : List Record) (s : IsSet olds owner cname set) (h : IsHeld (folded_labels owner) cname set) where
  alias_set : IsSet (the_soa ∷ olds) owner cname set
  alias_set = set_after_soa the_soa olds set owner cname v.order.0 (λ e. omega (arith, e)) s

  nothing_there : (xs : List Record) → ((x : Record) → Contains xs x → ⊥) → xs ≡ []
  nothing_there [] lacks = refl
  nothing_there (x ∷ xs) lacks = absurd (lacks x (Contains-head x xs))

  no_alias : ¬ HasRecord (zone_of apex the_soa olds) owner → set ≡ []
  no_alias none =
      nothing_there set (λ x c. none (x, in_set (the_soa ∷ olds) set owner cname x alias_set c, (AllByRecursion-contains (IsIn owner cname) set x s.each c).0))

  alone_held : (one : Record) → IsOf (folded_labels owner) cname one → IsHeld (folded_labels owner) cname (one ∷ [])
  alone_held one of = record { each = (of, tt); rising = (tt, tt) }

  alias_more : (one : Record) (more : List Record) → ¬ HasRecord (zone_of apex the_soa olds) owner
      → more ≡ take (length set) set ++ one ∷ drop (length set) set → more ≡ one ∷ []
  alias_more one more none e =
      e ∙ ap (λ l. take (length l) l ++ one ∷ drop (length l) l) (no_alias none)

  pub alias_held : (target : Labels) (one : Record) (more : List Record) → IsMade owner set (content.Cname target) one
      → ¬ HasRecord (zone_of apex the_soa olds) owner → more ≡ take (length set) set ++ one ∷ drop (length set) set
      → IsHeld (folded_labels owner) cname more
  alias_held target one more made none e =
      subst (IsHeld (folded_labels owner) cname) (sym (alias_more one more none e)) (alone_held one (made.at, made.kind))

  -- what an alias makes
  pub alias_put : (target : Labels) (one : Record) (more news : List Record) → length (rdata_of (content.Cname target)) ≤ 255
      → IsMade owner set (content.Cname target) one → ¬ HasRecord (zone_of apex the_soa olds) owner
      → more ≡ take (length set) set ++ one ∷ drop (length set) set → IsPut olds news set more → IsRising news → IsBelow owner apex
      → IsValid (zone_of apex the_soa news)
      × ((made : Record) × IsNew (zone_of apex the_soa olds) owner (content.Cname target) made × IsWith (zone_of apex the_soa olds) made (zone_of apex the_soa news))
  alias_put target one more news short made none e put rising inside =
      let with : IsWith (zone_of apex the_soa olds) one (zone_of apex the_soa news) =
      put_with apex the_soa olds news set more one v [] [] (no_alias none) (alias_more one more none e) put rising
      (λ k. omega (arith, made.kind, k)) in
      let light : weight set ≡ 0 = ap weight (no_alias none) ∙ grind arith in (
        valid_with (zone_of apex the_soa olds) (zone_of apex the_soa news) one v with
            (made_fit (zone_of apex the_soa olds) v owner set (content.Cname target) one made alias_set refl (λ k. omega (arith, k)) (λ k. omega (arith, k))
            inside (λ other c same. absurd (none (other, c, same))) (omega (arith, light, short))),
        (one, made_new (zone_of apex the_soa olds) v owner set (content.Cname target) one made alias_set, with),
      )

  lone : (xs : List Record) (one : Record) → RdataRises xs → Contains xs one
      → ((x : Record) → Contains xs x → rdata_of one.content ≡ rdata_of x.content) → xs ≡ one ∷ []
  lone [] one r c same = absurd (Contains-none one c)
  lone (x ∷ []) one r c same = elim (head_or_after x [] one c) [
    | inl here ↦ ap (λ y. y ∷ []) (sym here)
    | inr later ↦ absurd (Contains-none one later)
  ]
  lone (x ∷ y ∷ xs) one r c same =
      let equal : rdata_of x.content ≡ rdata_of y.content =
      sym (same x (Contains-head x (y ∷ xs))) ∙ same y (Contains-after x (y ∷ xs) y (Contains-head y xs)) in
      let itself : slice_cmp nat_cmp (rdata_of x.content) (rdata_of y.content) ≡ Equal =
      subst (λ b. slice_cmp nat_cmp (rdata_of x.content) b ≡ Equal) equal (tied_itself nat_list_cmp_total (rdata_of x.content)) in
      let less : slice_cmp nat_cmp (rdata_of x.content) (rdata_of y.content) ≡ Less = r.0.0 in
      let no : Less ≡ Equal = sym less ∙ itself in
      absurd (cc no)

  -- what dropping an alias makes
  pub alias_taken : (news : List Record) → HasKind (zone_of apex the_soa olds) owner cname → IsPut olds news set [] → IsRising news
      → IsValid (zone_of apex the_soa news)
      × ((gone : Record) × IsIn owner cname gone × IsWith (zone_of apex the_soa news) gone (zone_of apex the_soa olds))
  alias_taken news (one, c, i) put rising =
      let there : Contains set one = to_set (the_soa ∷ olds) set owner cname one alias_set c i in
      let is : set ≡ one ∷ [] =
      lone set one h.rising there (λ x d.
      let j : IsIn owner cname x = AllByRecursion-contains (IsIn owner cname) set x s.each d in
      (v.alias one x c (in_set (the_soa ∷ olds) set owner cname x alias_set d) i.1 (i.0 ∙ sym j.0)).1) in
      let without = put_without apex the_soa olds news set [] one v [] [] is refl put in (
        valid_without (zone_of apex the_soa olds) (zone_of apex the_soa news) one v without
            (canonical_without apex the_soa olds news set [] one v [] [] is refl put rising),
        (one, i, without),
      )
