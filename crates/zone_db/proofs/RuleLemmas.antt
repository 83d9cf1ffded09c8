-- The rules of a set are in order as they stand.
use Rattle.std.proofs.Common.{◌≡◌, ◌≢◌, ◌⊎◌, inl, inr, ℕ, zero, suc, ◌+◌, ◌<◌, ◌≤◌, List, [], ◌∷◌, ◌++◌, length, take}
use Rattle.std.proofs.Common.{get_or, refl, sym, ap, subst, ◌∙◌, arith, length-append}
use Rattle.std.specs.Prelude.{Contains}
use Rattle.std.specs.List.{AllByRecursion}
use Rattle.std.specs.declared.cmp.Ordering.TheVariants.{Less}
use Rattle.std.specs.Ordering.{nat_cmp, ordering_then}
use Rattle.std.proofs.lemmas.Cmp.{nat_cmp_total, nat_list_cmp_total, tied_itself}
use Rattle.std.proofs.lemmas.List.{take_more, take_all}
use Rattle.std.proofs.lemmas.List.Elements.{Contains-append_left, Contains-append_right, Contains-append_cases, Contains-get_or}
use Rattle.naptr_data.proofs.CutLemmas.{Contains-head, Contains-after, Contains-none, head_or_after}
use Rattle.naptr_rule.specs.Rank.{rank_of}
use Rattle.naptr_rule.specs.Rdata.{IsRule, rdata}
use Rattle.naptr_data.specs.Zones.{Labels, IsRising}
use Rattle.naptr_rule.specs.declared.rule.Naptr.{Naptr}
use Rattle.dns_name.specs.Name.{folded_labels, wire_of}
use Rattle.dns_wire.specs.Rdata.{rdata_of}
use Rattle.dns_wire.specs.declared.content.Content.{Content}
use Rattle.dns_wire.specs.declared.content.Content.TheVariants as content
use Rattle.dns_wire.specs.declared.record.Record.{Record}
use Rattle.zone_build.specs.Zone.{AreOneSet, IsCanonical, IsIn, IsSet, order_of, owner_order}
use Rattle.zone_build.specs.Zone as zone
use Rattle.zone_build.proofs.ListLemmas.{AllByRecursion-contains, AllByRecursion-made, only_one}
use Rattle.zone_build.proofs.OrderLemmas.{bytes_cmp}
use Rattle.zone_build.proofs.RdataLemmas.{rank_is_rdata}
use Rattle.zone_db.specs.LookUp.{AreRulesOf}
use Rattle.zone_db.specs.Offering.{IsPushed, RdataRises}

-- RDATA of records of one set
rdata_less : (x y : Record) → AreOneSet x y → order_of x y ≡ Less → bytes_cmp (rdata_of x.content) (rdata_of y.content) ≡ Less
rdata_less x y a less =
    sym (ap (λ o. ordering_then o
    (ordering_then (nat_cmp x.kind y.kind) (bytes_cmp (rdata_of x.content) (rdata_of y.content))))
    (ap (λ n. bytes_cmp (wire_of (folded_labels x.owner)) (wire_of n)) (sym a.0)
    ∙ tied_itself nat_list_cmp_total (wire_of (folded_labels x.owner)))
    ∙ ap (λ o. ordering_then o (bytes_cmp (rdata_of x.content) (rdata_of y.content))) (ap (nat_cmp x.kind) (sym a.1) ∙ tied_itself nat_cmp_total x.kind))
    ∙ less

-- records that rise and are of one set
set_rises : (owner : Labels) (kind : ℕ) (set rest : List Record) → zone.IsRising (set ++ rest) → AllByRecursion (IsIn owner kind) set → RdataRises set
set_rises owner kind [] rest r each = tt
set_rises owner kind (x ∷ set) rest r each = (
  AllByRecursion-made (λ next. bytes_cmp (rdata_of x.content) (rdata_of next.content) ≡ Less) set (λ y c.
      let i = AllByRecursion-contains (IsIn owner kind) set y each.1 c in
      rdata_less x y (each.0.0 ∙ sym i.0, each.0.1 ∙ sym i.1)
      (AllByRecursion-contains (λ (next : Record). order_of x next ≡ Less) (set ++ rest) y r.0
      (Contains-append_left set rest y c))),
  set_rises owner kind set rest r.1 each.1,
)

rising_end : (xs ys : List Record) → zone.IsRising (xs ++ ys) → zone.IsRising ys
rising_end [] ys r = r
rising_end (x ∷ xs) ys r = rising_end xs ys r.1

-- a set of records in canonical order
pub rdata_rises : (records : List Record) (owner : Labels) (kind : ℕ) (set : List Record) → IsCanonical records → IsSet records owner kind set → RdataRises set
rdata_rises records owner kind set c s = by s.before set (subst IsCanonical s.parts c) s.each
  where
    by : (before set : List Record) → IsCanonical (before ++ (set ++ s.after)) → AllByRecursion (IsIn owner kind) set → RdataRises set
    by (b ∷ before) set c each = set_rises owner kind set s.after (rising_end before (set ++ s.after) c.2) each
    by [] [] c each = tt
    by [] (x ∷ set) c each = set_rises owner kind (x ∷ set) [] (alone x set c each) each
      where
        alone : (x : Record) (set : List Record) → IsCanonical (x ∷ (set ++ s.after))
            → AllByRecursion (IsIn owner kind) (x ∷ set) → zone.IsRising ((x ∷ set) ++ [])
        alone x [] c each = (tt, tt)
        alone x (y ∷ set) c each = absurd (c.1.0 (each.1.0.1 ∙ sym each.0.1 ∙ c.0))

-- the rules so far
pub record HasRulesOf (taken : List Record) (rules : List Naptr) : Type 0 where
  pub are : AreRulesOf taken rules
  pub fields : (rule : Naptr) → Contains rules rule → IsRule rule
  pub few : length rules ≤ length taken

pub has_none : HasRulesOf [] []
has_none = record {
  are = record { each = λ rule. (λ c. absurd (Contains-none rule c), λ (one, c, e). absurd (Contains-none one c)); rising = tt };
  fields = λ rule c. absurd (Contains-none rule c);
  few = omega arith;
}

rising_push : (rules : List Naptr) (rule : Naptr) → IsRising rules → ((s : Naptr) → Contains rules s → rank_of s rule ≡ Less) → IsRising (rules ++ rule ∷ [])
rising_push [] rule r before = (tt, tt)
rising_push (s ∷ rules) rule r before = (
  AllByRecursion-made (λ next. rank_of s next ≡ Less) (rules ++ rule ∷ []) (λ t c. elim (Contains-append_cases rules (rule ∷ []) t c) [
    | inl old ↦ AllByRecursion-contains (λ next. rank_of s next ≡ Less) rules t r.0 old
    | inr new ↦ subst (λ u. rank_of s u ≡ Less) (sym (only_one rule t new)) (before s (Contains-head s rules))
  ]),
  rising_push rules rule r.1 (λ t c. before t (Contains-after s rules t c)),
)

rule_or_not : (said : Content) → ((rule : Naptr) × (said ≡ content.Naptr rule)) ⊎ ((rule : Naptr) → said ≢ content.Naptr rule)
rule_or_not (content.A address) = inr (λ r e. cc)
rule_or_not (content.Ns server) = inr (λ r e. cc)
rule_or_not (content.Cname target) = inr (λ r e. cc)
rule_or_not (content.Soa fields) = inr (λ r e. cc)
rule_or_not (content.Ptr name) = inr (λ r e. cc)
rule_or_not (content.Mx preference exchange) = inr (λ r e. cc)
rule_or_not (content.Txt texts) = inr (λ r e. cc)
rule_or_not (content.Aaaa address) = inr (λ r e. cc)
rule_or_not (content.Srv priority weight port target) = inr (λ r e. cc)
rule_or_not (content.Naptr rule) = inl (rule, refl)
rule_or_not (content.Opt options) = inr (λ r e. cc)
rule_or_not (content.Raw bytes) = inr (λ r e. cc)

one_rule : (r s : Naptr) → content.Naptr r ≡ content.Naptr s → r ≡ s
one_rule r s e = cc

pub has_more : (taken : List Record) (x : Record) (old new : List Naptr) → HasRulesOf taken old
    → IsPushed x.content old new
    → ((y : Record) → Contains taken y → bytes_cmp (rdata_of y.content) (rdata_of x.content) ≡ Less)
    → HasRulesOf (taken ++ x ∷ []) new
has_more taken x old new h p before = elim (rule_or_not x.content) [
  | inr not ↦
      subst (HasRulesOf (taken ++ x ∷ [])) (sym (p.other not)) (record {
        are = record {
          each = λ rule. (
            λ c. let f = (h.are.each rule).0 c in (f.0, Contains-append_left taken (x ∷ []) f.0 f.1, f.2),
            λ (one, c, e). elim (Contains-append_cases taken (x ∷ []) one c) [
              | inl there ↦ (h.are.each rule).1 (one, there, e)
              | inr here ↦ absurd (not rule (ap (λ (y : Record). y.content) (sym (only_one x one here)) ∙ e))
            ],
          );
          rising = h.are.rising;
        };
        fields = h.fields;
        few = let f = h.few in omega (arith, f, length-append taken (x ∷ []));
      })
  | inl (r, is) ↦
      let q = p.rule r is in
      subst (HasRulesOf (taken ++ x ∷ [])) (sym q.0) (record {
        are = record {
          each = λ rule. (
            λ c. elim (Contains-append_cases old (r ∷ []) rule c) [
              | inl was ↦ let f = (h.are.each rule).0 was in (f.0, Contains-append_left taken (x ∷ []) f.0 f.1, f.2)
              | inr new ↦ (x, Contains-append_right taken (x ∷ []) x (Contains-head x []), is ∙ ap content.Naptr (sym (only_one r rule new)))
            ],
            λ (one, c, e). elim (Contains-append_cases taken (x ∷ []) one c) [
              | inl there ↦ Contains-append_left old (r ∷ []) rule ((h.are.each rule).1 (one, there, e))
              | inr here ↦
                  let same = one_rule r rule (sym is ∙ ap (λ (y : Record). y.content) (sym (only_one x one here)) ∙ e) in
                  subst (Contains (old ++ r ∷ [])) same (Contains-append_right old (r ∷ []) r (Contains-head r []))
            ],
          );
          rising = rising_push old r h.are.rising (λ s c.
              let f = (h.are.each s).0 c in
              rank_is_rdata s r (h.fields s c) q.1 ∙ ap (λ said. bytes_cmp said (rdata r)) (ap rdata_of (sym f.2))
              ∙ ap (λ said. bytes_cmp (rdata_of f.0.content) (rdata_of said)) (sym is) ∙ before f.0 f.1);
        };
        fields = λ rule c. elim
            (Contains-append_cases old (r ∷ []) rule c) [
              | inl was ↦ h.fields rule was
              | inr new ↦ subst IsRule
                  (sym (only_one r rule new)) q.1
            ];
        few = let f = h.few in omega (arith, f, length-append taken (x ∷ []), length-append old (r ∷ []));
      })
]

-- a record comes after those before it
rises_before : (set : List Record) (i : ℕ) (d y : Record) → RdataRises set → i < length set → Contains (take i set) y
    → bytes_cmp (rdata_of y.content) (rdata_of (get_or set i d).content) ≡ Less
rises_before [] i d y r l c = absurd (omega arith)
rises_before (x ∷ set) zero d y r l c = absurd (Contains-none y c)
rises_before (x ∷ set) (suc i) d y r l c = elim (head_or_after x (take i set) y c) [
  | inl here ↦ subst (λ (z : Record). bytes_cmp (rdata_of z.content) (rdata_of (get_or set i d).content) ≡ Less)
      (sym here) (AllByRecursion-contains (λ next. bytes_cmp (rdata_of x.content) (rdata_of next.content) ≡ Less) set
      (get_or set i d) r.0 (Contains-get_or set i d (omega arith)))
  | inr after ↦ rises_before set i d y r.1 (omega arith) after
]

pub has_next : (set : List Record) (i : ℕ) (x : Record) (old new : List Naptr) → RdataRises set → i < length set
    → x ≡ get_or set i x → HasRulesOf (take i set) old → IsPushed x.content old new → HasRulesOf (take (i + 1) set) new
has_next set i x old new r l is h p =
    subst (λ xs. HasRulesOf xs new) (ap (λ y. take i set ++ y ∷ []) is ∙ sym (take_more set i x l))
    (has_more (take i set) x old new h p
    (λ y c. subst (λ (z : Record). bytes_cmp (rdata_of y.content) (rdata_of z.content) ≡ Less) (sym is)
    (rises_before set i x y r l c)))

pub has_all : (set : List Record) (i : ℕ) (rules : List Naptr) → length set ≤ i → HasRulesOf (take i set) rules → HasRulesOf set rules
has_all set i rules end h = subst (λ xs. HasRulesOf xs rules) (take_all i set end) h
