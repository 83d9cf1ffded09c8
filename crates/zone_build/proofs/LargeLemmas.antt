-- The first set that is too large, where one SOA stands before records that rise.
use Rattle.std.proofs.Common.{◌≡◌, ◌≢◌, ◌⊎◌, inl, inr, ℕ, suc, ◌+◌, ◌<◌, List, [], ◌∷◌, ◌++◌, Some, None, refl, sym, ap, subst, ◌∙◌, arith}
use Rattle.std.specs.Prelude.{Contains}
use Rattle.std.specs.List.{AllByRecursion}
use Rattle.std.proofs.lemmas.List.Elements.{Contains-append_left}
use Rattle.naptr_data.proofs.CutLemmas.{Contains-head, Contains-middle, head_or_after}
use Rattle.naptr_data.specs.Zones.{Labels}
use Rattle.dns_wire.specs.Kinds.{soa}
use Rattle.dns_wire.specs.declared.record.Record.{Record}
use Rattle.zone_build.specs.Zone.{IsIn, IsSet, IsCanonical, weight}
use Rattle.zone_build.specs.Faults.{IsLarge}
use Rattle.zone_build.specs.Building.{IsFirstLarge}
use Rattle.zone_build.proofs.ListLemmas.{AllByRecursion-contains, AllByRecursion-made, only_one}
use Rattle.zone_build.proofs.SizeLemmas.{one_set}

-- no other record is of the SOA's kind
abbrev Lacks : List Record → Type 0
Lacks others = AllByRecursion (λ (one : Record). one.kind ≢ soa) others

own_set : (a : Record) (others : List Record) → a.kind ≡ soa → Lacks others → IsSet (a ∷ others) a.owner a.kind (a ∷ [])
own_set a others k none = record {
  before = [];
  after = others;
  parts = refl;
  each = ((refl, refl), tt);
  none_before = tt;
  none_after = AllByRecursion-made (λ r. ¬ IsIn a.owner a.kind r) others
      (λ r c i. AllByRecursion-contains (λ (one : Record). one.kind ≢ soa) others r none c (i.1 ∙ k));
}

-- the set of the SOA is the same with the others and without
soa_large : (a : Record) (one other : List Record) → a.kind ≡ soa → Lacks one → Lacks other → IsLarge (a ∷ one) a → IsLarge (a ∷ other) a
soa_large a one other k none none' (set, s, more) =
    let is = one_set (a ∷ one) a.owner a.kind set (a ∷ []) s (own_set a one k none) in
    (a ∷ [], own_set a other k none', subst (λ l. 60_000 < weight l) is more)

pub tail_set : (a : Record) (others : List Record) (owner : Labels) (kind : ℕ) (set : List Record)
    → ¬ IsIn owner kind a → IsSet others owner kind set → IsSet (a ∷ others) owner kind set
tail_set a others owner kind set not s = record {
  before = a ∷ s.before;
  after = s.after;
  parts = ap (λ l. a ∷ l) s.parts;
  each = s.each;
  none_before = (not, s.none_before);
  none_after = s.none_after;
}

set_parts : (a : Record) (others : List Record) (owner : Labels) (kind : ℕ) (before set after : List Record)
    → ¬ IsIn owner kind a → a ∷ others ≡ before ++ (set ++ after) → AllByRecursion (IsIn owner kind) set
    → AllByRecursion (λ one. ¬ IsIn owner kind one) before → AllByRecursion (λ one. ¬ IsIn owner kind one) after
    → (set ≡ []) ⊎ IsSet others owner kind set
set_parts a others owner kind [] [] after not parts each b n = inl refl
set_parts a others owner kind [] (x ∷ set) after not parts each b n =
    let e : a ≡ x = cc in absurd (not (subst (IsIn owner kind) (sym e) each.0))
set_parts a others owner kind (y ∷ before) set after not parts each b n = inr (record {
  before = before;
  after = after;
  parts = cc;
  each = each;
  none_before = b.1;
  none_after = n;
})

apart : (a r : Record) (others : List Record) → a.kind ≡ soa → Lacks others → Contains others r → ¬ IsIn r.owner r.kind a
apart a r others k none c i = AllByRecursion-contains (λ (one : Record). one.kind ≢ soa) others r none c (sym i.1 ∙ k)

large_after : (a r : Record) (others : List Record) → a.kind ≡ soa → Lacks others → Contains others r → IsLarge others r → IsLarge (a ∷ others) r
large_after a r others k none c (set, s, more) = (set, tail_set a others r.owner r.kind set (apart a r others k none c) s, more)

large_tail : (a r : Record) (others : List Record) → a.kind ≡ soa → Lacks others → Contains others r → IsLarge (a ∷ others) r → IsLarge others r
large_tail a r others k none c (set, s, more) =
    elim (set_parts a others r.owner r.kind s.before set s.after
    (apart a r others k none c) s.parts s.each s.none_before s.none_after) [
      | inl is ↦ absurd (omega (arith, subst (λ l. 60_000 < weight l) is more))
      | inr t ↦ (set, t, more)
    ]

-- the SOA's set is too large
pub first_at_soa : (a : Record) (others : List Record) (place : ℕ) → IsCanonical (a ∷ others)
    → IsFirstLarge (a ∷ []) (Some place) → IsFirstLarge (a ∷ others) (Some 0)
first_at_soa a others place c (one, f) =
    let among : Contains (a ∷ []) one = subst (λ l. Contains l one) (sym f.parts) (Contains-middle f.before one f.after) in
    let large : IsLarge (a ∷ []) a = subst (IsLarge (a ∷ [])) (only_one a one among) f.here in
    (a, record { before = []; after = others; parts = refl; at = refl; here = soa_large a [] others c.0 tt c.1 large; first = tt })

-- another set is
pub first_after : (a : Record) (others : List Record) (place : ℕ) → IsCanonical (a ∷ others)
    → IsFirstLarge (a ∷ []) None → IsFirstLarge others (Some place) → IsFirstLarge (a ∷ others) (Some (place + 1))
first_after a others place c none (one, f) =
    let among : Contains others one = subst (λ l. Contains l one) (sym f.parts) (Contains-middle f.before one f.after) in (
      one,
      record {
        before = a ∷ f.before;
        after = f.after;
        parts = ap (λ l. a ∷ l) f.parts;
        at = ap suc f.at ∙ omega arith;
        here = large_after a one others c.0 c.1 among f.here;
        first = (
          λ l. none a (Contains-head a []) (soa_large a others [] c.0 c.1 tt l),
          AllByRecursion-made (λ r. ¬ IsLarge (a ∷ others) r) f.before (λ r k l.
              AllByRecursion-contains (λ r. ¬ IsLarge others r) f.before r f.first k
              (large_tail a r others c.0 c.1
              (subst (λ x. Contains x r) (sym f.parts) (Contains-append_left f.before (one ∷ f.after) r k)) l)),
        );
      },
    )

-- no set is
pub none_at_all : (a : Record) (others : List Record) → IsCanonical (a ∷ others) → IsFirstLarge (a ∷ []) None
    → IsFirstLarge others None → IsFirstLarge (a ∷ others) None
none_at_all a others c none none' one k l = elim (head_or_after a others one k) [
  | inl here ↦ none a (Contains-head a []) (soa_large a others [] c.0 c.1 tt (subst (IsLarge (a ∷ others)) here l))
  | inr after ↦ none' one after (large_tail a one others c.0 c.1 after l)
]
