-- Given records make one zone.
use Rattle.std.proofs.Common.{◌≡◌, ◌≢◌, ◌⊎◌, inl, inr, ℕ, List, [], ◌∷◌, length, refl, sym, ap, subst, ◌∙◌, arith}
use Rattle.std.specs.Prelude.{Contains, IsTrue, Bool}
use Rattle.std.proofs.Math.Bool.{Bool-set}
use Rattle.naptr_data.specs.Zones.{Labels}
use Rattle.std.specs.List.{AllByRecursion}
use Rattle.std.specs.declared.cmp.Ordering.TheVariants.{Less}
use Rattle.std.specs.Ordering.{ordering_reverse}
use Rattle.naptr_data.proofs.CutLemmas.{IsEarlier, two_cuts, Contains-head, Contains-after, Contains-none, Contains-middle, head_or_after}
use Rattle.dns_wire.specs.Kinds.{belongs, soa}
use Rattle.dns_wire.specs.declared.content.Content.{Content}
use Rattle.dns_wire.specs.declared.record.Record.{Record}
use Rattle.zone_build.specs.Zone.{Zone, AreRepeats, IsRising, IsCanonical, order_of}
use Rattle.zone_build.specs.Built.{IsFirst, IsLeastTtl, IsKept, IsBuilt}
use Rattle.zone_build.specs.declared.entry.Key.TheVariants.{Whole}
use Rattle.zone_build.proofs.ListLemmas.{AllByRecursion-contains}
use Rattle.zone_build.proofs.OrderLemmas.{order_of-total, alike_sym, alike_trans}
use Rattle.zone_build.proofs.SoaLemmas.{first_in, first_same}

-- the first record of which something holds is one, at one place
earlier_first : (P : Record → Type 0) (xs : List Record) (place place' : ℕ) (one other : Record)
    (a : IsFirst P xs place one) (b : IsFirst P xs place' other)
    → IsEarlier a.before one a.after b.before other b.after → ⊥
earlier_first P xs place place' one other a b e =
    AllByRecursion-contains (λ (y : Record). ¬ P y) b.before one b.first
    (subst (λ l. Contains l one) (sym e.front) (Contains-middle a.before one e.middle)) a.here

pub one_first : (P : Record → Type 0) (xs : List Record) (place place' : ℕ) (one other : Record)
    → IsFirst P xs place one → IsFirst P xs place' other → (place ≡ place') × (one ≡ other)
one_first P xs place place' one other a b =
    elim (two_cuts a.before one a.after b.before other b.after (sym a.parts ∙ b.parts)) [
      | inl same ↦ (sym a.at ∙ ap length same.0 ∙ b.at, same.1)
      | inr (inl e) ↦ absurd (earlier_first P xs place place' one other a b e)
      | inr (inr e) ↦ absurd (earlier_first P xs place' place other one b a e)
    ]

-- whatever shows that the content belongs to the kind and class, these fields make a record
abbrev Makes : Record → Labels → ℕ → ℕ → ℕ → Content → Type 0
Makes one owner kind class ttl content =
    (shown : IsTrue (belongs kind class content)) → one ≡ record { owner = owner; kind = kind; class = class; ttl = ttl; content = content; belongs = shown }

makes_itself : (one : Record) → Makes one one.owner one.kind one.class one.ttl one.content
makes_itself one shown =
    ap with_shown (is_true_once (belongs one.kind one.class one.content) one.belongs shown)
  where
    with_shown : IsTrue (belongs one.kind one.class one.content) → Record
    with_shown x = record { owner = one.owner; kind = one.kind; class = one.class; ttl = one.ttl; content = one.content; belongs = x }

    is_true_once : (b : Bool) → IsProp (IsTrue b)
    is_true_once b = hlevel (Bool-set)

-- records with the same fields are equal
pub same_fields : (one other : Record) → one.owner ≡ other.owner → one.kind ≡ other.kind → one.class ≡ other.class
    → one.ttl ≡ other.ttl → one.content ≡ other.content → one ≡ other
same_fields one other o k c t s =
    subst (λ x. Makes one other.owner other.kind other.class other.ttl x) s
    (subst (λ x. Makes one other.owner other.kind other.class x one.content) t
    (subst (λ x. Makes one other.owner other.kind x one.ttl one.content) c
    (subst (λ x. Makes one other.owner x one.class one.ttl one.content) k
    (subst (λ x. Makes one x one.kind one.class one.ttl one.content) o (makes_itself one))))) other.belongs

-- a set has one least TTL
one_least : (given : List Record) (one : Record) (ttl ttl' : ℕ) → IsLeastTtl given one ttl → IsLeastTtl given one ttl' → ttl ≡ ttl'
one_least given one ttl ttl' a b =
    let low = b.least a.some.0 a.some.1 a.some.2 in
    let high = a.least b.some.0 b.some.1 b.some.2 in
    let e = a.some.3 in
    let f = b.some.3 in
    omega (arith, low, high, e, f)

-- what is kept of a record is one record
one_copy : (given : List Record) (one other kept kept' : Record) → one ≡ other → IsKept given one kept → IsKept given other kept' → kept ≡ kept'
one_copy given one other kept kept' same a b =
    let b' : IsKept given one kept' = subst (λ (r : Record). IsKept given r kept') (sym same) b in
    same_fields kept kept' (a.owner ∙ sym b'.owner) (a.kind ∙ sym b'.kind) (a.class ∙ sym b'.class)
    (one_least given one kept.ttl kept'.ttl a.ttl b'.ttl) (a.content ∙ sym b'.content)

-- a record of one built zone is one of the other
kept_in : (given : List Record) (zone zone' : Zone) → IsBuilt given zone → IsBuilt given zone' → (kept : Record)
    → Contains zone.records kept → Contains zone'.records kept
kept_in given zone zone' a b kept c =
    let f = a.kept kept c in
    let first = f.1.1 in
    let g = b.all f.0 (first_in (AreRepeats kept) given f.1.0 f.0 first) in
    let h = b.kept g.0 g.1 in
    let same : AreRepeats kept g.0 = alike_trans Whole kept f.0 g.0 first.here g.2 in
    let moved : IsFirst (AreRepeats g.0) given f.1.0 f.0 =
    first_same (AreRepeats kept) (AreRepeats g.0) given f.1.0 f.0
    (λ y k r. alike_trans Whole g.0 kept y (alike_sym Whole kept g.0 same) r)
    (λ y k r. alike_trans Whole kept g.0 y same r) first in
    let from : f.0 ≡ h.0 = (one_first (AreRepeats g.0) given f.1.0 h.1.0 f.0 h.0 moved h.1.1).1 in
    subst (λ (r : Record). Contains zone'.records r) (sym (one_copy given f.0 h.0 kept g.0 from f.2 h.2)) g.1

both_ways : (one other : Record) → order_of one other ≡ Less → order_of other one ≡ Less → ⊥
both_ways one other e f = absurd (cc (sym e ∙ order_of-total.antisymm one other ∙ ap ordering_reverse f))

-- rising records that are the same are in the same order
rising_same : (one other : List Record) → IsRising one → IsRising other
    → ((e : Record) → Contains one e → Contains other e) → ((e : Record) → Contains other e → Contains one e)
    → one ≡ other
rising_same [] [] r s to back = refl
rising_same [] (f ∷ other) r s to back = absurd (Contains-none f (back f (Contains-head f other)))
rising_same (e ∷ one) [] r s to back = absurd (Contains-none e (to e (Contains-head e one)))
rising_same (e ∷ one) (f ∷ other) r s to back =
    let heads : e ≡ f = same_heads e f one other r.0 s.0 (head_or_after f other e (to e (Contains-head e one)))
    (head_or_after e one f (back f (Contains-head f other))) in
    let rests : one ≡ other = rising_same one other r.1 s.1
    (λ x c. after e f one other r.0 heads x c (head_or_after f other x (to x (Contains-after e one x c))))
    (λ x c. after f e other one s.0 (sym heads) x c
    (head_or_after e one x (back x (Contains-after f other x c)))) in
    cc
  where
    same_heads : (e f : Record) (one other : List Record) → AllByRecursion (λ o. order_of e o ≡ Less) one
        → AllByRecursion (λ o. order_of f o ≡ Less) other → (e ≡ f) ⊎ Contains other e → (f ≡ e) ⊎ Contains one f
        → e ≡ f
    same_heads e f one other all all' (inl h) g = h
    same_heads e f one other all all' (inr h) (inl g) = sym g
    same_heads e f one other all all' (inr h) (inr g) =
        absurd (both_ways e f (AllByRecursion-contains (λ o. order_of e o ≡ Less) one f all g)
        (AllByRecursion-contains (λ o. order_of f o ≡ Less) other e all' h))

    after : (e f : Record) (one other : List Record) → AllByRecursion (λ o. order_of e o ≡ Less) one → e ≡ f
        → (x : Record) → Contains one x → (x ≡ f) ⊎ Contains other x → Contains other x
    after e f one other all h x c (inr d) = d
    after e f one other all h x c (inl d) =
        let self : order_of x x ≡ Less =
        subst (λ (y : Record). order_of y x ≡ Less) (h ∙ sym d)
        (AllByRecursion-contains (λ o. order_of e o ≡ Less) one x all c) in
        absurd (both_ways x x self self)

-- canonical records begin with an SOA
pub begins_soa : (records : List Record) → IsCanonical records → (the_soa : Record) × Contains records the_soa × (the_soa.kind ≡ soa)
begins_soa [] c = absurd c
begins_soa (the_soa ∷ rest) c = (the_soa, Contains-head the_soa rest, c.0)

-- there is no other SOA
pub one_soa : (records : List Record) (one other : Record) → IsCanonical records → Contains records one
    → Contains records other → one.kind ≡ soa → other.kind ≡ soa → one ≡ other
one_soa [] one other c a b k l = absurd c
one_soa (the_soa ∷ rest) one other c a b k l = at_head one a k ∙ sym (at_head other b l)
  where
    at_head : (r : Record) → Contains (the_soa ∷ rest) r → r.kind ≡ soa → r ≡ the_soa
    at_head r d h = elim (head_or_after the_soa rest r d) [
      | inl here ↦ here
      | inr after ↦ absurd (AllByRecursion-contains (λ (y : Record). y.kind ≢ soa) rest r c.1 after h)
    ]

-- what stands after the SOA of one list and in another stands after the SOA of that
others_in : (a b : Record) (xs ys : List Record) → IsCanonical (a ∷ xs) → IsCanonical (b ∷ ys)
    → ((e : Record) → Contains (a ∷ xs) e → Contains (b ∷ ys) e) → (e : Record) → Contains xs e → Contains ys e
others_in a b xs ys c d to e k = elim (head_or_after b ys e (to e (Contains-after a xs e k))) [
  | inl here ↦ absurd (AllByRecursion-contains (λ (y : Record). y.kind ≢ soa) xs e c.1 k (ap (λ (r : Record). r.kind) here ∙ d.0))
  | inr after ↦ after
]

-- canonical lists of the same records are equal
pub canonical_same : (one other : List Record) → IsCanonical one → IsCanonical other
    → ((e : Record) → Contains one e → Contains other e) → ((e : Record) → Contains other e → Contains one e)
    → one ≡ other
canonical_same [] other c d to back = absurd c
canonical_same (a ∷ xs) [] c d to back = absurd d
canonical_same (a ∷ xs) (b ∷ ys) c d to back =
    let heads : a ≡ b = one_soa (b ∷ ys) a b d (to a (Contains-head a xs)) (Contains-head b ys) c.0 d.0 in
    let rests : xs ≡ ys = rising_same xs ys c.2 d.2 (others_in a b xs ys c d to) (others_in b a ys xs d c back) in
    cc

same_parts : (one other : Zone) → one.apex ≡ other.apex → one.records ≡ other.records → one ≡ other
same_parts one other e f =
    ap with_apex e ∙ ap with_records f
  where
    with_apex : Labels → Zone
    with_apex x = record { apex = x; records = one.records }

    with_records : List Record → Zone
    with_records x = record { apex = other.apex; records = x }

-- records make one zone
pub one_built : (given : List Record) (one other : Zone) → IsBuilt given one → IsBuilt given other → one ≡ other
one_built given one other a b =
    let the_soa = begins_soa one.records a.order in
    let f = a.kept the_soa.0 the_soa.1 in
    let c = first_in (AreRepeats the_soa.0) given f.1.0 f.0 f.1.1 in
    let k : f.0.kind ≡ soa = sym f.2.kind ∙ the_soa.2 in
    let apexes : one.apex ≡ other.apex = a.apex f.0 c k ∙ sym (b.apex f.0 c k) in
    let lists : one.records ≡ other.records =
    canonical_same one.records other.records a.order b.order (kept_in given one other a b)
    (kept_in given other one b a) in
    same_parts one other apexes lists
