-- Sets among records, and the first that is too large.
use Rattle.std.proofs.Common.{◌≡◌, ◌≢◌, ◌⊎◌, inl, inr, ℕ, zero, suc, ◌+◌, ◌<◌, ◌≤◌, List, [], ◌∷◌, ◌++◌, length, take}
use Rattle.std.proofs.Common.{drop, get_or, refl, sym, ap, subst, ◌∙◌, arith, length-take}
use Rattle.std.specs.Prelude.{Contains}
use Rattle.std.specs.List.{AllByRecursion}
use Rattle.std.specs.declared.cmp.Ordering.TheVariants.{Less, Greater}
use Rattle.std.proofs.Math.Seq.{take-add}
use Rattle.std.proofs.lemmas.List.Sums.{sum_by-append}
use Rattle.std.proofs.lemmas.List.{take_more, take-append-drop, drop-drop, map-append, length-map}
use Rattle.std.proofs.lemmas.List.Elements.{Contains-append_left, Contains-append_right, Contains-append_cases}
use Rattle.naptr_data.proofs.CutLemmas.{Contains-head, Contains-after, Contains-none, head_or_after}
use Rattle.naptr_data.specs.Zones.{Labels}
use Rattle.dns_wire.specs.Rdata.{rdata_of}
use Rattle.dns_wire.specs.declared.record.Record.{Record}
use Rattle.zone_build.specs.Zone.{IsIn, IsSet, IsRising, weight, order_of}
use Rattle.zone_build.specs.Faults.{IsFirst, IsLarge}
use Rattle.zone_build.specs.Building.{Given, key_order, IsOrdered, IsRun, records_of, givens_from}
use Rattle.zone_build.specs.declared.entry.Key.TheVariants.{Set}
use Rattle.zone_build.proofs.ListLemmas.{take_in, drop_in, turned_all, cut_of, AllByRecursion-made, AllByRecursion-contains}
use Rattle.zone_build.proofs.OrderLemmas.{alike_sym, later_apart}

in_none : (owner : Labels) (kind : ℕ) (xs : List Record) (x : Record) → AllByRecursion (λ one. ¬ IsIn owner kind one) xs → Contains xs x → IsIn owner kind x → ⊥
in_none owner kind xs x none c i = AllByRecursion-contains (λ one. ¬ IsIn owner kind one) xs x none c i

-- fronts of which all are in, before parts of which none are, are one
same_fronts : (owner : Labels) (kind : ℕ) (one other after after' : List Record) → AllByRecursion (IsIn owner kind) one
    → AllByRecursion (IsIn owner kind) other → AllByRecursion (λ r. ¬ IsIn owner kind r) after
    → AllByRecursion (λ r. ¬ IsIn owner kind r) after' → one ++ after ≡ other ++ after' → one ≡ other
same_fronts owner kind [] [] after after' a b n m e = refl
same_fronts owner kind [] (y ∷ other) after after' a b n m e =
    absurd (in_none owner kind after y n (subst (λ l. Contains l y) (sym e) (Contains-head y (other ++ after'))) b.0)
same_fronts owner kind (x ∷ one) [] after after' a b n m e =
    absurd (in_none owner kind after' x m (subst (λ l. Contains l x) e (Contains-head x (one ++ after))) a.0)
same_fronts owner kind (x ∷ one) (y ∷ other) after after' a b n m e =
    let heads : x ≡ y = cc in
    let rests : one ++ after ≡ other ++ after' = cc in
    ap (λ z. z ∷ one) heads ∙ ap (λ l. y ∷ l) (same_fronts owner kind one other after after' a.1 b.1 n m rests)

same_sets : (owner : Labels) (kind : ℕ) (before before' one other after after' : List Record)
    → AllByRecursion (λ r. ¬ IsIn owner kind r) before → AllByRecursion (λ r. ¬ IsIn owner kind r) before'
    → AllByRecursion (IsIn owner kind) one → AllByRecursion (IsIn owner kind) other
    → AllByRecursion (λ r. ¬ IsIn owner kind r) after → AllByRecursion (λ r. ¬ IsIn owner kind r) after'
    → before ++ (one ++ after) ≡ before' ++ (other ++ after') → one ≡ other
same_sets owner kind [] [] one other after after' f g a b n m e = same_fronts owner kind one other after after' a b n m e
same_sets owner kind (x ∷ before) (y ∷ before') one other after after' f g a b n m e =
    same_sets owner kind before before' one other after after' f.1 g.1 a b n m (cc)
same_sets owner kind [] (y ∷ before') [] other after after' f g a b n m e =
    none_here other (λ z c. in_none owner kind after z n
    (subst (λ l. Contains l z) (sym e)
    (Contains-append_right (y ∷ before') (other ++ after') z (Contains-append_left other after' z c)))) b
  where
    none_here : (zs : List Record) → ((z : Record) → Contains zs z → ¬ IsIn owner kind z) → AllByRecursion (IsIn owner kind) zs → [] ≡ zs
    none_here [] lacks all = refl
    none_here (z ∷ zs) lacks all = absurd (lacks z (Contains-head z zs) all.0)
same_sets owner kind [] (y ∷ before') (x ∷ one) other after after' f g a b n m e =
    let heads : x ≡ y = cc in absurd (g.0 (subst (IsIn owner kind) heads a.0))
same_sets owner kind (x ∷ before) [] one [] after after' f g a b n m e =
    none_here one (λ z c. in_none owner kind after' z m
    (subst (λ l. Contains l z) e
    (Contains-append_right (x ∷ before) (one ++ after) z (Contains-append_left one after z c)))) a
  where
    none_here : (zs : List Record) → ((z : Record) → Contains zs z → ¬ IsIn owner kind z) → AllByRecursion (IsIn owner kind) zs → zs ≡ []
    none_here [] lacks all = refl
    none_here (z ∷ zs) lacks all = absurd (lacks z (Contains-head z zs) all.0)
same_sets owner kind (x ∷ before) [] one (y ∷ other) after after' f g a b n m e =
    let heads : x ≡ y = cc in absurd (f.0 (subst (IsIn owner kind) (sym heads) b.0))

-- records have one set of an owner and kind
pub one_set : (records : List Record) (owner : Labels) (kind : ℕ) (one other : List Record)
    → IsSet records owner kind one → IsSet records owner kind other → one ≡ other
one_set records owner kind one other a b =
    same_sets owner kind a.before b.before one other a.after b.after a.none_before b.none_before a.each b.each a.none_after b.none_after (sym a.parts ∙ b.parts)

-- the set of a name and kind is that of each of its records
pub set_same_name : (records : List Record) (owner : Labels) (kind : ℕ) (other : Record) (set : List Record)
    → IsIn owner kind other → IsSet records owner kind set → IsSet records other.owner other.kind set
set_same_name records owner kind other set same s = record {
  before = s.before;
  after = s.after;
  parts = s.parts;
  each = AllByRecursion-made (IsIn other.owner other.kind) set
      (λ r c. let i = AllByRecursion-contains (IsIn owner kind) set r s.each c in (i.0 ∙ sym same.0, i.1 ∙ sym same.1));
  none_before = AllByRecursion-made (λ r. ¬ IsIn other.owner other.kind r) s.before
      (λ r c i. in_none owner kind s.before r s.none_before c (i.0 ∙ same.0, i.1 ∙ same.1));
  none_after = AllByRecursion-made (λ r. ¬ IsIn other.owner other.kind r) s.after
      (λ r c i. in_none owner kind s.after r s.none_after c (i.0 ∙ same.0, i.1 ∙ same.1));
}

-- a record of entries
pub record_in : (entries : List Given) (r : Record) → Contains (records_of entries) r → (e : Given) × Contains entries e × (r ≡ e.given)
record_in [] r c = absurd (Contains-none r c)
record_in (e ∷ entries) r c = elim (head_or_after e.given (records_of entries) r c) [
  | inl here ↦ (e, Contains-head e entries, here)
  | inr after ↦ let f = record_in entries r after in (f.0, Contains-after e entries f.0 f.1, f.2)
]

pub in_records : (entries : List Given) (e : Given) → Contains entries e → Contains (records_of entries) e.given
in_records [] e c = absurd (Contains-none e c)
in_records (x ∷ entries) e c = elim (head_or_after x entries e c) [
  | inl here ↦ subst (λ (g : Given). Contains (x.given ∷ records_of entries) g.given) (sym here) (Contains-head x.given (records_of entries))
  | inr after ↦ Contains-after x.given (records_of entries) e.given (in_records entries e after)
]

-- the weight of one more record
pub weight_more : (xs : List Record) (i : ℕ) (x : Record) → i < length xs → x ≡ get_or xs i x
    → weight (take (i + 1) xs) ≡ weight (take i xs) + (265 + length (rdata_of x.content))
weight_more xs i x within is =
    ap weight (take_more xs i x within ∙ ap (λ z. take i xs ++ z ∷ []) (sym is))
    ∙ sum_by-append (λ (one : Record). 265 + length (rdata_of one.content)) (take i xs) (x ∷ []) ∙ omega arith

-- a front weighs no more than the whole
pub weight_front : (xs : List Record) (i : ℕ) → weight (take i xs) ≤ weight xs
weight_front xs i =
    let whole : weight xs ≡ weight (take i xs) + weight (drop i xs) =
    ap weight (sym (take-append-drop i xs))
    ∙ sum_by-append (λ (one : Record). 265 + length (rdata_of one.content)) (take i xs) (drop i xs) in
    omega arith

-- entries before a place come earlier than those from there on, by owner and kind
abbrev pub IsApart : List Given → ℕ → Type 0
IsApart all at = (d e : Given) → Contains (take at all) d → Contains (drop at all) e → key_order Set d.given e.given ≡ Less

take_again : (n at : ℕ) (all : List Given) (d : Given) → Contains (take (at + n) all) d → Contains (take at all) d ⊎ Contains (take n (drop at all)) d
take_again n at all d c =
    elim (Contains-append_cases (take at all) (take n (drop at all)) d
    (subst (λ l. Contains l d) (take-add at n all) c)) [ inl a ↦ inl a | inr b ↦ inr b ]

pub apart_none : (all : List Given) → IsApart all 0
apart_none all d e c k = absurd (Contains-none d c)

pub apart_more : (all : List Given) (at n : ℕ) → IsApart all at → IsRun Set (drop at all) n → IsApart all (at + n)
apart_more all at n apart run d e c k =
    let back : Contains (drop n (drop at all)) e = subst (λ l. Contains l e) (sym (drop-drop n at all)) k in
    elim (take_again n at all d c) [
      | inl old ↦ apart d e old (drop_in n (drop at all) e back)
      | inr new ↦ run.later d e new back
    ]

-- a run is the set of each of its records
pub run_set : (all part : List Given) (at n : ℕ) (e : Given) → IsApart all at → IsRun Set (drop at all) n
    → part ≡ take n (drop at all) → Contains part e
    → IsSet (records_of all) e.given.owner e.given.kind (records_of part)
run_set all part at n e apart run cut c = record {
  before = records_of (take at all);
  after = records_of (drop n (drop at all));
  parts = ap records_of (sym (take-append-drop at all))
      ∙ map-append (λ (g : Given). g.given) (take at all) (drop at all)
      ∙ ap (λ l. records_of (take at all) ++ l)
      (ap records_of (sym (take-append-drop n (drop at all)))
      ∙ map-append (λ (g : Given). g.given) (take n (drop at all)) (drop n (drop at all))
      ∙ ap (λ l. records_of l ++ records_of (drop n (drop at all))) (sym cut));
  each = AllByRecursion-made (IsIn e.given.owner e.given.kind) (records_of part) (λ r k.
      let f = record_in part r k in
      subst (IsIn e.given.owner e.given.kind) (sym f.2) (run.here f.0 e (subst (λ l. Contains l f.0) cut f.1) (subst (λ l. Contains l e) cut c)));
  none_before = AllByRecursion-made (λ r. ¬ IsIn e.given.owner e.given.kind r) (records_of (take at all)) (λ r k i.
      let f = record_in (take at all) r k in
      later_apart Set f.0.given e.given (apart f.0 e f.1 (take_in n (drop at all) e (subst (λ l. Contains l e) cut c)))
      (subst (IsIn e.given.owner e.given.kind) f.2 i));
  none_after = AllByRecursion-made (λ r. ¬ IsIn e.given.owner e.given.kind r) (records_of (drop n (drop at all))) (λ r k i.
      let f = record_in (drop n (drop at all)) r k in
      later_apart Set e.given f.0.given (run.later e f.0 (subst (λ l. Contains l e) cut c) f.1)
      (alike_sym Set f.0.given e.given (subst (IsIn e.given.owner e.given.kind) f.2 i)));
}

-- no set so far is too large
abbrev pub NoneLarge : List Given → ℕ → Type 0
NoneLarge all at = (e : Given) → Contains (take at all) e → ¬ IsLarge (records_of all) e.given

pub none_large_more : (all part : List Given) (at n : ℕ) → IsApart all at → IsRun Set (drop at all) n
    → part ≡ take n (drop at all) → ¬ (60_000 < weight (records_of part)) → NoneLarge all at → NoneLarge all (at + n)
none_large_more all part at n apart run cut not none e c large = elim (take_again n at all e c) [
  | inl old ↦ none e old large
  | inr new ↦
      not (subst (λ l. 60_000 < weight l)
      (one_set (records_of all) e.given.owner e.given.kind large.0 (records_of part) large.1
      (run_set all part at n e apart run cut (subst (λ l. Contains l e) (sym cut) new))) large.2)
]

-- the first large set begins here
pub large_met : (all part : List Given) (at n : ℕ) (e : Given) → IsApart all at → IsRun Set (drop at all) n
    → part ≡ take n (drop at all) → 60_000 < weight (records_of part) → NoneLarge all at → at < length all
    → e ≡ get_or all at e → Contains part e → IsFirst (IsLarge (records_of all)) (records_of all) at e.given
large_met all part at n e apart run cut large none within is c = record {
  before = records_of (take at all);
  after = records_of (drop (at + 1) all);
  parts = cut_of (λ (g : Given). g.given) all at e within is;
  at = length-map (take at all) (λ (g : Given). g.given) ∙ omega (arith, length-take at all);
  here = (records_of part, run_set all part at n e apart run cut c, large);
  first = AllByRecursion-made (λ r. ¬ IsLarge (records_of all) r) (records_of (take at all)) (λ r k l.
      let f = record_in (take at all) r k in none f.0 f.1 (subst (IsLarge (records_of all)) f.2 l));
}

pub none_large : (all : List Given) (at : ℕ) → length all ≤ at → NoneLarge all at → (one : Record)
    → Contains (records_of all) one → ¬ IsLarge (records_of all) one
none_large all at end none one c l =
    let f = record_in all one c in none f.0 (turned_all all at f.0 end f.1) (subst (IsLarge (records_of all)) f.2 l)

-- the records of their entries
pub records_again : (place : ℕ) (records : List Record) → records_of (givens_from place records) ≡ records
records_again place [] = refl
records_again place (x ∷ records) = ap (λ l. x ∷ l) (records_again (place + 1) records)

-- records that rise make entries in order
pub rising_ordered : (place : ℕ) (records : List Record) → IsRising records → IsOrdered (givens_from place records)
rising_ordered place [] r = tt
rising_ordered place (x ∷ records) r = (
  AllByRecursion-made (λ (next : Given). order_of x next.given ≢ Greater) (givens_from (place + 1) records) (λ e c not.
      let f : Contains records e.given =
      subst (λ l. Contains l e.given) (records_again (place + 1) records)
      (in_records (givens_from (place + 1) records) e c) in
      let l : order_of x e.given ≡ Less = AllByRecursion-contains (λ (next : Record). order_of x next ≡ Less) records e.given r.0 f in
      cc (sym l, not)),
  rising_ordered (place + 1) records r.1,
)

element_at : (all : List Given) (at n : ℕ) → at < length all → 0 < n → (e : Given) × (e ≡ get_or all at e) × Contains (take n (drop at all)) e
element_at [] at n within some = absurd (omega arith)
element_at (x ∷ all) zero zero within some = absurd (omega arith)
element_at (x ∷ all) zero (suc n) within some = (x, refl, Contains-head x (take n all))
element_at (x ∷ all) (suc at) n within some = element_at all at n (omega arith) some

-- the first large set is met
pub large_first : (all part : List Given) (at n : ℕ) → IsApart all at → IsRun Set (drop at all) n
    → part ≡ take n (drop at all) → 60_000 < weight (records_of part) → NoneLarge all at → at < length all
    → (one : Record) × IsFirst (IsLarge (records_of all)) (records_of all) at one
large_first all part at n apart run cut large none within =
    let some = run.some in
    let f = element_at all at n within some in
    (f.0.given, large_met all part at n f.0 apart run cut large none within f.1 (subst (λ l. Contains l f.0) (sym cut) f.2))

pub none_large_yet : (all : List Given) → NoneLarge all 0
none_large_yet all e c l = Contains-none e c
