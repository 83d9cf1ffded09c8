-- Owners with a CNAME beside something else, run after run.
use Rattle.std.proofs.Common.{◌≡◌, ◌⊎◌, inl, inr, ℕ, zero, suc, ◌+◌, ◌<◌, ◌≤◌, List, [], ◌∷◌, length, take, drop, Option, Some, None, sym, subst, ◌∙◌, arith}
use Rattle.std.specs.Prelude.{Contains, IsTrue, nat_lt}
use Rattle.std.specs.declared.cmp.Ordering.TheVariants.{Less}
use Rattle.std.proofs.lemmas.Bool.Decides.{nat_tests}
use Rattle.std.proofs.lemmas.List.{drop_all, drop-drop}
use Rattle.naptr_data.proofs.CutLemmas.{Contains-head, Contains-none}
use Rattle.dns_name.specs.Name.{AreSame}
use Rattle.zone_build.specs.Building.{Given, key_order, IsRun, AreMixed, IsMixedAt, IsFirstMixed, IsLeastPlace, least_of}
use Rattle.zone_build.specs.declared.entry.Key.TheVariants.{Owner, Whole}
use Rattle.zone_build.proofs.ListLemmas.{take_in, drop_in, part_of, turned_all}
use Rattle.zone_build.proofs.OrderLemmas.{alike_sym, later_apart}

first_in : (all : List Given) (n : ℕ) → 0 < n → 0 < length all → (e : Given) × Contains (take n all) e
first_in [] n some more = absurd (omega arith)
first_in (x ∷ all) zero some more = absurd (omega arith)
first_in (x ∷ all) (suc n) some more = (x, Contains-head x (take n all))

last_in : (all : List Given) (n : ℕ) → n < length all → (e : Given) × Contains (drop n all) e
last_in [] n more = absurd (omega arith)
last_in (x ∷ all) zero more = (x, Contains-head x all)
last_in (x ∷ all) (suc n) more = last_in all n (omega arith)

-- an alias among entries that are not all repeats
pub mixed_of : (all : List Given) (n : ℕ) → IsRun Whole all n → n < length all → (e : Given) × Contains all e × (e.given.kind ≡ 5) → AreMixed all
mixed_of all n run more (e, c, alias) =
    let some = run.some in
    let first = first_in all n some (omega arith) in
    let last = last_in all n more in
    elim (part_of n all e c) [
      | inl front ↦ (e, last.0, c, drop_in n all last.0 last.1, alias, later_apart Whole e.given last.0.given (run.later e last.0 front last.1))
      | inr back ↦ (
        e,
        first.0,
        c,
        take_in n all first.0 first.1,
        alias,
        λ a. later_apart Whole first.0.given e.given (run.later first.0 e first.1 back)
            (alike_sym Whole e.given first.0.given a),
      )
    ]

-- all are repeats
pub not_mixed : (all : List Given) (n : ℕ) → IsRun Whole all n → length all ≤ n → ¬ AreMixed all
not_mixed all n run end (one, other, c, d, alias, apart) =
    apart (run.here one other (turned_all all n one end c) (turned_all all n other end d))

pub not_less : (n m : ℕ) → m ≤ n → IsTrue (nat_lt n m) → ⊥
not_less n m h t = grind (arith, nat_tests)

-- the least place so far, with entries that are still to come
abbrev pub IsFirstSoFar : List Given → List Given → Option ℕ → Type 0
IsFirstSoFar all rest None = (e : Given) → Contains all e → IsMixedAt all e → Contains rest e
IsFirstSoFar all rest (Some place) =
    ((e : Given) × Contains all e × IsMixedAt all e × (e.place ≡ place))
    × ((e : Given) → Contains all e → IsMixedAt all e → Contains rest e ⊎ (place ≤ e.place))

pub record IsMixing (all : List Given) (at : ℕ) (first : Option ℕ) : Type 0 where
  pub apart : (d : Given) → Contains all d → Contains (drop at all) d ⊎ ((e : Given) → Contains (drop at all) e → key_order Owner d.given e.given ≡ Less)
  pub so_far : IsFirstSoFar all (drop at all) first

pub mixing_none : (all : List Given) → IsMixing all 0 None
mixing_none all = record { apart = λ d c. inl c; so_far = λ e c m. c }

apart_more : (all rest : List Given) (n : ℕ) → IsRun Owner rest n
    → ((d : Given) → Contains all d
    → Contains rest d ⊎ ((e : Given) → Contains rest e → key_order Owner d.given e.given ≡ Less)) → (d : Given)
    → Contains all d → Contains (drop n rest) d
    ⊎ ((e : Given) → Contains (drop n rest) e → key_order Owner d.given e.given ≡ Less)
apart_more all rest n run apart d c = elim (apart d c) [
  | inl there ↦ elim (part_of n rest d there) [ inl front ↦ inr (λ e k. run.later d e front k) | inr back ↦ inl back ]
  | inr gone ↦ inr (λ e k. gone e (drop_in n rest e k))
]

-- all records of an owner stand in its run
whole_owner : (all rest : List Given) (n : ℕ) (e d : Given) → IsRun Owner rest n
    → ((d : Given) → Contains all d
    → Contains rest d ⊎ ((e : Given) → Contains rest e → key_order Owner d.given e.given ≡ Less))
    → Contains (take n rest) e → Contains all d → AreSame d.given.owner e.given.owner → Contains (take n rest) d
whole_owner all rest n e d run apart c k same = elim (apart d k) [
  | inl there ↦ elim (part_of n rest d there) [
    | inl front ↦ front
    | inr back ↦ absurd (later_apart Owner e.given d.given (run.later e d c back) (sym same))
  ]
  | inr gone ↦ absurd (later_apart Owner d.given e.given (gone e (take_in n rest e c)) same)
]

-- a mixed owner's run is mixed
mixed_part : (all rest : List Given) (n : ℕ) (e : Given) → IsRun Owner rest n
    → ((d : Given) → Contains all d
    → Contains rest d ⊎ ((e : Given) → Contains rest e → key_order Owner d.given e.given ≡ Less))
    → Contains (take n rest) e → IsMixedAt all e → AreMixed (take n rest)
mixed_part all rest n e run apart c (one, other, k, l, same, same', alias, differ) =
    (one, other, whole_owner all rest n e one run apart c k same, whole_owner all rest n e other run apart c l same', alias, differ)

-- and each record of a mixed run has a mixed owner
part_mixed : (all rest : List Given) (n : ℕ) (e : Given) → ((d : Given) → Contains rest d → Contains all d)
    → IsRun Owner rest n → Contains (take n rest) e → AreMixed (take n rest) → IsMixedAt all e
part_mixed all rest n e among run c (one, other, k, l, alias, differ) =
    (one, other, among one (take_in n rest one k), among other (take_in n rest other l), run.here one e k c, run.here other e l c, alias, differ)

first_passed : (all rest : List Given) (n : ℕ) (first : Option ℕ) → IsRun Owner rest n
    → ((d : Given) → Contains all d
    → Contains rest d ⊎ ((e : Given) → Contains rest e → key_order Owner d.given e.given ≡ Less))
    → ¬ AreMixed (take n rest) → IsFirstSoFar all rest first → IsFirstSoFar all (drop n rest) first
first_passed all rest n None run apart not so_far = λ e c m. elim (part_of n rest e (so_far e c m)) [
  | inl front ↦ absurd (not (mixed_part all rest n e run apart front m))
  | inr back ↦ back
]
first_passed all rest n (Some place) run apart not so_far = (
  so_far.0,
  λ e c m. elim (so_far.1 e c m) [
    | inl there ↦ elim (part_of n rest e there) [
      | inl front ↦ absurd (not (mixed_part all rest n e run apart front m))
      | inr back ↦ inl back
    ]
    | inr less ↦ inr less
  ],
)

least_cases : (known place : ℕ) → ((least_of (Some known) place ≡ known) × (known ≤ place)) ⊎ ((least_of (Some known) place ≡ place) × (place ≤ known))
least_cases known place = grind (arith, nat_tests)

first_met : (all rest : List Given) (n : ℕ) (first : Option ℕ) (place : ℕ)
    → ((d : Given) → Contains rest d → Contains all d) → IsRun Owner rest n → AreMixed (take n rest)
    → IsLeastPlace (take n rest) place → IsFirstSoFar all rest first
    → IsFirstSoFar all (drop n rest) (Some (least_of first place))
first_met all rest n None place among run mixed least so_far = (
  (least.some.0, among least.some.0 (take_in n rest least.some.0 least.some.1), part_mixed all rest n least.some.0 among run least.some.1 mixed, least.some.2),
  λ e c m. elim (part_of n rest e (so_far e c m)) [ inl front ↦ inr (least.least e front) | inr back ↦ inl back ],
)
first_met all rest n (Some known) place among run mixed least so_far = elim (least_cases known place) [
  | inl old ↦ (
    (so_far.0.0, so_far.0.1, so_far.0.2, so_far.0.3 ∙ sym old.0),
    λ e c m. elim (so_far.1 e c m) [
      | inl there ↦ elim (part_of n rest e there) [
        | inl front ↦ let l = least.least e front in let o = old.1 in let p = old.0 in inr (omega (arith, l, o, p))
        | inr back ↦ inl back
      ]
      | inr less ↦ let p = old.0 in inr (omega (arith, less, p))
    ],
  )
  | inr new ↦ (
    (
      least.some.0,
      among least.some.0 (take_in n rest least.some.0 least.some.1),
      part_mixed all rest n least.some.0 among run least.some.1 mixed,
      least.some.2 ∙ sym new.0,
    ),
    λ e c m. elim (so_far.1 e c m) [
      | inl there ↦ elim (part_of n rest e there) [
        | inl front ↦ let l = least.least e front in let p = new.0 in inr (omega (arith, l, p))
        | inr back ↦ inl back
      ]
      | inr less ↦ let o = new.1 in let p = new.0 in inr (omega (arith, less, o, p))
    ],
  )
]

-- one owner is passed over
pub mixing_passed : (all part : List Given) (at n : ℕ) (first : Option ℕ) → IsMixing all at first
    → IsRun Owner (drop at all) n → part ≡ take n (drop at all) → ¬ AreMixed part → IsMixing all (at + n) first
mixing_passed all part at n first m run cut not = record {
  apart = let P : List Given → Type 0 =
      λ l. (d : Given) → Contains all d
      → Contains l d ⊎ ((e : Given) → Contains l e → key_order Owner d.given e.given ≡ Less) in
      subst P (drop-drop n at all) (apart_more all (drop at all) n run m.apart);
  so_far = subst (λ l. IsFirstSoFar all l first) (drop-drop n at all)
      (first_passed all (drop at all) n first run m.apart (subst (λ l. ¬ AreMixed l) cut not) m.so_far);
}

-- one owner is met that is mixed
pub mixing_met : (all part : List Given) (at n : ℕ) (first : Option ℕ) (place : ℕ) → IsMixing all at first
    → IsRun Owner (drop at all) n → part ≡ take n (drop at all) → AreMixed part → IsLeastPlace part place
    → IsMixing all (at + n) (Some (least_of first place))
mixing_met all part at n first place m run cut mixed least = record {
  apart = let P : List Given → Type 0 =
      λ l. (d : Given) → Contains all d
      → Contains l d ⊎ ((e : Given) → Contains l e → key_order Owner d.given e.given ≡ Less) in
      subst P (drop-drop n at all) (apart_more all (drop at all) n run m.apart);
  so_far = subst (λ l. IsFirstSoFar all l (Some (least_of first place))) (drop-drop n at all)
      (first_met all (drop at all) n first place (λ d c. drop_in at all d c) run (subst AreMixed cut mixed)
      (subst (λ l. IsLeastPlace l place) cut least) m.so_far);
}

pub mixing_all : (all : List Given) (at : ℕ) (first : Option ℕ) → length all ≤ at → IsMixing all at first → IsFirstMixed all first
mixing_all all at None end m = λ e c mixed. Contains-none e (subst (λ l. Contains l e) (drop_all at all end) (m.so_far e c mixed))
mixing_all all at (Some place) end m = (
  m.so_far.0,
  λ e c mixed. elim (m.so_far.1 e c mixed) [
    | inl there ↦ absurd (Contains-none e (subst (λ l. Contains l e) (drop_all at all end) there))
    | inr less ↦ less
  ],
)
