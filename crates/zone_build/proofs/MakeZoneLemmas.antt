-- Records make a valid zone or have a fault: the zone is made, record after record.
use Rattle.std.proofs.Common.{◌≡◌, ◌≢◌, ◌⊎◌, inl, inr, ℕ, ◌<◌, ◌≤◌, List, [], ◌∷◌, ◌++◌, length, refl, sym, ap, subst}
use Rattle.std.proofs.Common.{◌∙◌, arith, append_assoc, append-nil, length-append}
use Rattle.std.specs.Prelude.{Contains}
use Rattle.std.specs.List.{flat_map}
use Rattle.std.specs.declared.cmp.Ordering.TheVariants.{Less, Equal, Greater}
use Rattle.std.specs.Ordering.{nat_cmp, ordering_reverse}
use Rattle.std.proofs.lemmas.List.Elements.{Contains-push_cases}
use Rattle.naptr_data.specs.Zones.{Labels}
use Rattle.naptr_data.proofs.CutLemmas.{Contains-head, Contains-after, Contains-none, head_or_after}
use Rattle.naptr_data.proofs.FoldLemmas.{same_folded}
use Rattle.naptr_data.proofs.DecideLemmas.{Either, numbers, same_or_not}
use Rattle.dns_name.specs.Name.{AreSame, folded_labels, label_wire, wire_of}
use Rattle.dns_wire.specs.Kinds.{soa}
use Rattle.dns_wire.specs.Rdata.{rdata_of}
use Rattle.dns_wire.specs.declared.record.Record.{Record}
use Rattle.zone_build.specs.Zone.{Zone, AreOneSet, AreRepeats, IsRising, owner_order, order_of}
use Rattle.zone_build.specs.Built.{IsFirst, IsFirstRepeat, IsKept, IsBuilt}
use Rattle.zone_build.specs.Faults.{HasOneSoa}
use Rattle.zone_build.specs.Building.{key_order}
use Rattle.zone_build.specs.declared.entry.Key.TheVariants.{Set, Whole}
use Rattle.zone_build.proofs.ListLemmas.{AllByRecursion-contains, AllByRecursion-made, only_one}
use Rattle.zone_build.proofs.OrderLemmas.{bytes_cmp, bytes_cmp-equal, nat_cmp-equal, then_equal, equal_then}
use Rattle.zone_build.proofs.OrderLemmas.{order_of-total, alike_sym}
use Rattle.zone_build.proofs.OrderLemmas.{alike_trans, three}
use Rattle.zone_build.proofs.SoaLemmas.{first_in, first_same}
use Rattle.zone_build.proofs.DecideLemmas.{repeats_or_not}
use Rattle.zone_build.proofs.SomeZoneLemmas.{HasNone, HasSome, some_or_none, is_soa}

-- wire forms tell names apart
wire_more : (label : List ℕ) (labels : Labels) → wire_of (label ∷ labels) ≡ length label ∷ (label ++ wire_of labels)
wire_more label labels = ap (λ l. length label ∷ l) (append_assoc label (flat_map label_wire labels) (0 ∷ []))

wire_some : (labels : Labels) → 0 < length (wire_of labels)
wire_some labels = omega (arith, length-append (flat_map label_wire labels) (0 ∷ []))

same_fronts : (xs ys us vs : List ℕ) → length xs ≡ length ys → xs ++ us ≡ ys ++ vs → (xs ≡ ys) × (us ≡ vs)
same_fronts [] [] us vs l e = (refl, e)
same_fronts [] (y ∷ ys) us vs l e = absurd (omega (arith, l))
same_fronts (x ∷ xs) [] us vs l e = absurd (omega (arith, l))
same_fronts (x ∷ xs) (y ∷ ys) us vs l e =
    let heads : x ≡ y = cc in
    let tails : xs ++ us ≡ ys ++ vs = cc in
    let rest = same_fronts xs ys us vs (omega (arith, l)) tails in
    (ap (λ z. z ∷ xs) heads ∙ ap (λ l. y ∷ l) rest.0, rest.1)

wire_of-injective : (xs ys : Labels) → wire_of xs ≡ wire_of ys → xs ≡ ys
wire_of-injective [] [] e = refl
wire_of-injective [] (y ∷ ys) e =
    absurd (omega (arith, ap length (e ∙ wire_more y ys), length-append y (wire_of ys), wire_some ys))
wire_of-injective (x ∷ xs) [] e =
    absurd (omega (arith, ap length (sym (wire_more x xs) ∙ e), length-append x (wire_of xs), wire_some xs))
wire_of-injective (x ∷ xs) (y ∷ ys) e =
    let f : length x ∷ (x ++ wire_of xs) ≡ length y ∷ (y ++ wire_of ys) = sym (wire_more x xs) ∙ e ∙ wire_more y ys in
    let sizes : length x ≡ length y = cc in
    let tails : x ++ wire_of xs ≡ y ++ wire_of ys = cc in
    let both = same_fronts x y (wire_of xs) (wire_of ys) sizes tails in
    ap (λ l. l ∷ xs) both.0 ∙ ap (λ l. y ∷ l) (wire_of-injective xs ys both.1)

same_owner : (one other : Record) → owner_order one other ≡ Equal → AreSame one.owner other.owner
same_owner one other e =
    wire_of-injective (folded_labels one.owner) (folded_labels other.owner)
    (bytes_cmp-equal (wire_of (folded_labels one.owner)) (wire_of (folded_labels other.owner)) e)

-- what ranks equal is of one set, or repeats
pub equal_set : (one other : Record) → key_order Set one other ≡ Equal → AreOneSet one other
equal_set one other e = (
  same_owner one other (equal_then (owner_order one other) (nat_cmp one.kind other.kind) e),
  nat_cmp-equal one.kind other.kind (then_equal (owner_order one other) (nat_cmp one.kind other.kind) e),
)

equal_repeats : (one other : Record) → order_of one other ≡ Equal → AreRepeats one other
equal_repeats one other e =
    let data' = bytes_cmp (rdata_of one.content) (rdata_of other.content) in
    let rest = then_equal (owner_order one other) _ e in (
      (
        same_owner one other (equal_then (owner_order one other) _ e),
        nat_cmp-equal one.kind other.kind (equal_then (nat_cmp one.kind other.kind) data' rest),
      ),
      bytes_cmp-equal (rdata_of one.content) (rdata_of other.content)
          (then_equal (nat_cmp one.kind other.kind) data' rest),
    )

-- the least TTL of some records
abbrev HasLeast : (Record → Type 0) → List Record → Type 0
HasLeast P xs = (one : Record) × Contains xs one × P one × ((other : Record) → Contains xs other → P other → one.ttl ≤ other.ttl)

less_or_not : (n m : ℕ) → (n ≤ m) ⊎ (m ≤ n)
less_or_not n m = grind arith

least_or_none : (P : Record → Type 0) → ((r : Record) → Either (P r)) → (xs : List Record) → HasLeast P xs ⊎ HasNone P xs
least_or_none P each [] = inr (λ one c p. Contains-none one c)
least_or_none P each (x ∷ xs) = both (each x) (least_or_none P each xs)
  where
    bound : (low : ℕ) → low ≤ x.ttl → ((other : Record) → Contains xs other → P other → low ≤ other.ttl)
        → (other : Record) → Contains (x ∷ xs) other → P other → low ≤ other.ttl
    bound low h all other c p = elim (head_or_after x xs other c) [
      | inl here ↦ let e = ap (λ (r : Record). r.ttl) here in omega (arith, h, e)
      | inr after ↦ all other after p
    ]

    lower : (one : Record) → Contains xs one → P one → P x
        → ((other : Record) → Contains xs other → P other → one.ttl ≤ other.ttl)
        → (x.ttl ≤ one.ttl) ⊎ (one.ttl ≤ x.ttl) → HasLeast P (x ∷ xs)
    lower one c q p low (inl h) =
        (x, Contains-head x xs, p, bound x.ttl (omega arith) (λ other d r. let l = low other d r in omega (arith, h, l)))
    lower one c q p low (inr h) = (one, Contains-after x xs one c, q, bound one.ttl h low)

    both : Either (P x) → HasLeast P xs ⊎ HasNone P xs → HasLeast P (x ∷ xs) ⊎ HasNone P (x ∷ xs)
    both (inl p) (inl (one, c, q, low)) = inl (lower one c q p low (less_or_not x.ttl one.ttl))
    both (inl p) (inr none) = inl (x, Contains-head x xs, p, bound x.ttl (omega arith) (λ other d r. absurd (none other d r)))
    both (inr not) (inl (one, c, q, low)) = inl (
      one,
      Contains-after x xs one c,
      q,
      λ other d r. elim (head_or_after x xs other d) [
        | inl here ↦ absurd (not (subst P here r))
        | inr after ↦ low other after r
      ],
    )
    both (inr not) (inr none) = inr (λ other d r. elim (head_or_after x xs other d) [
      | inl here ↦ not (subst P here r)
      | inr after ↦ none other after r
    ])

in_set_or_not : (one other : Record) → Either (AreOneSet one other)
in_set_or_not one other = both (same_or_not one.owner other.owner) (numbers one.kind other.kind)
  where
    both : Either (AreSame one.owner other.owner) → Either (one.kind ≡ other.kind) → Either (AreOneSet one other)
    both (inl a) (inl b) = inl (a, b)
    both (inr not) h = inr (λ s. not s.0)
    both (inl a) (inr not) = inr (λ s. not s.1)

-- what is kept of a given record
kept_some : (given : List Record) (one : Record) → Contains given one → (kept : Record) × IsKept given one kept
kept_some given one c = made (least_or_none (AreOneSet one) (in_set_or_not one) given)
  where
    made : HasLeast (AreOneSet one) given ⊎ HasNone (AreOneSet one) given → (kept : Record) × IsKept given one kept
    made (inl (r, d, same, low)) = (
      record {
        owner = folded_labels one.owner;
        kind = one.kind;
        class = one.class;
        ttl = r.ttl;
        content = one.content;
        belongs = one.belongs;
      },
      record { owner = refl; kind = refl; class = refl; content = refl; ttl = record { some = (r, d, same, refl); least = low } },
    )
    made (inr none) = absurd (none one c (refl, refl))

kept_is_repeat : (given : List Record) (one kept : Record) → IsKept given one kept → AreRepeats one kept
kept_is_repeat given one kept k =
    ((same_folded one.owner ∙ ap folded_labels (sym k.owner), sym k.kind), ap rdata_of (sym k.content))

-- a record goes to its place among rising ones
record IsPut (ys : List Record) (k : Record) (zs : List Record) : Type 0 where
  rising : IsRising zs
  from : (e : Record) → Contains zs e → Contains ys e ⊎ (e ≡ k)
  old : (e : Record) → Contains ys e → Contains zs e
  new : Contains zs k

put : (ys : List Record) (k : Record) → IsRising ys → ((y : Record) → Contains ys y → order_of k y ≢ Equal) → (zs : List Record) × IsPut ys k zs
put [] k r apart = (
  k ∷ [],
  record {
    rising = (tt, tt);
    from = λ e c. inr (only_one k e c);
    old = λ e c. absurd (Contains-none e c);
    new = Contains-head k [];
  },
)
put (y ∷ ys) k r apart = at_place (three (order_of k y)) (put ys k r.1 (λ e c. apart e (Contains-after y ys e c)))
  where
    after : order_of y k ≡ Less → (zs : List Record) → IsPut ys k zs → IsPut (y ∷ ys) k (y ∷ zs)
    after less zs p = record {
      rising = (
        AllByRecursion-made (λ (next : Record). order_of y next ≡ Less) zs (λ e c. elim (p.from e c) [
          | inl o ↦ AllByRecursion-contains (λ (next : Record). order_of y next ≡ Less) ys e r.0 o
          | inr n ↦ subst (λ (x : Record). order_of y x ≡ Less) (sym n) less
        ]),
        p.rising,
      );
      from = λ e c. elim (head_or_after y zs e c) [
        | inl here ↦ inl (subst (λ (x : Record). Contains (y ∷ ys) x) (sym here) (Contains-head y ys))
        | inr c' ↦ elim (p.from e c') [ inl o ↦ inl (Contains-after y ys e o) | inr n ↦ inr n ]
      ];
      old = λ e c. elim (head_or_after y ys e c) [
        | inl here ↦ subst (λ (x : Record). Contains (y ∷ zs) x) (sym here) (Contains-head y zs)
        | inr c' ↦ Contains-after y zs e (p.old e c')
      ];
      new = Contains-after y zs k p.new;
    }

    at_place : (order_of k y ≡ Less) ⊎ ((order_of k y ≡ Equal) ⊎ (order_of k y ≡ Greater))
        → (zs : List Record) × IsPut ys k zs → (zs : List Record) × IsPut (y ∷ ys) k zs
    at_place (inl less) h = (
      k ∷ y ∷ ys,
      record {
        rising = (
          (
            less,
            AllByRecursion-made (λ (next : Record). order_of k next ≡ Less) ys
                (λ e c. order_of-total.trans k y e less
                (AllByRecursion-contains (λ (next : Record). order_of y next ≡ Less) ys e r.0 c)),
          ),
          r,
        );
        from = λ e c. elim (head_or_after k (y ∷ ys) e c) [ inl here ↦ inr here | inr c' ↦ inl c' ];
        old = λ e c. Contains-after k (y ∷ ys) e c;
        new = Contains-head k (y ∷ ys);
      },
    )
    at_place (inr (inl equal)) h = absurd (apart y (Contains-head y ys) equal)
    at_place (inr (inr later)) (zs, p) = (y ∷ zs, after (order_of-total.antisymm y k ∙ ap ordering_reverse later) zs p)

-- what is kept of all that came so far, but for the SOA
record IsMade (given done kept : List Record) : Type 0 where
  from : (k : Record) → Contains kept k → (one : Record) × IsFirstRepeat done k one × IsKept given one k × (one.kind ≢ soa)
  all : (one : Record) → Contains done one → one.kind ≢ soa → (k : Record) × Contains kept k × AreRepeats one k
  rising : IsRising kept

first_longer : (done : List Record) (k one x : Record) → IsFirstRepeat done k one → IsFirstRepeat (done ++ x ∷ []) k one
first_longer done k one x (place, f) = (
  place,
  record {
    before = f.before;
    after = f.after ++ x ∷ [];
    parts = ap (λ l. l ++ x ∷ []) f.parts ∙ append_assoc f.before (one ∷ f.after) (x ∷ []);
    at = f.at;
    here = f.here;
    first = f.first;
  },
)

-- one record more, where nothing more is kept
made_same : (given done kept : List Record) (x : Record) → IsMade given done kept
    → (x.kind ≢ soa → (k : Record) × Contains kept k × AreRepeats x k) → IsMade given (done ++ x ∷ []) kept
made_same given done kept x m there = record {
  from = λ k c. let f = m.from k c in (f.0, first_longer done k f.0 x f.1, f.2, f.3);
  all = λ one c not. elim (Contains-push_cases done x one c) [
    | inl old ↦ m.all one old not
    | inr new ↦
        subst (λ (r : Record). (k : Record) × Contains kept k × AreRepeats r k) new (there (λ k. not (ap (λ (r : Record). r.kind) (sym new) ∙ k)))
  ];
  rising = m.rising;
}

-- one record more, of which something is kept
made_new : (given done kept : List Record) (x : Record) → Contains given x → x.kind ≢ soa → IsMade given done kept
    → ¬ HasSome (AreRepeats x) kept → (kept' : List Record) × IsMade given (done ++ x ∷ []) kept'
made_new given done kept x c not m none =
    let k = kept_some given x c in
    let same : AreRepeats x k.0 = kept_is_repeat given x k.0 k.1 in
    let p = put kept k.0 m.rising (λ y d e. none (y, d, alike_trans Whole x k.0 y same (equal_repeats k.0 y e))) in
    let i = p.1 in
    let lacks : (y : Record) → Contains done y → ¬ AreRepeats k.0 y = λ y d r.
    let r' = alike_trans Whole x k.0 y same r in
    let f = m.all y d (λ l. not (r'.0.1 ∙ l)) in
    none (f.0, f.1, alike_trans Whole x y f.0 r' f.2)
    in (
      p.0,
      record {
        from = λ e d. elim (i.from e d) [
          | inl old ↦ let f = m.from e old in (f.0, first_longer done e f.0 x f.1, f.2, f.3)
          | inr new ↦
              subst (λ (r : Record). (one : Record) × IsFirstRepeat (done ++ x ∷ []) r one × IsKept given one r × (one.kind ≢ soa)) (sym new) (
                x,
                (
                  length done,
                  record {
                    before = done;
                    after = [];
                    parts = refl;
                    at = refl;
                    here = alike_sym Whole x k.0 same;
                    first = AllByRecursion-made (λ (y : Record). ¬ AreRepeats k.0 y) done lacks;
                  },
                ),
                k.1,
                not,
              )
        ];
        all = λ one d other. elim (Contains-push_cases done x one d) [
          | inl old ↦ let f = m.all one old other in (f.0, i.old f.0 f.1, f.2)
          | inr new ↦ (k.0, i.new, subst (λ (r : Record). AreRepeats r k.0) new same)
        ];
        rising = i.rising;
      },
    )

made_more : (given done kept : List Record) (x : Record) → Contains given x → IsMade given done kept
    → (kept' : List Record) × IsMade given (done ++ x ∷ []) kept'
made_more given done kept x c m = elim (is_soa x) [
  | inl the_soa ↦ (kept, made_same given done kept x m (λ not. absurd (not the_soa)))
  | inr not ↦ elim (some_or_none (AreRepeats x) (repeats_or_not x) kept) [
    | inl there ↦ (kept, made_same given done kept x m (λ n. there))
    | inr none ↦ made_new given done kept x c not m none
  ]
]

made_all : (given done rest kept : List Record) → ((e : Record) → Contains rest e → Contains given e)
    → IsMade given done kept → (kept' : List Record) × IsMade given (done ++ rest) kept'
made_all given done [] kept among m = (kept, subst (λ l. IsMade given l kept) (sym (append-nil done)) m)
made_all given done (x ∷ rest) kept among m =
    let n = made_more given done kept x (among x (Contains-head x rest)) m in
    let r = made_all given (done ++ x ∷ []) rest n.0 (λ e c. among e (Contains-after x rest e c)) n.1 in
    (r.0, subst (λ l. IsMade given l r.0) (append_assoc done (x ∷ []) rest) r.1)

others_made : (given : List Record) → (kept : List Record) × IsMade given given kept
others_made given = made_all given [] given [] (λ e c. c) (record {
  from = λ k c. absurd (Contains-none k c);
  all = λ one c not. absurd (Contains-none one c);
  rising = tt;
})

-- the zone that records make
pub built_some : (given : List Record) (place : ℕ) (the_soa : Record) → IsFirst (λ r. r.kind ≡ soa) given place the_soa
    → HasOneSoa given → (zone : Zone) × IsBuilt given zone
built_some given place the_soa f all =
    let c = first_in (λ (r : Record). r.kind ≡ soa) given place the_soa f in
    let k = kept_some given the_soa c in
    let m = others_made given in
    let same : AreRepeats the_soa k.0 = kept_is_repeat given the_soa k.0 k.1 in
    let back : AreRepeats k.0 the_soa = alike_sym Whole the_soa k.0 same in
    let first : IsFirst (AreRepeats k.0) given place the_soa =
    first_same (λ (r : Record). r.kind ≡ soa) (AreRepeats k.0) given place the_soa
    (λ y d l. alike_trans Whole k.0 the_soa y back (all the_soa y c d f.here l))
    (λ y d r. sym r.0.1 ∙ k.1.kind ∙ f.here) f in (
      record { apex = folded_labels the_soa.owner; records = k.0 ∷ m.0 },
      record {
        apex = λ one d l. (all the_soa one c d f.here l).0.0;
        kept = λ e d. elim (head_or_after k.0 m.0 e d) [
          | inl here ↦
              subst (λ (r : Record). (one : Record) × IsFirstRepeat given r one × IsKept given one r) (sym here) (the_soa, (place, first), k.1)
          | inr after ↦ let g = m.1.from e after in (g.0, g.1, g.2)
        ];
        all = λ one d. elim (is_soa one) [
          | inl l ↦ (k.0, Contains-head k.0 m.0, alike_trans Whole one the_soa k.0 (all one the_soa d c l f.here) same)
          | inr not ↦ let g = m.1.all one d not in (g.0, Contains-after k.0 m.0 g.0 g.1, g.2)
        ];
        order = (
          k.1.kind ∙ f.here,
          AllByRecursion-made (λ (r : Record). r.kind ≢ soa) m.0
              (λ r d l. let g = m.1.from r d in g.3 (sym g.2.kind ∙ l)),
          m.1.rising,
        );
      },
    )
