-- The records that are kept, run after run.
use Rattle.std.proofs.Common.{◌≡◌, ◌⊎◌, inl, inr, ℕ, ◌+◌, ◌≤◌, Bool, List, [], ◌∷◌, ◌++◌, length, take, drop, get_or}
use Rattle.std.proofs.Common.{refl, sym, ap, subst, ◌∙◌, append_assoc, append-nil, map}
use Rattle.std.specs.Prelude.{Contains}
use Rattle.std.specs.declared.cmp.Ordering.TheVariants.{Less}
use Rattle.std.proofs.Common.{◌==◌}
use Rattle.std.proofs.lemmas.List.{drop_all, drop-drop, map-append}
use Rattle.std.proofs.lemmas.List.Elements.{Contains-append_left, Contains-append_right, Contains-append_cases}
use Rattle.naptr_data.proofs.CutLemmas.{Contains-head, Contains-after, Contains-none}
use Rattle.dns_name.proofs.NameLemmas.{AllByRecursion-append}
use Rattle.naptr_data.proofs.FoldLemmas.{same_folded}
use Rattle.dns_name.specs.Name.{folded_labels}
use Rattle.dns_wire.specs.Kinds.{soa}
use Rattle.dns_wire.specs.Rdata.{rdata_of}
use Rattle.dns_wire.specs.declared.record.Record.{Record}
use Rattle.zone_build.specs.Zone.{AreOneSet, AreRepeats, IsRising, order_of}
use Rattle.zone_build.specs.Building.{Given, Chosen, keep_of, copy_of, settled, AreAmong, key_order, AreAlike, IsRun}
use Rattle.zone_build.specs.Building.{IsLeast, IsCopy, IsEarliest, IsFirstCopy, IsStable, AreMerged, IsSoaAs}
use Rattle.zone_build.specs.Building.{IsSetTtl, IsKeptOf, IsMergedSet}
use Rattle.zone_build.specs.declared.keep.Keep.{Keep}
use Rattle.zone_build.specs.declared.entry.Key.{Key}
use Rattle.zone_build.specs.declared.entry.Key.TheVariants.{Set, Whole}
use Rattle.zone_build.proofs.ListLemmas.{take_in, drop_in, part_of, only_one, AllByRecursion-made}
use Rattle.zone_build.proofs.RunLemmas.{stable_take, stable_drop, stable_head}
use Rattle.zone_build.proofs.OrderLemmas.{order_of-total, key_later, alike_equal, alike_sym, alike_trans, equal_less, less_equal, later_apart}

-- while records are kept of all, with so many still to come
pub record IsMerging (key : Key) (P : Given → Type 0) (R : Given → Record → Type 0) (all rest : List Given) (added : List Record) : Type 0 where
  pub among : (e : Given) → Contains rest e → Contains all e
  pub from : (one : Record) → Contains added one → (e : Given) × Contains all e × P e × R e one
  pub each : (e : Given) → Contains all e → P e → Contains rest e ⊎ ((one : Record) × Contains added one × AreRepeats e.given one)
  pub rising : IsRising added
  pub less : (one : Record) (e : Given) → Contains added one → Contains rest e → order_of one e.given ≡ Less
  pub apart : (d : Given) → Contains all d → Contains rest d ⊎ ((e : Given) → Contains rest e → key_order key d.given e.given ≡ Less)

pub IsRising-append : (xs ys : List Record) → IsRising xs → IsRising ys
    → ((x y : Record) → Contains xs x → Contains ys y → order_of x y ≡ Less) → IsRising (xs ++ ys)
IsRising-append [] ys r s less = s
IsRising-append (x ∷ xs) ys r s less = (
  AllByRecursion-append (λ (next : Record). order_of x next ≡ Less) xs ys r.0
      (AllByRecursion-made (λ (next : Record). order_of x next ≡ Less) ys (λ y c. less x y (Contains-head x xs) c)),
  IsRising-append xs ys r.1 s (λ z y c d. less z y (Contains-after x xs z c) d),
)

pub merging_none : (key : Key) (P : Given → Type 0) (R : Given → Record → Type 0) (all : List Given) → IsMerging key P R all all []
merging_none key P R all = record {
  among = λ e c. c;
  from = λ one c. absurd (Contains-none one c);
  each = λ e c p. inl c;
  rising = tt;
  less = λ one e c d. absurd (Contains-none one c);
  apart = λ d c. inl c;
}

pub merging_more : (key : Key) (P : Given → Type 0) (R : Given → Record → Type 0)
    → ((e : Given) (one : Record) → R e one → AreRepeats e.given one)
    → (all rest : List Given) (added new : List Record) (n : ℕ) → IsMerging key P R all rest added → IsRun key rest n
    → AreMerged P R (take n rest) new → IsMerging key P R all (drop n rest) (added ++ new)
merging_more key P R repeats all rest added new n m run made = record {
  among = λ e c. m.among e (drop_in n rest e c);
  from = λ one c. elim (Contains-append_cases added new one c) [
    | inl old ↦ m.from one old
    | inr fresh ↦ let f = made.from one fresh in (f.0, m.among f.0 (take_in n rest f.0 f.1), f.2, f.3)
  ];
  each = λ e c p. elim (m.each e c p) [
    | inl there ↦ elim (part_of n rest e there) [
      | inl front ↦
          let f = made.each e front p in inr (f.0, Contains-append_right added new f.0 f.1, f.2)
      | inr back ↦ inl back
    ]
    | inr done ↦ inr (done.0, Contains-append_left added new done.0 done.1, done.2)
  ];
  rising = IsRising-append added new m.rising made.rising (λ x y c d.
      let f = made.from y d in
      less_equal order_of order_of-total x f.0.given y (m.less x f.0 c (take_in n rest f.0 f.1)) (alike_equal Whole f.0.given y (repeats f.0 y f.3)));
  less = λ one e c d. elim (Contains-append_cases added new one c) [
    | inl old ↦ m.less one e old (drop_in n rest e d)
    | inr fresh ↦
        let f = made.from one fresh in
        equal_less order_of order_of-total one f.0.given e.given
        (alike_equal Whole one f.0.given (alike_sym Whole f.0.given one (repeats f.0 one f.3)))
        (key_later key f.0.given e.given (run.later f.0 e f.1 d))
  ];
  apart = λ d c. elim (m.apart d c) [
    | inl there ↦ elim (part_of n rest d there) [ inl front ↦ inr (λ e k. run.later d e front k) | inr back ↦ inl back ]
    | inr gone ↦ inr (λ e k. gone e (drop_in n rest e k))
  ];
}

-- nothing is left
pub merging_all : (key : Key) (P : Given → Type 0) (R : Given → Record → Type 0) (all rest : List Given)
    (added : List Record) → IsMerging key P R all rest added → rest ≡ [] → AreMerged P R all added
merging_all key P R all rest added m end = record {
  from = m.from;
  each = λ e c p. elim (m.each e c p) [
    | inl there ↦ absurd (Contains-none e (subst (λ l. Contains l e) end there))
    | inr done ↦ done
  ];
  rising = m.rising;
}

-- a copy is a repeat
pub copy_repeats : (ttl : ℕ) (e : Given) (one : Record) → IsCopy ttl e one → AreRepeats e.given one
copy_repeats ttl e one copy =
    ((same_folded e.given.owner ∙ ap folded_labels (sym copy.owner), sym copy.kind), ap rdata_of (sym copy.content))

pub kept_repeats : (all : List Given) (e : Given) (one : Record) → IsKeptOf all e one → AreRepeats e.given one
kept_repeats all e one (ttl, least, copy, first) = copy_repeats ttl e one copy

pub first_copy_repeats : (all : List Given) (ttl : ℕ) (e : Given) (one : Record) → IsFirstCopy all ttl e one → AreRepeats e.given one
first_copy_repeats all ttl e one (first, copy) = copy_repeats ttl e one copy

-- the record that is kept of a chosen one
pub chosen_copy : (ttl : ℕ) (e : Given) → IsCopy ttl e (settled ttl e.given)
chosen_copy ttl e = record { owner = refl; kind = refl; class = refl; content = refl; ttl = refl }

-- what was added, while records are kept
abbrev pub IsMergingFrom : Key → (Given → Type 0) → (Given → Record → Type 0) → List Given → ℕ → List Keep → List Keep → Type 0
IsMergingFrom key P R all at old now =
    (added : List Chosen) × (now ≡ old ++ map keep_of added) × AreAmong all added × IsMerging key P R all (drop at all) (map copy_of added)

pub from_none : (key : Key) (P : Given → Type 0) (R : Given → Record → Type 0) (all : List Given) (old : List Keep) → IsMergingFrom key P R all 0 old old
from_none key P R all old = ([], sym (append-nil old), λ one c. absurd (Contains-none one c), merging_none key P R all)

pub from_more : (key : Key) (P : Given → Type 0) (R : Given → Record → Type 0)
    → ((e : Given) (one : Record) → R e one → AreRepeats e.given one)
    → (all part : List Given) (at n : ℕ) (old now : List Keep) (new : List Chosen)
    → IsMergingFrom key P R all at old now → IsRun key (drop at all) n → part ≡ take n (drop at all)
    → AreAmong part new → AreMerged P R part (map copy_of new)
    → IsMergingFrom key P R all (at + n) old (now ++ map keep_of new)
from_more key P R repeats all part at n old now new (added, is, among, m) run cut fresh made = (
  added ++ new,
  ap (λ l. l ++ map keep_of new) is ∙ append_assoc old (map keep_of added) (map keep_of new) ∙ ap (λ l. old ++ l) (sym (map-append keep_of added new)),
  λ one c. elim (Contains-append_cases added new one c) [
    | inl before ↦ among one before
    | inr after ↦ drop_in at all one.from (take_in n (drop at all) one.from (subst (λ l. Contains l one.from) cut (fresh one after)))
  ],
  subst (IsMerging key P R all (drop (at + n) all)) (sym (map-append copy_of added new))
      (subst (λ l. IsMerging key P R all l (map copy_of added ++ map copy_of new)) (drop-drop n at all)
      (merging_more key P R repeats all (drop at all) (map copy_of added) (map copy_of new) n m run
      (subst (λ l. AreMerged P R l (map copy_of new)) cut made))),
)

pub from_all : (key : Key) (P : Given → Type 0) (R : Given → Record → Type 0) (all : List Given) (at : ℕ)
    (old now : List Keep) → length all ≤ at → IsMergingFrom key P R all at old now
    → (added : List Chosen) × (now ≡ old ++ map keep_of added) × AreAmong all added
    × AreMerged P R all (map copy_of added)
from_all key P R all at old now end (added, is, among, m) =
    (added, is, among, merging_all key P R all (drop at all) (map copy_of added) m (drop_all at all end))

-- one entry is among its own
pub one_among : (part : List Given) (head : Given) (ttl : ℕ) → Contains part head → AreAmong part (record { from = head; ttl = ttl } ∷ [])
one_among part head ttl c one d = subst (λ (x : Chosen). Contains part x.from) (sym (only_one (record { from = head; ttl = ttl }) one d)) c

-- one of alike entries is kept for all of them
pub one_kept : (all : List Given) (ttl : ℕ) (part : List Given) (head : Given) (kept : Record) → Contains part head
    → ((one other : Given) → Contains part one → Contains part other → AreRepeats one.given other.given)
    → IsEarliest all head → IsCopy ttl head kept → AreMerged (λ e. Unit {0}) (IsFirstCopy all ttl) part (kept ∷ [])
one_kept all ttl part head kept among here first copy = record {
  from = λ one c. (head, among, tt, (first, subst (IsCopy ttl head) (sym (only_one kept one c)) copy));
  each = λ e c p.
      (kept, Contains-head kept [], alike_trans Whole e.given head.given kept (here e head c among) (copy_repeats ttl head kept copy));
  rising = (tt, tt);
}

-- the least TTL of a whole set is that of the set of each of its records
set_ttl : (all part : List Given) (at n : ℕ) (P : Given → Type 0) (added : List Record) (ttl : ℕ) (e : Given)
    → IsMerging Set P (IsKeptOf all) all (drop at all) added → IsRun Set (drop at all) n → part ≡ take n (drop at all)
    → IsLeast part ttl → Contains part e → IsSetTtl all e ttl
set_ttl all part at n P added ttl e m run cut least c =
    let front : (d : Given) → Contains part d → Contains (take n (drop at all)) d = λ d k. subst (λ l. Contains l d) cut k in
    record {
      some = (
        least.some.0,
        m.among least.some.0 (take_in n (drop at all) least.some.0 (front least.some.0 least.some.1)),
        run.here e least.some.0 (front e c) (front least.some.0 least.some.1),
        least.some.2,
      );
      least = λ d k same. elim (m.apart d k) [
        | inl there ↦ elim (part_of n (drop at all) d there) [
          | inl here ↦ least.least d (subst (λ l. Contains l d) (sym cut) here)
          | inr back ↦ absurd (later_apart Set e.given d.given (run.later e d (front e c) back) same)
        ]
        | inr gone ↦
            absurd (later_apart Set d.given e.given (gone e (take_in n (drop at all) e (front e c))) (alike_sym Set e.given d.given same))
      ];
    }

-- the first entry of a run precedes its repeats among all
pub head_earliest : (all part : List Given) (at n : ℕ) (P : Given → Type 0) (R : Given → Record → Type 0)
    (added : List Record) (head : Given) → IsMerging Whole P R all (drop at all) added → IsStable all
    → IsRun Whole (drop at all) n → part ≡ take n (drop at all) → Contains part head → head ≡ get_or part 0 head
    → IsEarliest all head
head_earliest all part at n P R added head m stable run cut among is d k same =
    let front : Contains (take n (drop at all)) head = subst (λ l. Contains l head) cut among in
    elim (m.apart d k) [
      | inl there ↦ elim (part_of n (drop at all) d there) [
        | inl here ↦
            stable_head part head d
            (subst IsStable (sym cut) (stable_take n (drop at all) (stable_drop at all stable))) is
            (subst (λ l. Contains l d) (sym cut) here) same
        | inr back ↦ absurd (later_apart Whole head.given d.given (run.later head d front back) same)
      ]
      | inr gone ↦
          absurd (later_apart Whole d.given head.given (gone head (take_in n (drop at all) head front)) (alike_sym Whole head.given d.given same))
    ]

-- what precedes its repeats in a whole set precedes them among all
set_earliest : (all part : List Given) (at n : ℕ) (P : Given → Type 0) (R : Given → Record → Type 0)
    (added : List Record) (e : Given) → IsMerging Set P R all (drop at all) added → IsRun Set (drop at all) n
    → part ≡ take n (drop at all) → Contains part e → IsEarliest part e → IsEarliest all e
set_earliest all part at n P R added e m run cut c first d k same =
    let front : Contains (take n (drop at all)) e = subst (λ l. Contains l e) cut c in
    elim (m.apart d k) [
      | inl there ↦ elim (part_of n (drop at all) d there) [
        | inl here ↦ first d (subst (λ l. Contains l d) (sym cut) here) same
        | inr back ↦ absurd (later_apart Set e.given d.given (run.later e d front back) same.0)
      ]
      | inr gone ↦
          absurd (later_apart Set d.given e.given (gone e (take_in n (drop at all) e front)) (alike_sym Set e.given d.given same.0))
    ]

-- all of a set are SOA records, or none is
same_soa : (as_soa : Bool) (part : List Given) (head e : Given)
    → ((one other : Given) → Contains part one → Contains part other → AreOneSet one.given other.given)
    → Contains part head → Contains part e → IsSoaAs as_soa head → IsSoaAs as_soa e
same_soa as_soa part head e here c d is = ap (λ k. k == soa) (sym (here head e c d).1) ∙ is

-- the entries of a run are alike
pub run_here : (key : Key) (all part : List Given) (at n : ℕ) → IsRun key (drop at all) n → part ≡ take n (drop at all)
    → (one other : Given) → Contains part one → Contains part other → AreAlike key one.given other.given
run_here key all part at n run cut one other c d =
    run.here one other (subst (λ l. Contains l one) cut c) (subst (λ l. Contains l other) cut d)

-- one set is added
pub set_added : (as_soa : Bool) (all part : List Given) (at n : ℕ) (head : Given) (first old new : List Keep)
    → IsMergingFrom Set (IsSoaAs as_soa) (IsKeptOf all) all at first old → IsRun Set (drop at all) n
    → part ≡ take n (drop at all) → Contains part head → IsSoaAs as_soa head → IsMergedSet part old new
    → IsMergingFrom Set (IsSoaAs as_soa) (IsKeptOf all) all (at + n) first new
set_added as_soa all part at n head first old new m run cut among is (added, ttl, added_is, least, chosen, made) =
    subst (IsMergingFrom Set (IsSoaAs as_soa) (IsKeptOf all) all (at + n) first) (sym added_is)
    (from_more Set (IsSoaAs as_soa) (IsKeptOf all)
    (kept_repeats all) all part at n first old added m run cut chosen (record {
      from = λ one c.
          let f = made.from one c in (
            f.0,
            f.1,
            same_soa as_soa part head f.0 (run_here Set all part at n run cut) among f.1 is,
            (
              ttl,
              set_ttl all part at n (IsSoaAs as_soa) (map copy_of m.0) ttl f.0 m.3 run cut least f.1,
              f.3.1,
              set_earliest all part at n (IsSoaAs as_soa) (IsKeptOf all) (map copy_of m.0) f.0 m.3 run cut f.1 f.3.0,
            ),
          );
      each = λ e c p. made.each e c tt;
      rising = made.rising;
    }))

-- one set is passed over
pub set_passed : (as_soa : Bool) (all part : List Given) (at n : ℕ) (head : Given) (first old : List Keep)
    → IsMergingFrom Set (IsSoaAs as_soa) (IsKeptOf all) all at first old → IsRun Set (drop at all) n
    → part ≡ take n (drop at all) → Contains part head → ¬ IsSoaAs as_soa head
    → IsMergingFrom Set (IsSoaAs as_soa) (IsKeptOf all) all (at + n) first old
set_passed as_soa all part at n head first old m run cut among not =
    subst (IsMergingFrom Set (IsSoaAs as_soa) (IsKeptOf all) all (at + n) first) (append-nil old)
    (from_more Set (IsSoaAs as_soa) (IsKeptOf all) (kept_repeats all) all part at n first old [] m run cut
    (λ one c. absurd (Contains-none one c)) (record {
      from = λ one c. absurd (Contains-none one c);
      each = λ e c p. absurd (not (same_soa as_soa part e head (run_here Set all part at n run cut) c among p));
      rising = tt;
    }))
