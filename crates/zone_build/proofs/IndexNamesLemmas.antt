-- Names in an index: owners one after another, and the names above each.
use Rattle.std.proofs.Common.{◌≡◌, ◌⊎◌, inl, inr, ℕ, ◌<◌, ◌≤◌, List, [], ◌∷◌, length}
use Rattle.std.proofs.Common.{Some, None, true, length-append, refl, sym, ap}
use Rattle.std.proofs.Common.{subst, ◌∙◌, arith}
use Rattle.std.specs.Prelude.{Contains, nat_lt}
use Rattle.std.proofs.lemmas.Bool.Decides.{nat_tests}
use Rattle.naptr_data.proofs.CutLemmas.{Contains-head, Contains-after, Contains-none, head_or_after}
use Rattle.naptr_data.proofs.BelowLemmas.{below_itself, below_above, below_trans, below_same_top, below_same_name}
use Rattle.naptr_data.proofs.BelowLemmas.{length_below, length_same}
use Rattle.naptr_data.proofs.DecideLemmas.{below_parts, same_or_not}
use Rattle.naptr_data.specs.Zones.{Labels}
use Rattle.dns_name.specs.Name.{AreSame, IsBelow, folded_labels, parent_of}
use Rattle.dns_wire.specs.declared.record.Record.{Record}
use Rattle.zone_build.specs.Indexing.{Indexed, IsInserted, AllPlaces, ArePlaces, FindsOwners, IsIndex}
use Rattle.zone_build.specs.Indexing.{IsRunEnd, HasBelow, CoversAbove, IsGrown, CoversBefore, IsAboveEarlier}
use Rattle.zone_build.specs.Indexing.{candidates, key_of}
use Rattle.zone_build.specs.Indexing.{owner_at}
use Rattle.zone_build.specs.declared.index.Places.{Places}
use Rattle.zone_build.proofs.OrderLemmas.{three}
use Rattle.zone_build.proofs.IndexLemmas.{OwnersApart, places_made, before_or_from, apart_further, same_keys}

-- one more name
pub grown_same : (records : List Record) (index : Indexed) → AllPlaces records index → IsGrown records index index
grown_same records index all = record { places = all; kept = λ key one c. c; seed = refl }

pub grown_twice : (records : List Record) (one two three : Indexed) → IsGrown records one two → IsGrown records two three → IsGrown records one three
grown_twice records one two three g h = record { places = h.places; kept = λ key p c. h.kept key p (g.kept key p c); seed = h.seed ∙ g.seed }

pub inserted_grown : (records : List Record) (old new : Indexed) (key : ℕ) (places : Places) → AllPlaces records old
    → ArePlaces records places → IsInserted old new key places → IsGrown records old new
inserted_grown records old new key places all here i = record {
  places = λ other one c. elim (i.only other one c) [ inl was ↦ all was.0 one was.1 | inr is ↦ subst (ArePlaces records) (sym is) here ];
  kept = i.kept;
  seed = i.seed;
}

pub inserted_has : (records : List Record) (old new : Indexed) (key : ℕ) (name : Labels) (places : Places)
    → key ≡ key_of old.seed name → IsBelow (owner_at records places.first) name → IsInserted old new key places
    → HasBelow records new name
inserted_has records old new key name places is below i =
    (places, subst (λ k. Contains (candidates new k) places) (is ∙ ap (λ s. key_of s name) (sym i.seed)) i.added, below)

pub has_grown : (records : List Record) (old new : Indexed) (name : Labels) → IsGrown records old new → HasBelow records old name → HasBelow records new name
has_grown records old new name g (one, c, b) = (
  one,
  subst (λ s. Contains (candidates new (key_of s name)) one) (sym g.seed) (g.kept (key_of old.seed name) one c),
  b,
)

pub below_both : (a b : Labels) → IsBelow a b → IsBelow b a → AreSame a b
below_both a b ([], back, parts, same) d = ap folded_labels parts ∙ same
below_both a b (l ∷ front, back, parts, same) d =
    let whole = ap length parts ∙ length-append (l ∷ front) back in
    let part = length_same back b same in
    let less = length_below b a d in
    absurd (omega (arith, whole, part, less))

-- an owner that an index finds is at or below itself
places_or_none : (P : Places → Type 0) → ((one : Places) → P one ⊎ (P one → ⊥)) → (list : List Places)
    → ((one : Places) × Contains list one × P one) ⊎ ((one : Places) → Contains list one → ¬ P one)
places_or_none P each [] = inr (λ one c p. Contains-none one c)
places_or_none P each (x ∷ xs) = next (each x) (places_or_none P each xs)
  where
    next : P x ⊎ (P x → ⊥) → ((one : Places) × Contains xs one × P one) ⊎ ((one : Places) → Contains xs one → ¬ P one)
        → ((one : Places) × Contains (x ∷ xs) one × P one) ⊎ ((one : Places) → Contains (x ∷ xs) one → ¬ P one)
    next (inl here) h = inl (x, Contains-head x xs, here)
    next (inr not) (inl (one, c, p)) = inl (one, Contains-after x xs one c, p)
    next (inr not) (inr none) = inr (λ one c p. elim (head_or_after x xs one c) [
      | inl same ↦ not (subst P same p)
      | inr after ↦ none one after p
    ])

pub owner_there : (records : List Record) (index : Indexed) (k : ℕ) → FindsOwners records index → 0 < k → k < length records
    → HasBelow records index (owner_at records k)
owner_there records index k found p l =
    elim (places_or_none (λ one. AreSame (owner_at records one.first) (owner_at records k))
    (λ one. same_or_not (owner_at records one.first) (owner_at records k))
    (candidates index (key_of index.seed (owner_at records k)))) [
      | inl (one, c, same) ↦ (
        one,
        c,
        below_same_top (owner_at records one.first) (owner_at records one.first) (owner_at records k) same
            (below_itself (owner_at records one.first)),
      )
      | inr none ↦ absurd (found.owners k p l none)
    ]

-- the names at or above one
pub covers_apex : (records : List Record) (apex name : Labels) (index : Indexed) → AreSame name apex → CoversAbove records apex name index
covers_apex records apex name index same above b inside not =
    absurd (not (below_both above apex inside (below_same_name name apex above same b)))

pub has_same : (records : List Record) (index : Indexed) (name other : Labels) → AreSame name other → HasBelow records index name → HasBelow records index other
has_same records index name other same (one, c, b) = (
  one,
  subst (λ k. Contains (candidates index k) one) (same_keys index.seed name other same) c,
  below_same_top (owner_at records one.first) name other same b,
)

pub covers_more : (records : List Record) (apex name above : Labels) (old new : Indexed) → Some above ≡ parent_of name
    → HasBelow records old name → IsGrown records old new → CoversAbove records apex above new
    → CoversAbove records apex name new
covers_more records apex [] above old new is has g covers other b inside not = absurd (cc)
covers_more records apex (label ∷ name) above old new is has g covers other b inside not = elim (below_parts label name other b) [
  | inl same ↦ has_same records new (label ∷ name) other same (has_grown records old new (label ∷ name) g has)
  | inr further ↦
      let e : above ≡ name = cc in covers other (subst (λ n. IsBelow n other) (sym e) further) inside not
]

pub covers_root : (records : List Record) (apex name : Labels) (index : Indexed) → None ≡ parent_of name
    → HasBelow records index name → CoversAbove records apex name index
covers_root records apex (label ∷ name) index is has other b inside not = absurd (cc)
covers_root records apex [] index is has other b inside not = has_same records index [] other (root_same other b) has
  where
    root_same : (other : Labels) → IsBelow [] other → AreSame [] other
    root_same other ([], back, parts, same) = ap folded_labels parts ∙ same
    root_same other (l ∷ front, back, parts, same) = absurd (cc)

-- an owner that was passed covers what is above it
pub covers_passed : (records : List Record) (apex name : Labels) (at : ℕ) (old new : Indexed) → CoversBefore records apex at old
    → IsGrown records old new → IsAboveEarlier records at name → CoversAbove records apex name new
covers_passed records apex name at old new covers g (k, p, l, below) other b inside not =
    has_grown records old new other g (covers k other p l (below_trans (owner_at records k) name other below b) inside not)

pub covers_later : (records : List Record) (apex : Labels) (at : ℕ) (old new : Indexed) → IsGrown records old new
    → CoversBefore records apex at old → CoversBefore records apex at new
covers_later records apex at old new g covers k name p l b inside not = has_grown records old new name g (covers k name p l b inside not)

pub test_less : (n m : ℕ) → nat_lt n m ≡ true → n < m
test_less n m t = grind (arith, nat_tests)

pub found_earlier : (records : List Record) (index : Indexed) (key at : ℕ) (name : Labels) (one : Places)
    → AllPlaces records index → Contains (candidates index key) one → IsBelow (owner_at records one.first) name
    → one.first < at → IsAboveEarlier records at name
found_earlier records index key at name one all c b l = (one.first, (all key one c).after_soa, l, b)

-- the name above one
pub shorter_above : (name above : Labels) → Some above ≡ parent_of name → length above < length name
shorter_above [] above is = absurd (cc)
shorter_above (label ∷ name) above is = let e : above ≡ name = cc in omega (arith, ap length e)

pub below_parent : (owner name above : Labels) → Some above ≡ parent_of name → IsBelow owner name → IsBelow owner above
below_parent owner [] above is b = absurd (cc)
below_parent owner (label ∷ name) above is b =
    let e : above ≡ name = cc in
    subst (IsBelow owner) (sym e) (below_above owner (label ∷ []) name b)

-- owners, one after another
pub record OwnersUntil (records : List Record) (at : ℕ) (index : Indexed) : Type 0 where
  pub some : 0 < at
  pub apart : OwnersApart records at
  pub places : AllPlaces records index
  pub owners : (k : ℕ) → 0 < k → k < at
      → (one : Places) × Contains (candidates index (key_of index.seed (owner_at records k))) one
      × AreSame (owner_at records one.first) (owner_at records k)

pub owners_none : (records : List Record) (index : Indexed) → AllPlaces records index → OwnersUntil records 1 index
owners_none records index all = record {
  some = omega arith;
  apart = λ j k p l f g. absurd (omega arith);
  places = all;
  owners = λ k p l. absurd (omega arith);
}

pub owners_more : (records : List Record) (first end key : ℕ) (old new : Indexed) → OwnersUntil records first old
    → IsRunEnd records first end → key ≡ key_of old.seed (owner_at records first)
    → IsInserted old new key (record { first = first; end = end }) → OwnersUntil records end new
owners_more records first end key old new u run is i = record {
  some = let s = run.some in omega arith;
  apart = apart_further records first end u.apart run;
  places = grown.places;
  owners = λ k p l. elim (before_or_from k first) [
    | inl before ↦ let f = u.owners k p before in (
      f.0,
      subst (λ s. Contains (candidates new (key_of s (owner_at records k))) f.0) (sym i.seed)
          (grown.kept (key_of old.seed (owner_at records k)) f.0 f.1),
      f.2,
    )
    | inr from ↦ let same = run.here k from l
        in (
          record { first = first; end = end },
          subst (λ n. Contains (candidates new n) (record { first = first; end = end }))
              (is ∙ same_keys old.seed (owner_at records first) (owner_at records k) same
              ∙ ap (λ s. key_of s (owner_at records k)) (sym i.seed)) i.added,
          same,
        )
  ];
}
  where
    grown : IsGrown records old new
    grown = inserted_grown records old new key (record { first = first; end = end }) u.places (places_made records first end u.some u.apart run) i

pub owners_all : (records : List Record) (at : ℕ) (index : Indexed) → length records ≤ at → OwnersUntil records at index → FindsOwners records index
owners_all records at index end u = record {
  places = u.places;
  owners = λ k p l none. let f = u.owners k p (omega arith) in none f.0 f.1 f.2;
}

-- names above owners, one owner after another
pub record NamesUntil (records : List Record) (apex : Labels) (at : ℕ) (index : Indexed) : Type 0 where
  pub some : 0 < at
  pub apart : OwnersApart records at
  pub owners : FindsOwners records index
  pub names : CoversBefore records apex at index

pub names_none : (records : List Record) (apex : Labels) (index : Indexed) → FindsOwners records index → NamesUntil records apex 1 index
names_none records apex index owners = record {
  some = omega arith;
  apart = λ j k p l f g. absurd (omega arith);
  owners = owners;
  names = λ k name p l. absurd (omega arith);
}

pub names_more : (records : List Record) (apex : Labels) (first end : ℕ) (old new : Indexed)
    → NamesUntil records apex first old → IsRunEnd records first end → IsGrown records old new
    → CoversAbove records apex (owner_at records first) new → NamesUntil records apex end new
names_more records apex first end old new u run grown covers = record {
  some = let s = run.some in let p = u.some in omega arith;
  apart = apart_further records first end u.apart run;
  owners = record {
    places = grown.places;
    owners = λ k p l none. u.owners.owners k p l
        (λ one c. none one
        (subst (λ s. Contains (candidates new (key_of s (owner_at records k))) one) (sym grown.seed)
        (grown.kept (key_of old.seed (owner_at records k)) one c)));
  };
  names = λ k name p l b inside not. elim (before_or_from k first) [
    | inl before ↦ has_grown records old new name grown (u.names k name p before b inside not)
    | inr from ↦ covers name (below_same_name (owner_at records k) (owner_at records first) name (sym (run.here k from l)) b) inside not
  ];
}

pub names_all : (records : List Record) (apex : Labels) (at : ℕ) (index : Indexed) → length records ≤ at
    → NamesUntil records apex at index → IsIndex records apex index
names_all records apex at index end u = record {
  owners = u.owners;
  names = λ k name p l b inside not none. let h = u.names k name p (omega arith) b inside not in none h.0 h.1 h.2;
}
