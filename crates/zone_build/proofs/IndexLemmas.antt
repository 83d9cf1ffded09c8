-- Places of records, and the index of a zone.
use Rattle.std.proofs.Common.{◌≡◌, ◌≢◌, ◌⊎◌, inl, inr, ℕ, zero, suc, ◌+◌, ◌<◌, ◌≤◌, List, [], ◌∷◌, ◌++◌, length, take}
use Rattle.std.proofs.Common.{drop, get_or, Option, Some, None, Bool, true, false, cond, append-nil, refl, sym, ap}
use Rattle.std.proofs.Common.{subst, ◌∙◌, arith}
use Rattle.std.specs.Prelude.{Contains, nat_eq, ◌/◌, ◌*◌, IfSome, IfNone, OnOk, Result, Ok, Err}
use Rattle.std.proofs.lemmas.Bool.Decides.{nat_tests}
use Rattle.std.proofs.lemmas.List.{take_more, take_all, take-map, drop-map, map-append, length-map, get_or_default}
use Rattle.enum_base.specs.Folding.{folded, folded_byte}
use Rattle.dns_name.proofs.NameLemmas.{folded-wire_of}
use Rattle.zone_build.specs.declared.index.Sought.{Sought}
use Rattle.std.specs.Option.{option_to_list}
use Rattle.std.specs.Map.{lookup}
use Rattle.std.specs.declared.cmp.Ordering.{Ordering}
use Rattle.std.specs.declared.cmp.Ordering.TheVariants.{Less, Equal, Greater}
use Rattle.std.specs.Cmp.{IsTotalOrder}
use Rattle.std.proofs.lemmas.Cmp.{nat_list_cmp_total, on_total, tied_itself}
use Rattle.std.proofs.lemmas.List.Elements.{Contains-append_left, Contains-append_right, Contains-append_cases}
use Rattle.naptr_data.proofs.CutLemmas.{Contains-head, Contains-after, Contains-none, head_or_after}
use Rattle.naptr_data.specs.Zones.{Labels}
use Rattle.dns_name.specs.Name.{AreSame, IsName, folded_labels, wire_of}
use Rattle.dns_wire.specs.declared.record.Record.{Record}
use Rattle.zone_build.specs.Zone.{IsRising, IsCanonical, order_of}
use Rattle.zone_build.specs.Indexing.{Indexed, IsInserted, AllPlaces, ArePlaces, Meets, NoneMeets}
use Rattle.zone_build.specs.Indexing.{IsRunEnd, candidates, key_of, mixed, joined}
use Rattle.zone_build.specs.Indexing.{number_after, state_after, owner_at, kind_at}
use Rattle.zone_build.specs.declared.index.Places.{Places}
use Rattle.zone_build.specs.declared.entry.Key.TheVariants.{Owner}
use Rattle.zone_build.proofs.ListLemmas.{AllByRecursion-contains, turn_of, turned_all}
use Rattle.zone_build.proofs.OrderLemmas.{bytes_cmp, less_not_after, then_before, key_not_after}

-- the record at a place
pub record_at : (xs : List Record) (k : ℕ) → k < length xs
    → (r : Record) × Contains xs r × (r ≡ get_or xs k r) × (owner_at xs k ≡ r.owner) × (kind_at xs k ≡ r.kind)
record_at [] k l = absurd (omega arith)
record_at (x ∷ xs) zero l = (x, Contains-head x xs, refl, refl, refl)
record_at (x ∷ xs) (suc k) l = let f = record_at xs k (omega arith) in (f.0, Contains-after x xs f.0 f.1, f.2, f.3, f.4)

-- what was read there
pub owner_read : (xs : List Record) (k : ℕ) (r : Record) → k < length xs → r ≡ get_or xs k r → owner_at xs k ≡ r.owner
owner_read [] k r l is = absurd (omega arith)
owner_read (x ∷ xs) zero r l is = ap (λ (y : Record). y.owner) (sym is)
owner_read (x ∷ xs) (suc k) r l is = owner_read xs k r (omega arith) is

pub kind_read : (xs : List Record) (k : ℕ) (r : Record) → k < length xs → r ≡ get_or xs k r → kind_at xs k ≡ r.kind
kind_read [] k r l is = absurd (omega arith)
kind_read (x ∷ xs) zero r l is = ap (λ (y : Record). y.kind) (sym is)
kind_read (x ∷ xs) (suc k) r l is = kind_read xs k r (omega arith) is

-- each record stands at a place
pub place_of : (xs : List Record) (r : Record) → Contains xs r → (k : ℕ) × (k < length xs) × (owner_at xs k ≡ r.owner) × (kind_at xs k ≡ r.kind)
place_of [] r c = absurd (Contains-none r c)
place_of (x ∷ xs) r c = elim (head_or_after x xs r c) [
  | inl here ↦ (0, omega arith, ap (λ (y : Record). y.owner) (sym here), ap (λ (y : Record). y.kind) (sym here))
  | inr after ↦ let f = place_of xs r after in let l = f.1 in (suc f.0, omega arith, f.2, f.3)
]

-- the order of names
abbrev pub names_cmp : Labels → Labels → Ordering
names_cmp one other = bytes_cmp (wire_of (folded_labels one)) (wire_of (folded_labels other))

pub names_total : IsTotalOrder names_cmp
names_total = on_total (λ (name : Labels). wire_of (folded_labels name)) nat_list_cmp_total

same_equal : (one other : Labels) → AreSame one other → names_cmp one other ≡ Equal
same_equal one other a = ap (λ x. bytes_cmp (wire_of (folded_labels one)) (wire_of x)) (sym a) ∙ tied_itself names_total one

-- owners of records that rise do not fall
rising_owners : (xs : List Record) (j k : ℕ) → IsRising xs → j < k → k < length xs → names_cmp (owner_at xs j) (owner_at xs k) ≢ Greater
rising_owners [] j k r l m e = absurd (omega arith)
rising_owners (x ∷ xs) j zero r l m e = absurd (omega arith)
rising_owners (x ∷ xs) (suc j) (suc k) r l m e = rising_owners xs j k r.1 (omega arith) (omega arith) e
rising_owners (x ∷ xs) zero (suc k) r l m e =
    let f = record_at xs k (omega arith) in
    let less : order_of x f.0 ≡ Less = AllByRecursion-contains (λ (next : Record). order_of x next ≡ Less) xs f.0 r.0 f.1 in
    key_not_after Owner x f.0 (λ g. cc (sym less, g)) (ap (names_cmp x.owner) (sym f.3) ∙ e)

pub owners_rise : (records : List Record) (j k : ℕ) → IsCanonical records → 0 < j → j < k → k < length records
    → names_cmp (owner_at records j) (owner_at records k) ≢ Greater
owners_rise [] j k c p l m = absurd c
owners_rise (x ∷ xs) zero k c p l m = absurd (omega arith)
owners_rise (x ∷ xs) (suc j) zero c p l m = absurd (omega arith)
owners_rise (x ∷ xs) (suc j) (suc k) c p l m = rising_owners xs j k c.2 (omega arith) (omega arith)

-- the end of a run
pub equal_or_after : (n m : ℕ) → n ≤ m → (n ≡ m) ⊎ (n < m)
equal_or_after n m l = grind arith

pub run_ends : (records : List Record) (first at : ℕ) → IsCanonical records → 0 < first → first < at
    → at < length records → ((k : ℕ) → first ≤ k → k < at → AreSame (owner_at records first) (owner_at records k))
    → names_cmp (owner_at records first) (owner_at records at) ≢ Equal → IsRunEnd records first at
run_ends records first at c p l m here not = record {
  some = l;
  within = omega arith;
  here = here;
  after = λ k f g same.
      let less : names_cmp (owner_at records first) (owner_at records at) ≡ Less =
      then_before (names_cmp (owner_at records first) (owner_at records at)) not
      (owners_rise records first at c p l m) in
      elim (equal_or_after at k f) [
        | inl e ↦ not (ap (λ n. names_cmp (owner_at records first) (owner_at records n)) e ∙ same_equal (owner_at records first) (owner_at records k) same)
        | inr h ↦
            let far = less_not_after names_cmp names_total (owner_at records first) (owner_at records at)
            (owner_at records k) less (owners_rise records at k c (omega arith) h g) in
            cc (sym far, same_equal (owner_at records first) (owner_at records k) same)
      ];
}

pub run_whole : (records : List Record) (first at : ℕ) → first < length records → length records ≤ at
    → ((k : ℕ) → first ≤ k → k < at → AreSame (owner_at records first) (owner_at records k))
    → IsRunEnd records first (length records)
run_whole records first at l m here = record {
  some = l;
  within = omega arith;
  here = λ k f g. here k f (omega arith);
  after = λ k f g same. absurd (omega arith);
}

pub run_more : (records : List Record) (first at : ℕ)
    → ((k : ℕ) → first ≤ k → k < at → AreSame (owner_at records first) (owner_at records k))
    → AreSame (owner_at records first) (owner_at records at) → (k : ℕ) → first ≤ k → k < at + 1
    → AreSame (owner_at records first) (owner_at records k)
run_more records first at here same k f g = elim (equal_or_after k at (omega arith)) [
  | inl e ↦ same ∙ ap (λ n. folded_labels (owner_at records n)) (sym e)
  | inr h ↦ here k f h
]

-- owners before a place differ from those from there on
abbrev pub OwnersApart : List Record → ℕ → Type 0
OwnersApart records at = (j k : ℕ) → 0 < j → j < at → at ≤ k → k < length records → ¬ AreSame (owner_at records j) (owner_at records k)

pub places_made : (records : List Record) (first end : ℕ) → 0 < first → OwnersApart records first
    → IsRunEnd records first end → ArePlaces records (record { first = first; end = end })
places_made records first end p apart run = record {
  after_soa = p;
  some = run.some;
  within = run.within;
  here = run.here;
  before = λ k q l same. let s = run.some in let w = run.within in apart k first q l (omega arith) (omega arith) (sym same);
  after = run.after;
}

pub before_or_from : (n m : ℕ) → (n < m) ⊎ (m ≤ n)
before_or_from n m = grind arith

pub apart_further : (records : List Record) (first end : ℕ) → OwnersApart records first → IsRunEnd records first end → OwnersApart records end
apart_further records first end apart run j k p l f g same = elim (before_or_from j first) [
  | inl h ↦ let s = run.some in apart j k p h (omega arith) g same
  | inr h ↦ run.after k f g (run.here j h l ∙ same)
]

-- one more in an index
pub nothing_yet : (records : List Record) (seed : ℕ) → AllPlaces records (record { seed = seed; entries = []; rest = [] })
nothing_yet records seed key one c = absurd (Contains-none one c)

only_in : (o : Option Places) (one : Places) → Contains (option_to_list o) one → o ≡ Some one
only_in None one c = absurd (Contains-none one c)
only_in (Some x) one c = elim (head_or_after x [] one c) [ inl here ↦ ap (λ y. Some y) (sym here) | inr none ↦ absurd (Contains-none one none) ]

-- what stands for a key is what the map has there, or is in the list
in_either : (index : Indexed) (key : ℕ) (one : Places) → Contains (candidates index key) one
    → (lookup (nat_eq key) index.entries ≡ Some one) ⊎ Contains index.rest one
in_either index key one c = elim (Contains-append_cases (option_to_list (lookup (nat_eq key) index.entries)) index.rest one c) [
  | inl front ↦ inl (only_in (lookup (nat_eq key) index.entries) one front)
  | inr back ↦ inr back
]

pub in_map : (index : Indexed) (key : ℕ) (one : Places) → lookup (nat_eq key) index.entries ≡ Some one → Contains (candidates index key) one
in_map index key one is = Contains-append_left (option_to_list (lookup (nat_eq key) index.entries)) index.rest one
    (subst (λ o. Contains (option_to_list o) one) (sym is) (Contains-head one []))

in_list : (index : Indexed) (key : ℕ) (one : Places) → Contains index.rest one → Contains (candidates index key) one
in_list index key one c = Contains-append_right (option_to_list (lookup (nat_eq key) index.entries)) index.rest one c

keys_equal : (n m : ℕ) → nat_eq n m ≡ true → n ≡ m
keys_equal n m e = grind (arith, nat_tests)

bool_cases : (b : Bool) → (b ≡ true) ⊎ (b ≡ false)
bool_cases true = inl refl
bool_cases false = inr refl

pub list_kept : (list : List Places) (o : Option Places) → o ≡ None → list ≡ list ++ option_to_list o
list_kept list o e = sym (append-nil list) ∙ ap (λ p. list ++ option_to_list p) (sym e)

-- places are put under a key, and those that stood there go into the list
pub inserted_key : (old new : Indexed) (key : ℕ) (places : Places)
    → ((q : ℕ) → lookup (nat_eq q) new.entries ≡ cond (nat_eq key q) (Some places) (lookup (nat_eq q) old.entries))
    → lookup (nat_eq key) new.entries ≡ Some places
    → new.rest ≡ old.rest ++ option_to_list (lookup (nat_eq key) old.entries) → new.seed ≡ old.seed
    → IsInserted old new key places
inserted_key old new key places update there r s = record {
  added = in_map new key places there;
  kept = λ other one c. elim (in_either old other one c) [
    | inl front ↦ elim (bool_cases (nat_eq key other)) [
      | inl hit ↦ in_list new other one
          (subst (λ l. Contains l one) (sym r)
          (Contains-append_right old.rest (option_to_list (lookup (nat_eq key) old.entries)) one
          (subst (λ o. Contains (option_to_list o) one) (sym (moved other one hit front)) (Contains-head one []))))
      | inr miss ↦ in_map new other one (update other ∙ ap (λ b. cond b (Some places) (lookup (nat_eq other) old.entries)) miss ∙ front)
    ]
    | inr back ↦ in_list new other one
        (subst (λ l. Contains l one) (sym r)
        (Contains-append_left old.rest (option_to_list (lookup (nat_eq key) old.entries)) one back))
  ];
  only = λ other one c. elim (in_either new other one c) [
    | inl front ↦ elim (bool_cases (nat_eq key other)) [
      | inl hit ↦ inr (given one (sym (update other ∙ ap (λ b. cond b (Some places) (lookup (nat_eq other) old.entries)) hit) ∙ front))
      | inr miss ↦ inl (
        other,
        in_map old other one
            (sym (update other ∙ ap (λ b. cond b (Some places) (lookup (nat_eq other) old.entries)) miss) ∙ front),
      )
    ]
    | inr back ↦ inl (from_list one
        (Contains-append_cases old.rest (option_to_list (lookup (nat_eq key) old.entries)) one (subst (λ l. Contains l one) r back)))
  ];
  seed = s;
}
  where
    moved : (other : ℕ) (one : Places) → nat_eq key other ≡ true → lookup (nat_eq other) old.entries ≡ Some one → lookup (nat_eq key) old.entries ≡ Some one
    moved other one hit front = subst (λ q. lookup (nat_eq q) old.entries ≡ Some one) (sym (keys_equal key other hit)) front

    given : (one : Places) → Some places ≡ Some one → one ≡ places
    given one e = cc

    from_list : (one : Places) → Contains old.rest one ⊎ Contains (option_to_list (lookup (nat_eq key) old.entries)) one
        → (was : ℕ) × Contains (candidates old was) one
    from_list one (inl back) = (key, in_list old key one back)
    from_list one (inr front) = (key, in_map old key one (only_in (lookup (nat_eq key) old.entries) one front))

-- keys of names
number_after-push : (n : ℕ) (xs : List ℕ) (b : ℕ) → number_after n (xs ++ b ∷ []) ≡ joined (number_after n xs) b
unfolding number_after
number_after-push n [] b = refl
number_after-push n (x ∷ xs) b = number_after-push (joined n x) xs b

pub number_more : (first : ℕ) (bytes : List ℕ) (i number next : ℕ) → i < length bytes
    → number ≡ number_after first (folded (take i bytes)) → next ≡ joined number (folded_byte (get_or bytes i 0))
    → next ≡ number_after first (folded (take (i + 1) bytes))
number_more first bytes i number next l is e =
    e ∙ ap (λ s. joined s (folded_byte (get_or bytes i 0))) is ∙ sym (number_after-push first (folded (take i bytes)) (folded_byte (get_or bytes i 0)))
    ∙ ap (number_after first) (sym (map-append folded_byte (take i bytes) (get_or bytes i 0 ∷ [])))
    ∙ ap (λ xs. number_after first (folded xs)) (sym (take_more bytes i 0 l))

pub number_first : (first : ℕ) (bytes : List ℕ) → first ≡ number_after first (folded (take 0 bytes))
unfolding number_after
number_first first bytes = refl

pub number_all : (first : ℕ) (bytes : List ℕ) (i number : ℕ) → length bytes ≤ i
    → number ≡ number_after first (folded (take i bytes)) → number ≡ number_after first (folded bytes)
number_all first bytes i number end is = is ∙ ap (λ xs. number_after first (folded xs)) (take_all i bytes end)

-- seven bytes of the folded name are those of the name, folded
pub state_more : (seed : ℕ) (bytes : List ℕ) (i state number : ℕ) → state ≡ state_after seed (folded bytes) i
    → number ≡ number_after 0 (folded (take 7 (drop (7 * i) bytes)))
    → mixed seed state number ≡ state_after seed (folded bytes) (i + 1)
state_more seed bytes i state number is n =
    ap (λ s. mixed seed s number) is
    ∙ ap (mixed seed (state_after seed (folded bytes) i))
    (n ∙ ap (number_after 0) (sym (take-map folded_byte 7 (drop (7 * i) bytes)) ∙ ap (take 7) (sym (drop-map folded_byte (7 * i) bytes))))
    ∙ ap (state_after seed (folded bytes)) (next_is i)
  where
    next_is : (n : ℕ) → suc n ≡ n + 1
    next_is n = omega arith

pub key_met : (seed : ℕ) (name : Labels) (bytes : List ℕ) (i state : ℕ) → bytes ≡ wire_of name → IsName name
    → i ≡ length bytes / 7 + 1 → state ≡ state_after seed (folded bytes) i → state ≡ key_of seed name
unfolding key_of
key_met seed name bytes i state wire is end all =
    let same : folded bytes ≡ wire_of (folded_labels name) = ap folded wire ∙ folded-wire_of name is.each in
    all
    ∙ ap (state_after seed (folded bytes)) (end ∙ ap (λ n. n / 7 + 1) (sym (length-map bytes folded_byte)))
    ∙ ap (λ xs. state_after seed xs (length xs / 7 + 1)) same

pub same_keys : (seed : ℕ) (one other : Labels) → AreSame one other → key_of seed one ≡ key_of seed other
unfolding key_of
same_keys seed one other same = ap (λ n. state_after seed (wire_of n) (length (wire_of n) / 7 + 1)) same

-- finding
pub first_within : (records : List Record) (index : Indexed) (list : List Places) → AllPlaces records index
    → list ≡ index.rest → (one : Places) → Contains list one → one.first < length records
first_within records index list all is one c =
    let p = all 0 one (Contains-append_right (option_to_list (lookup (nat_eq 0) index.entries)) index.rest one (subst (λ l. Contains l one) is c)) in
    let s = p.some in
    let w = p.within in
    omega arith

pub in_rest : (index : Indexed) (key : ℕ) (list : List Places) (one : Places) → list ≡ index.rest → Contains list one → Contains (candidates index key) one
in_rest index key list one is c = Contains-append_right (option_to_list (lookup (nat_eq key) index.entries)) index.rest one (subst (λ l. Contains l one) is c)

pub none_in_both : (sought : Sought) (records : List Record) (name : Labels) (index : Indexed) (key : ℕ)
    (list : List Places) → list ≡ index.rest
    → ((one : Places) → lookup (nat_eq key) index.entries ≡ Some one
    → ¬ Meets sought (owner_at records one.first) name) → NoneMeets sought records name list
    → NoneMeets sought records name (candidates index key)
none_in_both sought records name index key list is front back one c =
    elim (Contains-append_cases (option_to_list (lookup (nat_eq key) index.entries)) index.rest one c) [
      | inl here ↦ front one (only_in (lookup (nat_eq key) index.entries) one here)
      | inr there ↦ back one (subst (λ l. Contains l one) (sym is) there)
    ]

-- places in their turn
pub none_more : (sought : Sought) (records : List Record) (name : Labels) (list : List Places) (i : ℕ) (d : Places)
    → i < length list → NoneMeets sought records name (take i list)
    → ¬ Meets sought (owner_at records (get_or list i d).first) name → NoneMeets sought records name (take (i + 1) list)
none_more sought records name list i d l none not one c = elim (turn_of list i (get_or list i d) one l (get_or_default list i d (get_or list i d) l) c) [
  | inl old ↦ none one old
  | inr new ↦ λ m. not (subst (λ (p : Places). Meets sought (owner_at records p.first) name) new m)
]

pub none_turned : (sought : Sought) (records : List Record) (name : Labels) (list : List Places) (i : ℕ)
    → length list ≤ i → NoneMeets sought records name (take i list) → NoneMeets sought records name list
none_turned sought records name list i end none one c = none one (turned_all list i one end c)

-- of what a result has
pub some_map : {X : Type 0} (P Q : X → Type 0) → ((x : X) → P x → Q x) → (o : Option X) → IfSome o P → IfSome o Q
some_map P Q f None p = tt
some_map P Q f (Some x) p = f x p

pub none_map : {X : Type 0} (P Q : Type 0) → (P → Q) → (o : Option X) → IfNone o P → IfNone o Q
none_map P Q f None p = f p
none_map P Q f (Some x) p = tt

pub ok_map : {X E : Type 0} (P Q : Type 0) → (P → Q) → (r : Result X E) → OnOk r P → OnOk r Q
ok_map P Q f (Ok x) p = f p
ok_map P Q f (Err e) p = tt

pub both_map : {X E : Type 0} (P Q R : Type 0) → (P → Q → R) → (r : Result X E) → OnOk r P → OnOk r Q → OnOk r R
both_map P Q R f (Ok x) p q = f p q
both_map P Q R f (Err e) p q = tt
