-- Sets under keys that rise are records in canonical order, of which one set is found, put in or taken away.
use Rattle.std.proofs.Common.{◌≡◌, ◌⊎◌, inl, inr, ℕ, Bool, true, false, cond, List, [], ◌∷◌, ◌++◌, Some, None, refl, sym, ap, subst, ◌∙◌, append_assoc}
use Rattle.std.specs.Prelude.{Contains}
use Rattle.std.specs.List.{AllByRecursion}
use Rattle.std.specs.List.Sorted.{IsStrictlySortedBy}
use Rattle.std.specs.Map.{keys_of, lookup, remove_entry}
use Rattle.std.specs.BTreeMap.{insert_entry, is_at}
use Rattle.std.specs.Cmp.{Equal-is, nat_cmp_total, tied_itself}
use Rattle.std.specs.Cmp.Lexicographic.{nat_list_cmp_total, slice_cmp}
use Rattle.std.specs.Ordering.{is_eq, match_ordering, nat_cmp, ordering_then}
use Rattle.std.specs.declared.cmp.Ordering.{Ordering}
use Rattle.std.specs.declared.cmp.Ordering.TheVariants.{Less, Equal, Greater}
use Rattle.std.proofs.lemmas.List.Elements.{Contains-append_cases}
use Rattle.dns_name.specs.Name.{IsName, folded_labels, labels_of, wire_of}
use Rattle.dns_name.proofs.NameLemmas.{AllByRecursion-append, IsName-folded, labels_of-wire_of}
use Rattle.naptr_data.proofs.FoldLemmas.{same_folded}
use Rattle.zone_build.proofs.SizeLemmas.{one_set}
use Rattle.naptr_data.specs.Zones.{Labels}
use Rattle.naptr_data.proofs.CutLemmas.{Contains-none}
use Rattle.dns_wire.specs.Rdata.{rdata_of}
use Rattle.dns_wire.specs.declared.record.Record.{Record}
use Rattle.zone_build.specs.Zone.{AreOneSet, IsIn, IsRising, IsSet, order_of}
use Rattle.zone_db.specs.Offering.{RdataRises}
use Rattle.zone_build.proofs.ListLemmas.{AllByRecursion-contains, AllByRecursion-made}
use Rattle.zone_build.proofs.MergeLemmas.{IsRising-append}
use Rattle.zone_build.proofs.OrderLemmas.{bytes_cmp-equal, equal_then, nat_cmp-equal, then_equal}
use Rattle.registry.specs.Holding.{IsEntry, IsHeld, IsOf, IsPut, records_in}
use Rattle.registry.specs.Keys.{key_order, key_total}
use Rattle.registry.specs.declared.set_key.SetKey.{SetKey}

-- keys of one owner and kind are equal, and no others
key_equal : (one other : SetKey) → IsName one.owner → IsName other.owner → key_order one other ≡ Equal
    → (one.owner ≡ other.owner) × (one.kind ≡ other.kind)
key_equal one other n m e =
    let wires : wire_of one.owner ≡ wire_of other.owner =
    bytes_cmp-equal (wire_of one.owner) (wire_of other.owner)
    (equal_then (slice_cmp nat_cmp (wire_of one.owner) (wire_of other.owner)) (nat_cmp one.kind other.kind) e) in (
      sym (labels_of-wire_of one.owner n.each) ∙ ap labels_of wires ∙ labels_of-wire_of other.owner m.each,
      nat_cmp-equal one.kind other.kind
          (then_equal (slice_cmp nat_cmp (wire_of one.owner) (wire_of other.owner)) (nat_cmp one.kind other.kind) e),
    )

equal_key : (one other : SetKey) → one.owner ≡ other.owner → one.kind ≡ other.kind → key_order one other ≡ Equal
equal_key one other owner kind =
    subst (λ o. ordering_then (slice_cmp nat_cmp (wire_of one.owner) (wire_of o)) (nat_cmp one.kind other.kind) ≡ Equal) owner
    (subst (λ k. ordering_then (slice_cmp nat_cmp (wire_of one.owner) (wire_of one.owner)) (nat_cmp one.kind k) ≡ Equal) kind
    (tied_itself key_total one))

module _ (owner : Labels) (kind : ℕ) (key : SetKey) (name : IsName key.owner) (owners : key.owner ≡ folded_labels owner) (kinds : key.kind ≡ kind) where
  -- the records under a key are those of its owner and kind, and no others
  all_in : (e : SetKey × List Record) → IsEntry e → is_at (key_order key) e.0 ≡ true → AllByRecursion (IsIn owner kind) e.1
  all_in e entry at = AllByRecursion-made (IsIn owner kind) e.1 one_in
    where
      same : (key.owner ≡ e.0.owner) × (key.kind ≡ e.0.kind)
      same = key_equal key e.0 name entry.name ((Equal-is (key_order key e.0)).0 at)

      one_in : (one : Record) → Contains e.1 one → IsIn owner kind one
      one_in one c =
          let of : IsOf e.0.owner e.0.kind one = AllByRecursion-contains (IsOf e.0.owner e.0.kind) e.1 one entry.set.each c in
          (ap folded_labels of.0 ∙ entry.folded ∙ sym same.0 ∙ owners, of.1 ∙ sym same.1 ∙ kinds)

  none_in : (e : SetKey × List Record) → IsEntry e → is_at (key_order key) e.0 ≡ false → AllByRecursion (λ one. ¬ IsIn owner kind one) e.1
  none_in e entry at = AllByRecursion-made (λ one. ¬ IsIn owner kind one) e.1 apart
    where
      apart : (one : Record) → Contains e.1 one → ¬ IsIn owner kind one
      apart one c i =
          let of : IsOf e.0.owner e.0.kind one = AllByRecursion-contains (IsOf e.0.owner e.0.kind) e.1 one entry.set.each c in
          let owned : key.owner ≡ e.0.owner = owners ∙ sym i.0 ∙ ap folded_labels of.0 ∙ entry.folded in
          let kind_same : key.kind ≡ e.0.kind = kinds ∙ sym i.1 ∙ of.1 in
          let equal : key_order key e.0 ≡ Equal = equal_key key e.0 owned kind_same in
          let yes : is_at (key_order key) e.0 ≡ true = ap is_eq equal in
          cc

  none_in_all : (es : List (SetKey × List Record)) → AllByRecursion IsEntry es → AllByRecursion (λ e. is_at (key_order key) e.0 ≡ false) es
      → AllByRecursion (λ one. ¬ IsIn owner kind one) (records_in es)
  none_in_all [] each none = tt
  none_in_all (e ∷ es) each none =
      AllByRecursion-append (λ one. ¬ IsIn owner kind one) e.1 (records_in es) (none_in e each.0 none.0) (none_in_all es each.1 none.1)

-- what is held where a test of keys passes
abbrev pub held : (SetKey → Bool) → List (SetKey × List Record) → List Record
held test [] = []
held test (e ∷ es) = cond (test e.0) e.1 (held test es)

pub held_some : (test : SetKey → Bool) (es : List (SetKey × List Record)) (set : List Record) → lookup test es ≡ Some set → held test es ≡ set
held_some test [] set h = absurd (cc h)
held_some test (e ∷ es) set h = by (test e.0) (held_some test es set) h
  where
    by : (t : Bool) → (lookup test es ≡ Some set → held test es ≡ set) → cond t (Some e.1) (lookup test es) ≡ Some set
        → cond t e.1 (held test es) ≡ set
    by true rest is = cc
    by false rest is = rest is

pub held_none : (test : SetKey → Bool) (es : List (SetKey × List Record)) → lookup test es ≡ None → held test es ≡ []
held_none test [] h = refl
held_none test (e ∷ es) h = by (test e.0) (held_none test es) h
  where
    by : (t : Bool) → (lookup test es ≡ None → held test es ≡ []) → cond t (Some e.1) (lookup test es) ≡ None → cond t e.1 (held test es) ≡ []
    by true rest is = absurd (cc is)
    by false rest is = rest is

nothing_held : (test : SetKey → Bool) (es : List (SetKey × List Record)) → AllByRecursion (λ e. test e.0 ≡ false) es → held test es ≡ []
nothing_held test [] none = refl
nothing_held test (e ∷ es) none = ap (λ t. cond t e.1 (held test es)) none.0 ∙ nothing_held test es none.1

-- keys after one that is not before a key differ from it
later_apart : (key one : SetKey) (es : List (SetKey × List Record)) → (key_order key one ≡ Less) ⊎ (key_order key one ≡ Equal)
    → AllByRecursion (λ k. key_order one k ≡ Less) (keys_of es) → AllByRecursion (λ e. is_at (key_order key) e.0 ≡ false) es
later_apart key one [] early later = tt
later_apart key one (e ∷ es) early later = (ap is_eq (by early), later_apart key one es early later.1)
  where
    by : (key_order key one ≡ Less) ⊎ (key_order key one ≡ Equal) → key_order key e.0 ≡ Less
    by (inl less) = key_total.trans key one e.0 less later.0
    by (inr equal) = key_total.congr key one e.0 equal ∙ later.0

-- the set of an owner and a kind
pub set_in : (owner : Labels) (kind : ℕ) (key : SetKey) → IsName key.owner → key.owner ≡ folded_labels owner → key.kind ≡ kind
    → (es : List (SetKey × List Record)) → IsStrictlySortedBy key_order (keys_of es) → AllByRecursion IsEntry es
    → IsSet (records_in es) owner kind (held (is_at (key_order key)) es)
unfolding IsStrictlySortedBy
set_in owner kind key name owners kinds [] sorted each =
    record { before = []; after = []; parts = refl; each = tt; none_before = tt; none_after = tt }
set_in owner kind key name owners kinds (e ∷ es) sorted each =
    by (set_in owner kind key name owners kinds es sorted.1 each.1) (key_order key e.0) refl
  where
    later : IsSet (records_in es) owner kind (held (is_at (key_order key)) es) → is_at (key_order key) e.0 ≡ false
        → IsSet (e.1 ++ records_in es) owner kind (held (is_at (key_order key)) es)
    later rest not = record {
      before = e.1 ++ rest.before;
      after = rest.after;
      parts = ap (λ l. e.1 ++ l) rest.parts ∙ sym (append_assoc e.1 rest.before (held (is_at (key_order key)) es ++ rest.after));
      each = rest.each;
      none_before = AllByRecursion-append (λ one. ¬ IsIn owner kind one) e.1 rest.before
          (none_in owner kind key name owners kinds e each.0 not) rest.none_before;
      none_after = rest.none_after;
    }

    by : IsSet (records_in es) owner kind (held (is_at (key_order key)) es) → (o : Ordering) → key_order key e.0 ≡ o
        → IsSet (e.1 ++ records_in es) owner kind (cond (is_eq o) e.1 (held (is_at (key_order key)) es))
    by rest Less is = later rest (ap is_eq is)
    by rest Greater is = later rest (ap is_eq is)
    by rest Equal is = record {
      before = [];
      after = records_in es;
      parts = refl;
      each = all_in owner kind key name owners kinds e each.0 (ap is_eq is);
      none_before = tt;
      none_after = none_in_all owner kind key name owners kinds es each.1 (later_apart key e.0 es (inr is) sorted.0);
    }

-- a set is put in the place of what was held
pub put_in : (key : SetKey) (set : List Record) (es : List (SetKey × List Record)) → IsStrictlySortedBy key_order (keys_of es)
    → IsPut (records_in es) (records_in (insert_entry key_order es key set)) (held (is_at (key_order key)) es) set
unfolding IsStrictlySortedBy
put_in key set [] sorted = record { before = []; after = []; was = refl; is = refl }
put_in key set (e ∷ es) sorted = by (put_in key set es sorted.1) (key_order key e.0) refl
  where
    by : IsPut (records_in es) (records_in (insert_entry key_order es key set)) (held (is_at (key_order key)) es) set
        → (o : Ordering) → key_order key e.0 ≡ o
        → IsPut (e.1 ++ records_in es)
        (records_in (match_ordering o ((key, set) ∷ e ∷ es) ((e.0, set) ∷ es) (e ∷ insert_entry key_order es key set)))
        (cond (is_eq o) e.1 (held (is_at (key_order key)) es)) set
    by rest Less is =
        let none : held (is_at (key_order key)) es ≡ [] =
        nothing_held (is_at (key_order key)) es (later_apart key e.0 es (inl is) sorted.0) in
        record {
          before = [];
          after = e.1 ++ records_in es;
          was = ap (λ l. l ++ (e.1 ++ records_in es)) (sym none);
          is = refl;
        }
    by rest Equal is = record { before = []; after = records_in es; was = refl; is = refl }
    by rest Greater is =
        record {
          before = e.1 ++ rest.before;
          after = rest.after;
          was = ap (λ l. e.1 ++ l) rest.was ∙ sym (append_assoc e.1 rest.before (held (is_at (key_order key)) es ++ rest.after));
          is = ap (λ l. e.1 ++ l) rest.is ∙ sym (append_assoc e.1 rest.before (set ++ rest.after));
        }

pub each_put : (key : SetKey) (set : List Record) (es : List (SetKey × List Record)) → AllByRecursion IsEntry es → IsEntry (key, set)
    → AllByRecursion IsEntry (insert_entry key_order es key set)
each_put key set [] each entry = (entry, tt)
each_put key set (e ∷ es) each entry = by (each_put key set es each.1 entry) (key_order key e.0) refl
  where
    here : key_order key e.0 ≡ Equal → IsEntry (e.0, set)
    here is =
        let same = key_equal key e.0 entry.name each.0.name is in
        record {
          name = each.0.name;
          folded = each.0.folded;
          set = subst (λ o. IsHeld o e.0.kind set) same.0 (subst (λ k. IsHeld key.owner k set) same.1 entry.set);
        }

    by : AllByRecursion IsEntry (insert_entry key_order es key set) → (o : Ordering) → key_order key e.0 ≡ o
        → AllByRecursion IsEntry (match_ordering o ((key, set) ∷ e ∷ es) ((e.0, set) ∷ es) (e ∷ insert_entry key_order es key set))
    by rest Less is = (entry, each)
    by rest Equal is = (here is, each.1)
    by rest Greater is = (each.0, rest)

-- a set is taken away
pub take_in : (test : SetKey → Bool) (es : List (SetKey × List Record)) → IsPut (records_in es) (records_in (remove_entry test es)) (held test es) []
take_in test [] = record { before = []; after = []; was = refl; is = refl }
take_in test (e ∷ es) = by (take_in test es) (test e.0)
  where
    by : IsPut (records_in es) (records_in (remove_entry test es)) (held test es) [] → (t : Bool) → IsPut (e.1 ++ records_in es) (records_in (cond t es (e ∷ remove_entry test es))) (cond t e.1 (held test es)) []
    by rest true = record { before = []; after = records_in es; was = refl; is = refl }
    by rest false =
        record {
          before = e.1 ++ rest.before;
          after = rest.after;
          was = ap (λ l. e.1 ++ l) rest.was ∙ sym (append_assoc e.1 rest.before (held test es ++ rest.after));
          is = ap (λ l. e.1 ++ l) rest.is ∙ sym (append_assoc e.1 rest.before rest.after);
        }

pub each_take : (test : SetKey → Bool) (es : List (SetKey × List Record)) → AllByRecursion IsEntry es → AllByRecursion IsEntry (remove_entry test es)
each_take test [] each = tt
each_take test (e ∷ es) each = by (each_take test es each.1) (test e.0)
  where
    by : AllByRecursion IsEntry (remove_entry test es) → (t : Bool) → AllByRecursion IsEntry (cond t es (e ∷ remove_entry test es))
    by rest true = each.1
    by rest false = (each.0, rest)

-- of records of one set the order is that of their RDATA
pub order_in_set : (x y : Record) → AreOneSet x y → order_of x y ≡ slice_cmp nat_cmp (rdata_of x.content) (rdata_of y.content)
order_in_set x y same =
    ap (λ o. ordering_then o (ordering_then (nat_cmp x.kind y.kind) (slice_cmp nat_cmp (rdata_of x.content) (rdata_of y.content))))
    (ap (λ n. slice_cmp nat_cmp (wire_of (folded_labels x.owner)) (wire_of n)) (sym same.0)
    ∙ tied_itself nat_list_cmp_total (wire_of (folded_labels x.owner)))
    ∙ ap (λ o. ordering_then o (slice_cmp nat_cmp (rdata_of x.content) (rdata_of y.content)))
    (ap (nat_cmp x.kind) (sym same.1) ∙ tied_itself nat_cmp_total x.kind)

pub one_owner : (owner : Labels) (kind : ℕ) (x y : Record) → IsOf owner kind x → IsOf owner kind y → AreOneSet x y
one_owner owner kind x y a b = (ap folded_labels (a.0 ∙ sym b.0), a.1 ∙ sym b.1)

pub held_rises : (owner : Labels) (kind : ℕ) (set : List Record) → AllByRecursion (IsOf owner kind) set → RdataRises set → IsRising set
held_rises owner kind [] each rises = tt
held_rises owner kind (x ∷ set) each rises = (
  AllByRecursion-made (λ (next : Record). order_of x next ≡ Less) set (λ y c.
      order_in_set x y (one_owner owner kind x y each.0 (AllByRecursion-contains (IsOf owner kind) set y each.1 c))
      ∙ AllByRecursion-contains (λ (next : Record). slice_cmp nat_cmp (rdata_of x.content) (rdata_of next.content) ≡ Less) set y rises.0 c),
  held_rises owner kind set each.1 rises.1,
)

-- the records rise
then_less : (a b c : Ordering) → ordering_then a b ≡ Less → ordering_then a (ordering_then b c) ≡ Less
then_less Less b c h = refl
then_less Equal Less c h = refl
then_less Equal Equal c h = absurd (cc h)
then_less Equal Greater c h = absurd (cc h)
then_less Greater b c h = absurd (cc h)

module _ (e : SetKey × List Record) (entry : IsEntry e) (x : Record) (of : IsOf e.0.owner e.0.kind x) where
  before_entry : (f : SetKey × List Record) → IsEntry f → key_order e.0 f.0 ≡ Less → (y : Record) → Contains f.1 y → order_of x y ≡ Less
  before_entry f entry' less y c =
      let of' : IsOf f.0.owner f.0.kind y = AllByRecursion-contains (IsOf f.0.owner f.0.kind) f.1 y entry'.set.each c in
      let owner : e.0.owner ≡ folded_labels x.owner = sym entry.folded ∙ ap folded_labels (sym of.0) in
      let owner' : f.0.owner ≡ folded_labels y.owner = sym entry'.folded ∙ ap folded_labels (sym of'.0) in
      then_less (slice_cmp nat_cmp (wire_of (folded_labels x.owner)) (wire_of (folded_labels y.owner))) (nat_cmp x.kind y.kind)
      (slice_cmp nat_cmp (rdata_of x.content) (rdata_of y.content))
      (subst (λ o. ordering_then (slice_cmp nat_cmp (wire_of o) (wire_of (folded_labels y.owner))) (nat_cmp x.kind y.kind) ≡ Less) owner
      (subst (λ o. ordering_then (slice_cmp nat_cmp (wire_of e.0.owner) (wire_of o)) (nat_cmp x.kind y.kind) ≡ Less) owner'
      (subst (λ k. ordering_then (slice_cmp nat_cmp (wire_of e.0.owner) (wire_of f.0.owner)) (nat_cmp k y.kind) ≡ Less) (sym of.1)
      (subst (λ k. ordering_then (slice_cmp nat_cmp (wire_of e.0.owner) (wire_of f.0.owner)) (nat_cmp e.0.kind k) ≡ Less) (sym of'.1) less))))

  before_entries : (es : List (SetKey × List Record)) → AllByRecursion IsEntry es → AllByRecursion (λ k. key_order e.0 k ≡ Less) (keys_of es)
      → (y : Record) → Contains (records_in es) y → order_of x y ≡ Less
  before_entries [] each less y c = absurd (Contains-none y c)
  before_entries (f ∷ es) each less y c = elim (Contains-append_cases f.1 (records_in es) y c) [
    | inl front ↦ before_entry f each.0 less.0 y front
    | inr back ↦ before_entries es each.1 less.1 y back
  ]

pub rising_in : (es : List (SetKey × List Record)) → IsStrictlySortedBy key_order (keys_of es) → AllByRecursion IsEntry es → IsRising (records_in es)
unfolding IsStrictlySortedBy
rising_in [] sorted each = tt
rising_in (e ∷ es) sorted each =
    IsRising-append e.1 (records_in es) (held_rises e.0.owner e.0.kind e.1 each.0.set.each each.0.set.rising) (rising_in es sorted.1 each.1)
    (λ x y c d. before_entries e each.0 x (AllByRecursion-contains (IsOf e.0.owner e.0.kind) e.1 x each.0.set.each c) es each.1 sorted.0 y d)

held_at : (key : SetKey) → IsName key.owner → (es : List (SetKey × List Record)) → AllByRecursion IsEntry es
    → IsHeld key.owner key.kind (held (is_at (key_order key)) es)
held_at key name [] each = record { each = tt; rising = tt }
held_at key name (e ∷ es) each = by (held_at key name es each.1) (key_order key e.0) refl
  where
    here : key_order key e.0 ≡ Equal → IsHeld key.owner key.kind e.1
    here is =
        let same = key_equal key e.0 name each.0.name is in
        subst (λ o. IsHeld o key.kind e.1) (sym same.0) (subst (λ k. IsHeld e.0.owner k e.1) (sym same.1) each.0.set)

    by : IsHeld key.owner key.kind (held (is_at (key_order key)) es) → (o : Ordering) → key_order key e.0 ≡ o
        → IsHeld key.owner key.kind (cond (is_eq o) e.1 (held (is_at (key_order key)) es))
    by rest Less is = rest
    by rest Equal is = here is
    by rest Greater is = rest

-- what the calls of the map give
module _ (owner : Labels) (kind : ℕ) (key : SetKey) (name : IsName owner) (owners : key.owner ≡ folded_labels owner) (kinds : key.kind ≡ kind)
    (es : List (SetKey × List Record)) (sorted : IsStrictlySortedBy key_order (keys_of es)) (each : AllByRecursion IsEntry es) where
  key_name : IsName key.owner
  key_name = subst IsName (sym owners) (IsName-folded owner name)

  set_held : IsSet (records_in es) owner kind (held (is_at (key_order key)) es)
  set_held = set_in owner kind key key_name owners kinds es sorted each

  pub set_some : (set : List Record) → Some set ≡ lookup (is_at (key_order key)) es → IsSet (records_in es) owner kind set
  set_some set is = subst (λ s. IsSet (records_in es) owner kind s) (held_some (is_at (key_order key)) es set (sym is)) set_held

  pub set_nothing : None ≡ lookup (is_at (key_order key)) es → IsSet (records_in es) owner kind []
  set_nothing is = subst (λ s. IsSet (records_in es) owner kind s) (held_none (is_at (key_order key)) es (sym is)) set_held

  was_held : (was : List Record) → IsSet (records_in es) owner kind was → held (is_at (key_order key)) es ≡ was
  was_held was h = one_set (records_in es) owner kind (held (is_at (key_order key)) es) was set_held h

  pub set_put : (set : List Record) (more : List (SetKey × List Record)) → more ≡ insert_entry key_order es key set
      → (was : List Record) → IsSet (records_in es) owner kind was → IsPut (records_in es) (records_in more) was set
  set_put set more is was h =
      subst (λ l. IsPut (records_in es) (records_in l) was set) (sym is)
      (subst (λ l. IsPut (records_in es) (records_in (insert_entry key_order es key set)) l set) (was_held was h) (put_in key set es sorted))

  pub put_each : (set : List Record) (more : List (SetKey × List Record)) → more ≡ insert_entry key_order es key set
      → IsHeld (folded_labels owner) kind set → AllByRecursion IsEntry more
  put_each set more is h =
      subst (AllByRecursion IsEntry) (sym is)
      (each_put key set es each (record {
        name = key_name;
        folded = ap folded_labels owners ∙ sym (same_folded owner) ∙ sym owners;
        set = subst (λ o. IsHeld o key.kind set) (sym owners) (subst (λ k. IsHeld (folded_labels owner) k set) (sym kinds) h);
      }))

  pub set_taken : (less : List (SetKey × List Record)) → less ≡ remove_entry (is_at (key_order key)) es
      → (was : List Record) → IsSet (records_in es) owner kind was → IsPut (records_in es) (records_in less) was []
  set_taken less is was h =
      subst (λ l. IsPut (records_in es) (records_in l) was []) (sym is)
      (subst (λ l. IsPut (records_in es) (records_in (remove_entry (is_at (key_order key)) es)) l []) (was_held was h)
      (take_in (is_at (key_order key)) es))

  pub taken_each : (less : List (SetKey × List Record)) → less ≡ remove_entry (is_at (key_order key)) es → AllByRecursion IsEntry less
  taken_each less is = subst (AllByRecursion IsEntry) (sym is) (each_take (is_at (key_order key)) es each)

  pub set_is_held : (set : List Record) → Some set ≡ lookup (is_at (key_order key)) es → IsHeld (folded_labels owner) kind set
  set_is_held set is =
      subst (λ s. IsHeld (folded_labels owner) kind s) (held_some (is_at (key_order key)) es set (sym is))
      (subst (λ o. IsHeld o kind (held (is_at (key_order key)) es)) owners
      (subst (λ k. IsHeld key.owner k (held (is_at (key_order key)) es)) kinds (held_at key key_name es each)))
