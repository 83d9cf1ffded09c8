-- Sets that are filled with records that rise.
use Rattle.std.proofs.Common.{◌≡◌, inl, inr, ℕ, ◌+◌, ◌<◌, List, [], ◌∷◌, ◌++◌, length, take, drop, get_or, refl, sym, ap, subst, ◌∙◌, arith, append_assoc, append-nil}
use Rattle.std.specs.Prelude.{Contains}
use Rattle.std.specs.List.{flat_map}
use Rattle.std.specs.Map.{values_of}
use Rattle.std.specs.Cmp.Lexicographic.{slice_cmp}
use Rattle.std.specs.Ordering.{nat_cmp, ordering_reverse}
use Rattle.std.specs.declared.cmp.Ordering.TheVariants.{Less, Greater}
use Rattle.std.proofs.Math.Seq.{take-length}
use Rattle.std.proofs.lemmas.List.{drop_all, drop_more, take-append-drop}
use Rattle.std.proofs.lemmas.List.Elements.{Contains-append_right}
use Rattle.dns_name.specs.Name.{folded_labels}
use Rattle.dns_name.proofs.NameLemmas.{AllByRecursion-append}
use Rattle.naptr_data.proofs.CutLemmas.{Contains-head, Contains-none, head_or_after}
use Rattle.dns_wire.specs.Rdata.{rdata_of}
use Rattle.dns_wire.specs.declared.record.Record.{Record}
use Rattle.zone_build.specs.Zone.{IsIn, IsRising, IsSet, order_of}
use Rattle.zone_build.proofs.ListLemmas.{AllByRecursion-contains, AllByRecursion-made}
use Rattle.zone_build.proofs.OrderLemmas.{order_of-total}
use Rattle.zone_db.specs.Offering.{RdataRises}
use Rattle.registry.specs.Holding.{IsHeld, IsOf, IsPut, records_in}
use Rattle.registry.specs.declared.set_key.SetKey.{SetKey}
use Rattle.registry.proofs.CommandLemmas.{rises_with}
use Rattle.registry.proofs.HoldLemmas.{order_in_set}
use Rattle.registry.proofs.LookLemmas.{in_set}

-- of records that rise those in front come before, and those behind after
pub rising_before : (front : List Record) (one : Record) (back : List Record) → IsRising (front ++ one ∷ back) → (y : Record) → Contains front y
    → order_of y one ≡ Less
rising_before [] one back r y c = absurd (Contains-none y c)
rising_before (x ∷ front) one back r y c = elim (head_or_after x front y c) [
  | inl here ↦ subst (λ (z : Record). order_of z one ≡ Less) (sym here)
      (AllByRecursion-contains (λ (next : Record). order_of x next ≡ Less) (front ++ one ∷ back) one r.0
      (Contains-append_right front (one ∷ back) one (Contains-head one back)))
  | inr later ↦ rising_before front one back r.1 y later
]

rising_after : (front : List Record) (one : Record) (back : List Record) → IsRising (front ++ one ∷ back) → (y : Record) → Contains back y
    → order_of one y ≡ Less
rising_after [] one back r y c = AllByRecursion-contains (λ (next : Record). order_of one next ≡ Less) back y r.0 c
rising_after (x ∷ front) one back r y c = rising_after front one back r.1 y c

pub earlier_at : (records : List Record) (i : ℕ) (one : Record) → IsRising records → i < length records → one ≡ get_or records i one
    → (y : Record) → Contains (take i records) y → order_of y one ≡ Less
earlier_at records i one rising within is y c =
    let parts : records ≡ take i records ++ one ∷ drop (i + 1) records =
    sym (take-append-drop i records)
    ∙ ap (λ l. take i records ++ l) (drop_more records i one within ∙ ap (λ x. x ∷ drop (i + 1) records) (sym is)) in
    rising_before (take i records) one (drop (i + 1) records) (subst IsRising parts rising) y c

nothing : (xs : List Record) → ((y : Record) → Contains xs y → ⊥) → xs ≡ []
nothing [] lacks = refl
nothing (x ∷ xs) lacks = absurd (lacks x (Contains-head x xs))

module _ (olds : List Record) (one : Record) (set more : List Record) (folded : folded_labels one.owner ≡ one.owner)
    (later : (other : Record) → Contains olds other → order_of other one ≡ Less) (s : IsSet olds one.owner one.kind set)
    (is : more ≡ take (length set) set ++ one ∷ drop (length set) set) where
  more_is : more ≡ set ++ one ∷ []
  more_is =
      is ∙ ap (λ l. l ++ one ∷ drop (length set) set) (take-length set)
      ∙ ap (λ l. set ++ one ∷ l) (drop_all (length set) set (omega arith))

  pub more_held : IsHeld (folded_labels one.owner) one.kind set → IsHeld (folded_labels one.owner) one.kind more
  more_held h = subst (IsHeld (folded_labels one.owner) one.kind) (sym more_is) (record {
    each = AllByRecursion-append (IsOf (folded_labels one.owner) one.kind) set (one ∷ []) h.each ((sym folded, refl), tt);
    rising = rises_with set one [] (subst RdataRises (sym (append-nil set)) h.rising)
        (AllByRecursion-made (λ (x : Record). slice_cmp nat_cmp (rdata_of x.content) (rdata_of one.content) ≡ Less) set (λ x c.
        let i = AllByRecursion-contains (IsIn one.owner one.kind) set x s.each c in
        sym (order_in_set x one i) ∙ later x (in_set olds set one.owner one.kind x s c))) tt;
  })

  pub more_put : (news : List Record) → IsPut olds news set more → IsRising news → news ≡ olds ++ one ∷ []
  more_put news p rising =
      let shape : news ≡ (p.before ++ set) ++ one ∷ p.after =
      p.is ∙ ap (λ l. p.before ++ (l ++ p.after)) more_is ∙ ap (λ l. p.before ++ l) (append_assoc set (one ∷ []) p.after)
      ∙ sym (append_assoc p.before set (one ∷ p.after)) in
      let old_shape : olds ≡ (p.before ++ set) ++ p.after = p.was ∙ sym (append_assoc p.before set p.after) in
      let last : p.after ≡ [] = nothing p.after (λ y c.
      let before : order_of y one ≡ Less =
      later y (subst (λ l. Contains l y) (sym old_shape) (Contains-append_right (p.before ++ set) p.after y c)) in
      let after : order_of one y ≡ Less = rising_after (p.before ++ set) one p.after (subst IsRising shape rising) y c in
      let turned : Less ≡ Greater = sym before ∙ order_of-total.antisymm y one ∙ ap ordering_reverse after in
      cc turned) in
      shape ∙ ap (λ l. (p.before ++ set) ++ one ∷ l) last
      ∙ ap (λ l. l ++ one ∷ []) (sym (append-nil (p.before ++ set)) ∙ ap (λ l. (p.before ++ set) ++ l) (sym last) ∙ sym old_shape)

-- the records of all sets are those of the values of a map
pub values_are : (es : List (SetKey × List Record)) → flat_map (λ (l : List Record). l) (values_of es) ≡ records_in es
values_are [] = refl
values_are (e ∷ es) = ap (λ l. e.1 ++ l) (values_are es)
