-- Names without pointers are the names that are read in the bytes from their place on.
use Rattle.std.proofs.Common.{◌≡◌, ◌⊎◌, ℕ, zero, suc, ◌+◌, ◌-◌, ◌<◌, ◌≤◌, List, [], ◌∷◌, ◌++◌, length, drop, get_or}
use Rattle.std.proofs.Common.{None, unwrap_or, Result, Ok, Err, refl, sym, ◌∙◌, ap, subst, inl, inr, arith}
use Rattle.std.proofs.Common.{length-append, length-drop}
use Rattle.std.proofs.lemmas.Bool.Decides.{nat_tests}
use Rattle.std.proofs.lemmas.List.{get_or_past}
use Rattle.std.specs.List.{AllByRecursion, flat_map}
use Rattle.enum_base.proofs.StageLemmas.{IsSingle, IsTotal}
use Rattle.dns_name.specs.Name.{IsLabel, IsName, IsByte, label_wire, wire_of}
use Rattle.dns_name.specs.Wire.{StandsAt, Field, Leads, labels_in, after_pointer, NameAt, Reaches, FieldIsCut, NameBreaks, by_label, by_pointer}
use Rattle.dns_name.specs.declared.wire_fault.WireFault.{WireFault}
use Rattle.dns_name.specs.declared.wire_fault.WireFault.TheVariants as wire
use Rattle.dns_name.proofs.ReadLemmas.{one_name, one_fault, not_both, stands}
use Rattle.dns_name.proofs.FoundLemmas.{pointer_there, name_or_fault}
use Rattle.naptr_rule.specs.Bare.{LabelsStand, LabelIsCut, LabelIsBad, BareName}
use Rattle.naptr_rule.specs.BareReading.{place_of, cut_fault, bare_fault}
use Rattle.naptr_rule.specs.declared.rdata_fault.RdataFault.{RdataFault}
use Rattle.naptr_rule.specs.declared.rdata_fault.RdataFault.TheVariants.{Short, BadName}
use Rattle.rdata_field.proofs.PlaceLemmas.{by_size}
use Rattle.rdata_field.proofs.PlaceLemmas.{from_rest, to_rest, stands_inside, stands_join, stands_split}

-- labels that lead from a place, with no pointer among them
record AreLed (m : List ℕ) (a : ℕ) (labels : List (List ℕ)) (here : ℕ) : Type 0 where
  pub each : AllByRecursion IsLabel labels
  pub there : StandsAt m a (flat_map label_wire labels)
  pub place : here ≡ a + length (flat_map label_wire labels)

record Led (m : List ℕ) (a : ℕ) (fs : List Field) (t h : ℕ) : Type 0 where
  pub start : t ≡ 0
  pub none : after_pointer a fs ≡ None
  pub labels : AreLed m a (labels_in fs) h

led : (m : List ℕ) (a : ℕ) (fs : List Field) (t h : ℕ) → Leads m 0 a fs t h → Led m a fs t h
led m a [] t h f = record { start = sym f.0; none = refl; labels = record { each = tt; there = refl; place = let e = f.1 in omega arith } }
led m a (by_label l ∷ fs) t h f =
    let rest = led m (a + (length l + 1)) fs t h f.1 in
    let e : a + (length l + 1) ≡ a + length (label_wire l) = omega arith in
    let place = rest.labels.place in
    let whole = length-append (label_wire l) (flat_map label_wire (labels_in fs)) in
    record {
      start = rest.start;
      none = rest.none;
      labels = record {
        each = (f.0.1, rest.labels.each);
        there = stands_join m a (label_wire l) (flat_map label_wire (labels_in fs)) f.0.0
            (subst (λ n. StandsAt m n (flat_map label_wire (labels_in fs))) e rest.labels.there);
        place = omega arith;
      };
    }
led m a (by_pointer o ∷ fs) t h f = let below = f.1 in absurd (omega arith)

-- labels alone
fields_of : List (List ℕ) → List Field
fields_of [] = []
fields_of (l ∷ ls) = by_label l ∷ fields_of ls

labels_in-fields : (labels : List (List ℕ)) → labels_in (fields_of labels) ≡ labels
unfolding fields_of
labels_in-fields [] = refl
labels_in-fields (l ∷ ls) = ap (λ x. l ∷ x) (labels_in-fields ls)

no_pointer : (a : ℕ) (labels : List (List ℕ)) → after_pointer a (fields_of labels) ≡ None
unfolding fields_of
no_pointer a [] = refl
no_pointer a (l ∷ ls) = no_pointer (a + (length l + 1)) ls

leads : (m : List ℕ) (start a : ℕ) (labels : List (List ℕ)) → AllByRecursion IsLabel labels
    → StandsAt m a (flat_map label_wire labels)
    → Leads m start a (fields_of labels) start (a + length (flat_map label_wire labels))
unfolding fields_of
leads m start a [] each there = (refl, omega arith)
leads m start a (l ∷ ls) each there =
    let parts = stands_split m a (label_wire l) (flat_map label_wire ls) (omega arith) there in
    let e : a + length (label_wire l) ≡ a + (length l + 1) = omega arith in
    let rest = leads m start (a + (length l + 1)) ls each.1 (subst (λ n. StandsAt m n (flat_map label_wire ls)) e parts.1) in
    let whole = length-append (label_wire l) (flat_map label_wire ls) in
    let end : a + (length l + 1) + length (flat_map label_wire ls) ≡ a + length (label_wire l ++ flat_map label_wire ls) = omega arith in
    ((parts.0, each.0), subst (λ n. Leads m start (a + (length l + 1)) (fields_of ls) start n) end rest)

-- the wire form of a name in a message is that name
pub name_stands : (m : List ℕ) (at : ℕ) (labels : List (List ℕ)) → IsName labels → StandsAt m at (wire_of labels)
    → NameAt m at labels (at + length (wire_of labels))
name_stands m at labels is stand =
    let whole = length-append (flat_map label_wire labels) (0 ∷ []) in
    let parts = stands_split m at (flat_map label_wire labels) (0 ∷ []) (omega arith) stand in
    let end : at + length (wire_of labels) ≡ at + length (flat_map label_wire labels) + 1 = omega arith in
    record {
      fields = fields_of labels;
      start = at;
      root = at + length (flat_map label_wire labels);
      leads = leads m at at labels is.each parts.0;
      end = parts.1;
      spelt = sym (labels_in-fields labels);
      short = is.short;
      after = end ∙ sym (ap (λ o. unwrap_or o (at + length (flat_map label_wire labels) + 1)) (no_pointer at labels));
    }

-- a name that is read from offset 0
led_name : (m : List ℕ) (labels : List (List ℕ)) (next : ℕ) → NameAt m 0 labels next
    → IsName labels × StandsAt m 0 (wire_of labels) × (next ≡ length (wire_of labels))
led_name m labels next n = subst Named (sym n.spelt) (
  record { each = l.labels.each; short = subst (λ x. length (wire_of x) ≤ 255) n.spelt n.short },
  stands_join m 0 (flat_map label_wire own) (0 ∷ []) l.labels.there (subst (λ p. StandsAt m p (0 ∷ [])) l.labels.place n.end),
  n.after ∙ ap (λ o. unwrap_or o (n.root + 1)) l.none ∙ (let place = l.labels.place in omega (arith, length-append (flat_map label_wire own) (0 ∷ []))),
)
  where
    own : List (List ℕ)
    own = labels_in n.fields

    l : Led m 0 n.fields n.start n.root
    l = led m 0 n.fields n.start n.root n.leads

    Named : List (List ℕ) → Type 0
    Named x = IsName x × StandsAt m 0 (wire_of x) × (next ≡ length (wire_of x))

led_reach : (m : List ℕ) (labels : List (List ℕ)) (start here : ℕ) → Reaches m 0 labels start here → LabelsStand m 0 labels here
led_reach m labels start here r = subst Stood (sym r.spelt) (
  record { each = l.labels.each; short = subst (λ x. length (wire_of x) ≤ 255) r.spelt r.short },
  l.labels.there,
  l.labels.place,
)
  where
    l : Led m 0 r.fields start here
    l = led m 0 r.fields start here r.leads

    Stood : List (List ℕ) → Type 0
    Stood x = LabelsStand m 0 x here

-- the place of a name in the bytes, and in those from its place on
here : (bytes : List ℕ) (from : ℕ) (part : List ℕ) → StandsAt (drop from bytes) 0 part → StandsAt bytes from part
here bytes from part h =
    let e : from + 0 ≡ from = omega arith in subst (λ n. StandsAt bytes n part) e (from_rest bytes from 0 part h)

there : (bytes : List ℕ) (from : ℕ) (part : List ℕ) → StandsAt bytes from part → StandsAt (drop from bytes) 0 part
there bytes from part h =
    let e : from ≡ from + 0 = omega arith in to_rest bytes from 0 part (subst (λ n. StandsAt bytes n part) e h)

stand_from : (bytes : List ℕ) (from : ℕ) (labels : List (List ℕ)) (place : ℕ)
    → LabelsStand (drop from bytes) 0 labels place → LabelsStand bytes from labels (from + place)
stand_from bytes from labels place (is, stand, e) = (is, here bytes from (flat_map label_wire labels) stand, omega arith)

bare_ok : (bytes : List ℕ) (from : ℕ) (labels : List (List ℕ)) (next : ℕ) → NameAt (drop from bytes) 0 labels next
    → BareName bytes from (Ok (labels, from + next))
bare_ok bytes from labels next n =
    let l = led_name (drop from bytes) labels next n in
    inl (labels, l.0, here bytes from (wire_of labels) l.1, ap (λ x. Ok (labels, from + x)) l.2)

cut_short : (bytes : List ℕ) (at byte : ℕ) → get_or bytes at 0 ≡ byte → byte ≤ 63 → cut_fault bytes at ≡ Short at
cut_short bytes at byte is small = grind (arith, nat_tests)

cut_bad : (bytes : List ℕ) (at byte : ℕ) → get_or bytes at 0 ≡ byte → 64 ≤ byte → cut_fault bytes at ≡ BadName at
cut_bad bytes at byte is great = grind (arith, nat_tests)

-- what breaks a name that is read from offset 0 of the bytes from its place on
bare_err : (bytes : List ℕ) (from : ℕ) (fault : WireFault) → NameBreaks (drop from bytes) 0 fault → BareName bytes from (Err (bare_fault bytes from fault))
bare_err bytes from (wire.Short at) (labels, start, far, cut) =
    inr (labels, from + at, stand_from bytes from labels at (led_reach (drop from bytes) labels start at far), by_cut cut)
  where
    by_cut : FieldIsCut (drop from bytes) at
        → (LabelIsCut bytes (from + at) × ◌≡◌ {A = Result (List (List ℕ) × ℕ) RdataFault} (Err (cut_fault bytes (from + at))) (Err (Short (from + at))))
        ⊎ (LabelIsBad bytes labels (from + at)
        × ◌≡◌ {A = Result (List (List ℕ) × ℕ) RdataFault} (Err (cut_fault bytes (from + at)))
        (Err (BadName (from + at))))
    by_cut (inl none) =
        let size = length-drop from bytes in
        let end : length bytes ≤ from + at = omega arith in
        inl (inl end, ap Err (cut_short bytes (from + at) 0 (get_or_past bytes (from + at) 0 end) (omega arith)))
    by_cut (inr (inl (size, byte, some, most, short))) =
        let whole = from_rest bytes from at (size ∷ []) byte in
        let s = stands bytes (from + at) size [] whole in
        let rest = length-drop from bytes in
        inl (inr (size, whole, most, omega arith), ap Err (cut_short bytes (from + at) size s.is most))
    by_cut (inr (inr (high, byte, most, short))) =
        let whole = from_rest bytes from at (high ∷ []) byte in
        let s = stands bytes (from + at) high [] whole in
        inr (inl (high, whole, omega arith), ap Err (cut_bad bytes (from + at) high s.is (omega arith)))
bare_err bytes from (wire.BadLabelType at) (labels, start, far, (byte, stand, some, most)) =
    inr (
      labels,
      from + at,
      stand_from bytes from labels at (led_reach (drop from bytes) labels start at far),
      inr (inl (byte, from_rest bytes from at (byte ∷ []) stand, some), refl),
    )
bare_err bytes from (wire.ForwardPointer at) (labels, start, far, (offset, (high, low, stand, some, is), forward)) =
    let parts = stands_split (drop from bytes) at (high ∷ []) (low ∷ []) (omega arith) stand in
    inr (
      labels,
      from + at,
      stand_from bytes from labels at (led_reach (drop from bytes) labels start at far),
      inr (inl (high, from_rest bytes from at (high ∷ []) parts.0, omega arith), refl),
    )
bare_err bytes from (wire.NameTooLong at) (labels, start, far, (label, (stand, is), long)) =
    inr (
      labels,
      from + at,
      stand_from bytes from labels at (led_reach (drop from bytes) labels start at far),
      inr (inr (label, (from_rest bytes from at (label_wire label) stand, is), long), refl),
    )

-- the place of what breaks a name lies in the bytes, or is their end
reach_inside : (m : List ℕ) (labels : List (List ℕ)) (start at : ℕ) → Reaches m 0 labels start at → at ≤ length m
reach_inside m labels start at r = by_some (led_reach m labels start at r) (by_size (length (flat_map label_wire labels)) 0)
  where
    by_some : LabelsStand m 0 labels at → (length (flat_map label_wire labels) ≤ 0) ⊎ (0 < length (flat_map label_wire labels)) → at ≤ length m
    by_some (is, stand, place) (inl none) = omega arith
    by_some (is, stand, place) (inr some) = let inside = stands_inside m 0 (flat_map label_wire labels) some stand in omega arith

breaks_inside : (m : List ℕ) (fault : WireFault) → NameBreaks m 0 fault → place_of fault ≤ length m
breaks_inside m (wire.Short at) (labels, start, far, why) = reach_inside m labels start at far
breaks_inside m (wire.BadLabelType at) (labels, start, far, why) = reach_inside m labels start at far
breaks_inside m (wire.ForwardPointer at) (labels, start, far, why) = reach_inside m labels start at far
breaks_inside m (wire.NameTooLong at) (labels, start, far, why) = reach_inside m labels start at far

-- the same of bytes that are those from a place on
pub name_of_rest : (bytes : List ℕ) (from : ℕ) (rest : List ℕ) (labels : List (List ℕ)) (next : ℕ)
    → rest ≡ drop from bytes → NameAt rest 0 labels next → BareName bytes from (Ok (labels, from + next))
name_of_rest bytes from rest labels next is n = bare_ok bytes from labels next (subst (λ l. NameAt l 0 labels next) is n)

pub fault_of_rest : (bytes : List ℕ) (from : ℕ) (rest : List ℕ) (fault : WireFault) (told : RdataFault)
    → rest ≡ drop from bytes → NameBreaks rest 0 fault → told ≡ bare_fault bytes from fault
    → BareName bytes from (Err told)
fault_of_rest bytes from rest fault told is h e =
    subst (λ f. BareName bytes from (Err f)) (sym e) (bare_err bytes from fault (subst (λ l. NameBreaks l 0 fault) is h))

pub place_of_rest : (bytes : List ℕ) (from : ℕ) (rest : List ℕ) (fault : WireFault) → from ≤ length bytes
    → rest ≡ drop from bytes → NameBreaks rest 0 fault → from + place_of fault ≤ length bytes
place_of_rest bytes from rest fault low is h =
    let inside = breaks_inside (drop from bytes) fault (subst (λ l. NameBreaks l 0 fault) is h) in
    omega (arith, length-drop from bytes)

-- what is read in the bytes from a place on
abbrev IsRead : List ℕ → ℕ → Result (List (List ℕ) × ℕ) RdataFault → Type 0
IsRead bytes from r =
    ((labels : List (List ℕ)) × (next : ℕ) × NameAt (drop from bytes) 0 labels next × (r ≡ Ok (labels, from + next)))
    ⊎ ((fault : WireFault) × NameBreaks (drop from bytes) 0 fault × (r ≡ Err (bare_fault bytes from fault)))

reached : (m : List ℕ) (labels : List (List ℕ)) (at : ℕ) → LabelsStand m 0 labels at → Reaches m 0 labels 0 at
reached m labels at (is, stand, place) = record {
  fields = fields_of labels;
  leads = subst (λ n. Leads m 0 0 (fields_of labels) 0 n) (sym place) (leads m 0 0 labels is.each stand);
  spelt = sym (labels_in-fields labels);
  short = is.short;
}

stand_rest : (bytes : List ℕ) (from : ℕ) (labels : List (List ℕ)) (place : ℕ) → LabelsStand bytes from labels place
    → LabelsStand (drop from bytes) 0 labels (place - from)
stand_rest bytes from labels place (is, stand, e) = (is, there bytes from (flat_map label_wire labels) stand, omega arith)

-- why there is no name
abbrev Why : List ℕ → List (List ℕ) → Result (List (List ℕ) × ℕ) RdataFault → ℕ → Type 0
Why bytes labels r place =
    (LabelIsCut bytes place × (r ≡ Err (Short place))) ⊎ (LabelIsBad bytes labels place × (r ≡ Err (BadName place)))

read_fault : (bytes : List ℕ) (from : ℕ) (labels : List (List ℕ)) (at : ℕ) (r : Result (List (List ℕ) × ℕ) RdataFault)
    → Reaches (drop from bytes) 0 labels 0 at → Why bytes labels r (from + at) → IsRead bytes from r
read_fault bytes from labels at r far (inl (inl end, e)) =
    let size = length-drop from bytes in
    inr (
      wire.Short at,
      (labels, 0, far, inl (omega arith)),
      e
          ∙ ap Err (sym (cut_short bytes (from + at) 0 (get_or_past bytes (from + at) 0 end) (omega arith))),
    )
read_fault bytes from labels at r far (inl (inr (size, byte, most, short), e)) =
    let s = stands bytes (from + at) size [] byte in
    let inside = s.inside in
    let rest = length-drop from bytes in
    inr (
      wire.Short at,
      (
        labels,
        0,
        far,
        inr (inl (size, to_rest bytes from at (size ∷ []) byte, omega arith, most, omega arith)),
      ),
      e
          ∙ ap Err (sym (cut_short bytes (from + at) size s.is most)),
    )
read_fault bytes from labels at r far (inr (inl (byte, stand, some), e)) = by_byte (by_size 192 byte)
  where
    rest : List ℕ
    rest = drop from bytes

    first : StandsAt rest at (byte ∷ [])
    first = to_rest bytes from at (byte ∷ []) stand

    by_room : 192 ≤ byte → (at + 2 ≤ length rest) ⊎ (length rest < at + 2) → IsRead bytes from r
    by_room great (inl room) =
        let is = (stands rest at byte [] first).is in
        let pointer = pointer_there rest at (omega arith) (omega arith) in
        inr (wire.ForwardPointer at, (labels, 0, far, (_, pointer, omega arith)), e)
    by_room great (inr short) =
        let is = (stands bytes (from + at) byte [] stand).is in
        inr (wire.Short at, (labels, 0, far, inr (inr (byte, first, great, short))), e ∙ ap Err (sym (cut_bad bytes (from + at) byte is some)))

    by_byte : (192 ≤ byte) ⊎ (byte < 192) → IsRead bytes from r
    by_byte (inl great) = by_room great (by_size (at + 2) (length rest))
    by_byte (inr less) = inr (wire.BadLabelType at, (labels, 0, far, (byte, first, some, less)), e)
read_fault bytes from labels at r far (inr (inr (label, (stand, is), long), e)) =
    inr (wire.NameTooLong at, (labels, 0, far, (label, (to_rest bytes from at (label_wire label) stand, is), long)), e)

is_read : (bytes : List ℕ) (from : ℕ) (r : Result (List (List ℕ) × ℕ) RdataFault) → BareName bytes from r → IsRead bytes from r
is_read bytes from r (inl (labels, is, stand, e)) =
    let size : 0 + length (wire_of labels) ≡ length (wire_of labels) = omega arith in
    let name = name_stands (drop from bytes) 0 labels is (there bytes from (wire_of labels) stand) in
    inl (labels, length (wire_of labels), subst (λ n. NameAt (drop from bytes) 0 labels n) size name, e)
is_read bytes from r (inr (labels, place, stood, why)) =
    let e : place ≡ from + (place - from) = let is = stood.2 in omega arith in
    read_fault bytes from labels (place - from) r
    (reached (drop from bytes) labels (place - from) (stand_rest bytes from labels place stood))
    (subst (Why bytes labels r) e why)

pub IsSingle-bare_name : (bytes : List ℕ) (from : ℕ) → IsSingle (BareName bytes from)
IsSingle-bare_name bytes from = record { same = λ r s h k. same r s (is_read bytes from r h) (is_read bytes from s k) }
  where
    rest : List ℕ
    rest = drop from bytes

    same : (r s : Result (List (List ℕ) × ℕ) RdataFault) → IsRead bytes from r → IsRead bytes from s → r ≡ s
    same r s (inl (one, next, name, is)) (inl (two, next', name', is')) =
        let both = one_name rest 0 one two next next' name name' in
        is ∙ ap (λ (x : List (List ℕ)). Ok (x, from + next)) both.0 ∙ ap (λ (x : ℕ). Ok (two, from + x)) both.1 ∙ sym is'
    same r s (inl (one, next, name, is)) (inr (fault, breaks, is')) = absurd (not_both rest 0 one next fault name breaks)
    same r s (inr (fault, breaks, is)) (inl (one, next, name, is')) = absurd (not_both rest 0 one next fault name breaks)
    same r s (inr (fault, breaks, is)) (inr (fault', breaks', is')) =
        is ∙ ap (λ f. Err (bare_fault bytes from f)) (one_fault rest 0 fault fault' breaks breaks') ∙ sym is'

each_drop : (xs : List ℕ) (n : ℕ) → AllByRecursion IsByte xs → AllByRecursion IsByte (drop n xs)
each_drop xs zero all = all
each_drop [] (suc n) all = tt
each_drop (x ∷ xs) (suc n) all = each_drop xs n all.1

pub IsTotal-bare_name : (bytes : List ℕ) (from : ℕ) → AllByRecursion IsByte bytes → IsTotal (BareName bytes from)
IsTotal-bare_name bytes from all = by_found (name_or_fault (drop from bytes) 0 (each_drop bytes from all))
  where
    by_found : ((labels : List (List ℕ)) × (next : ℕ) × NameAt (drop from bytes) 0 labels next)
        ⊎ ((fault : WireFault) × NameBreaks (drop from bytes) 0 fault) → IsTotal (BareName bytes from)
    by_found (inl (labels, next, name)) = record { result = Ok (labels, from + next); comes = bare_ok bytes from labels next name }
    by_found (inr (fault, breaks)) = record { result = Err (bare_fault bytes from fault); comes = bare_err bytes from fault breaks }

pub bare_within : (bytes : List ℕ) (from : ℕ) (read : List (List ℕ) × ℕ) → BareName bytes from (Ok read) → read.1 ≤ length bytes
bare_within bytes from read (inl (labels, is, stand, e)) =
    let both : ◌≡◌ {A = List (List ℕ) × ℕ} read (labels, from + length (wire_of labels)) = cc in
    let next = ap (λ (x : List (List ℕ) × ℕ). x.1) both in
    let inside = stands_inside bytes from (wire_of labels) (omega (arith, length-append (flat_map label_wire labels) (0 ∷ []))) stand in
    omega arith
bare_within bytes from read (inr (labels, place, stood, inl (cut, e))) = absurd (cc)
bare_within bytes from read (inr (labels, place, stood, inr (bad, e))) = absurd (cc)
