-- Names whose first label run lies before a place.
use Rattle.std.proofs.Common.{◌≡◌, ◌⊎◌, ℕ, suc, ◌+◌, ◌-◌, ◌<◌, ◌≤◌, List, [], ◌∷◌, ◌++◌, length, take, drop, get_or}
use Rattle.std.proofs.Common.{Option, Some, None, Result, Ok, Err, unwrap_or, ◌↔◌, refl, sym, ◌∙◌, ap, subst, inl, inr}
use Rattle.std.proofs.Common.{arith, append_assoc, length-append}
use Rattle.std.proofs.lemmas.List.{length-take, append-nil, drop-take, take-take}
use Rattle.std.specs.Prelude.{IfOk}
use Rattle.std.specs.List.{flat_map}
use Rattle.dns_name.specs.Name.{label_wire, wire_of}
use Rattle.dns_name.specs.Wire.{StandsAt, RootAt, LabelAt, PointerAt, Field, Leads, labels_in, after_pointer, NameAt}
use Rattle.dns_name.specs.Wire.{Reaches, FieldIsCut, NameBreaks, RunIsCut, NameWithin, WithinBreaks, by_label, by_pointer}
use Rattle.dns_name.specs.Fields.{IsAnswer, IsWithin}
use Rattle.dns_name.specs.declared.wire_fault.WireFault.{WireFault}
use Rattle.dns_name.specs.declared.wire_fault.WireFault.TheVariants.{Short, ForwardPointer}
use Rattle.dns_name.specs.declared.wire_fault.WithinFault.{WithinFault}
use Rattle.dns_name.specs.declared.wire_fault.WithinFault.TheVariants.{Shape, Wire}
use Rattle.dns_name.proofs.WireLemmas.{IsStop, one_way, from_place}
use Rattle.dns_name.proofs.ReadLemmas.{stands, pointer_stands, verdict, Ends, root_ends, cut_ends, forward_ends}
use Rattle.dns_name.proofs.ReadLemmas.{one_fault, one_name, not_both, reaches-start, reaches-label}

-- a name ends after its place, in the message
abbrev IsAfter : List ℕ → ℕ → ℕ → Type 0
IsAfter message at next = (at < next) × (next ≤ length message)

ends-after : (message : List ℕ) (s a : ℕ) (fs : List Field) (t h : ℕ) → Leads message s a fs t h → RootAt message h
    → IsAfter message a (unwrap_or (after_pointer a fs) (h + 1))
ends-after message s a [] t h f root =
    let k = (stands message h 0 [] root).inside in let e = f.1 in (omega arith, omega arith)
ends-after message s a (by_label l ∷ fs) t h f root =
    let rest = ends-after message s (a + (length l + 1)) fs t h f.1 root in
    let low = rest.0 in
    (omega arith, rest.1)
ends-after message s a (by_pointer o ∷ fs) t h f root =
    let k = (pointer_stands message a o f.0).2.inside in (omega arith, omega arith)

pub name_after : (message : List ℕ) (at : ℕ) (labels : List (List ℕ)) (next : ℕ) → NameAt message at labels next → IsAfter message at next
name_after message at labels next n =
    subst (λ k. IsAfter message at k) (sym n.after) (ends-after message at at n.fields n.start n.root n.leads n.end)

-- the clauses of `read_at`
pub name_iff : (message : List ℕ) (at : ℕ) (r : Result (List (List ℕ) × ℕ) WireFault) → IsAnswer message at r
    → (labels : List (List ℕ)) (next : ℕ) → (r ≡ Ok (labels, next)) ↔ NameAt message at labels next
name_iff message at (Ok (own, end)) is labels next = (
  λ e. let both : ◌≡◌ {A = List (List ℕ) × ℕ} (own, end) (labels, next) = cc in
      let l = ap (λ (x : List (List ℕ) × ℕ). x.0) both in
      let n = ap (λ (x : List (List ℕ) × ℕ). x.1) both in
      subst (λ x. NameAt message at labels x) n (subst (λ x. NameAt message at x end) l is),
  λ h. let one = one_name message at own labels end next is h in
      let l = one.0 in
      let n = one.1 in
      ap (λ x. Ok (x, end)) l ∙ ap (λ x. Ok (labels, x)) n,
)
name_iff message at (Err fault) is labels next = (λ e. absurd (cc), λ h. absurd (not_both message at labels next fault h is))

pub fault_iff : (message : List ℕ) (at : ℕ) (r : Result (List (List ℕ) × ℕ) WireFault) → IsAnswer message at r
    → (fault : WireFault) → (r ≡ Err fault) ↔ NameBreaks message at fault
fault_iff message at (Ok (own, end)) is fault = (λ e. absurd (cc), λ h. absurd (not_both message at own end fault is h))
fault_iff message at (Err own) is fault = (
  λ e. let f : own ≡ fault = cc in subst (λ x. NameBreaks message at x) f is,
  λ h. ap Err (one_fault message at own fault is h),
)

pub answer_after : (message : List ℕ) (at : ℕ) (r : Result (List (List ℕ) × ℕ) WireFault) → IsAnswer message at r
    → IfOk r (λ read. (at < read.1) × (read.1 ≤ length message))
answer_after message at (Ok (own, end)) is = name_after message at own end is
answer_after message at (Err fault) is = tt

-- labels alone, with no pointer: as in a run that begins at 0, where no pointer may stand
pub record Run (message : List ℕ) (at : ℕ) (labels : List (List ℕ)) (here : ℕ) : Type 0 where
  pub fields : List Field
  pub leads : Leads message 0 at fields 0 here
  pub spelt : labels ≡ labels_in fields
  pub short : length (wire_of labels) ≤ 255

pub start_low : (message : List ℕ) (s a : ℕ) (fs : List Field) (t h : ℕ) → Leads message s a fs t h → t ≤ s
start_low message s a [] t h f = let e = f.0 in omega arith
start_low message s a (by_label l ∷ fs) t h f = start_low message s (a + (length l + 1)) fs t h f.1
start_low message s a (by_pointer o ∷ fs) t h f =
    let low = start_low message o o fs t h f.2 in let below = f.1 in omega arith

restart : (message : List ℕ) (s a : ℕ) (fs : List Field) (h : ℕ) → Leads message s a fs s h → Leads message 0 a fs 0 h
restart message s a [] h f = (refl, f.1)
restart message s a (by_label l ∷ fs) h f = (f.0, restart message s (a + (length l + 1)) fs h f.1)
restart message s a (by_pointer o ∷ fs) h f =
    let low = start_low message o o fs s h f.2 in let below = f.1 in absurd (omega arith)

pub run_of : (message : List ℕ) (at : ℕ) (labels : List (List ℕ)) (here : ℕ) → Reaches message at labels at here → Run message at labels here
run_of message at labels here r = record {
  fields = r.fields;
  leads = restart message at at r.fields here r.leads;
  spelt = r.spelt;
  short = r.short;
}

-- two runs that stop at one place are one
same_here : (message : List ℕ) (at : ℕ) (one two : List (List ℕ)) (h k : ℕ) (why why' : Option WireFault)
    → Run message at one h → Run message at two k → Ends message one 0 h why → Ends message two 0 k why'
    → (h ≡ k) × (why ≡ why')
same_here message at one two h k why why' r q e f =
    let P : List (List ℕ) → Type 0 = λ l. length (wire_of l) ≤ 255 in
    let Q : List (List ℕ) → Type 0 = λ l. IsStop message l 0 h in
    let R : List (List ℕ) → Type 0 = λ l. IsStop message l 0 k in
    let way = one_way message 0 at [] r.fields q.fields 0 h 0 k r.leads q.leads (subst P r.spelt r.short)
    (subst P q.spelt q.short) (subst Q r.spelt e.stop) (subst R q.spelt f.stop) in
    (way.2, sym e.told ∙ ap (λ x. verdict x (get_or message x 0) (length message)) way.2 ∙ f.told)

-- a run that stops for another reason is not cut
pub not_cut : (message : List ℕ) (at : ℕ) (labels : List (List ℕ)) (here : ℕ) (why : Option WireFault)
    → Run message at labels here → Ends message labels 0 here why → ((place : ℕ) → why ≡ Some (Short place) → ⊥)
    → (place : ℕ) → ¬ RunIsCut message at place
not_cut message at labels here why r e other place (own, far, cut) =
    other place (same_here message at labels own here place why (Some (Short place)) r (run_of message at own place far) e (cut_ends message own 0 place cut)).1

pub one_cut : (message : List ℕ) (at place place' : ℕ) → RunIsCut message at place → RunIsCut message at place' → place ≡ place'
one_cut message at place place' (one, far, cut) (two, far', cut') =
    (same_here message at one two place place' (Some (Short place)) (Some (Short place'))
    (run_of message at one place far) (run_of message at two place' far') (cut_ends message one 0 place cut)
    (cut_ends message two 0 place' cut')).0

-- what stands in the front of a message, and what stands in a message before a place
front_drop : (message : List ℕ) (to at : ℕ) → at ≤ to → drop at (take to message) ≡ take (to - at) (drop at message)
front_drop message to at low =
    let e : to ≡ at + (to - at) = omega arith in
    ap (λ n. drop at (take n message)) e ∙ drop-take at (to - at) message

pub stands_front : (message : List ℕ) (to at : ℕ) (bytes : List ℕ) → at + length bytes ≤ to → StandsAt message at bytes → StandsAt (take to message) at bytes
stands_front message to at bytes room h =
    ap (take (length bytes)) (front_drop message to at (omega arith)) ∙ take-take (length bytes) (to - at) (drop at message) (omega arith) ∙ h

pub label_front : (message : List ℕ) (to at : ℕ) (label : List ℕ) → at + (length label + 1) ≤ to → LabelAt message at label → LabelAt (take to message) at label
label_front message to at label room h = (stands_front message to at (label_wire label) (omega arith) h.0, h.1)

pub pointer_front : (message : List ℕ) (to at offset : ℕ) → at + 2 ≤ to → PointerAt message at offset → PointerAt (take to message) at offset
pointer_front message to at offset room (high, low, h, some, is) = (high, low, stands_front message to at (high ∷ low ∷ []) room h, some, is)

-- the first run of a name that ends before a place, in the bytes before that place
record FirstRun (message : List ℕ) (to a : ℕ) (fs : List Field) : Type 0 where
  pub fields : List Field
  pub here : ℕ
  pub rest : List (List ℕ)
  pub leads : Leads (take to message) 0 a fields 0 here
  pub spelt : labels_in fs ≡ labels_in fields ++ rest
  pub end : RootAt (take to message) here ⊎ ((offset : ℕ) × PointerAt (take to message) here offset)

first_run : (message : List ℕ) (to s a : ℕ) (fs : List Field) (t h : ℕ) → Leads message s a fs t h → RootAt message h
    → unwrap_or (after_pointer a fs) (h + 1) ≤ to → FirstRun message to a fs
first_run message to s a [] t h f root low = record {
  fields = [];
  here = h;
  rest = [];
  leads = (refl, f.1);
  spelt = refl;
  end = inl (stands_front message to h (0 ∷ []) low root);
}
first_run message to s a (by_label l ∷ fs) t h f root low =
    let below = (ends-after message s (a + (length l + 1)) fs t h f.1 root).0 in
    let r = first_run message to s (a + (length l + 1)) fs t h f.1 root low in
    record {
      fields = by_label l ∷ r.fields;
      here = r.here;
      rest = r.rest;
      leads = (label_front message to a l (omega arith) f.0, r.leads);
      spelt = ap (λ x. l ∷ x) r.spelt;
      end = r.end;
    }
first_run message to s a (by_pointer o ∷ fs) t h f root low = record {
  fields = [];
  here = a;
  rest = labels_in fs;
  leads = (refl, refl);
  spelt = refl;
  end = inr (o, pointer_front message to a o low f.0);
}

front_short : (front back : List (List ℕ)) → length (wire_of (front ++ back)) ≤ 255 → length (wire_of front) ≤ 255
front_short front [] fits = subst (λ l. length (wire_of l) ≤ 255) (append-nil front) fits
front_short [] (x ∷ back) fits = omega arith
front_short (y ∷ front) (x ∷ back) fits = let longer = longer_first (y ∷ front) (x ∷ back) in omega arith
  where
    longer_first : (front back : List (List ℕ)) → length (wire_of front) ≤ length (wire_of (front ++ back))
    longer_first [] back = omega (arith, length-append (flat_map label_wire back) (0 ∷ []))
    longer_first (y ∷ front) back =
        let rest = longer_first front back in
        let a = length-append (label_wire y ++ flat_map label_wire front) (0 ∷ []) in
        let b = length-append (label_wire y ++ flat_map label_wire (front ++ back)) (0 ∷ []) in
        let c = length-append (label_wire y) (flat_map label_wire front) in
        let d = length-append (label_wire y) (flat_map label_wire (front ++ back)) in
        let e = length-append (flat_map label_wire front) (0 ∷ []) in
        let f = length-append (flat_map label_wire (front ++ back)) (0 ∷ []) in
        omega arith

-- a name that ends before a place has no first run that is cut there
pub within_not_cut : (message : List ℕ) (at to : ℕ) (labels : List (List ℕ)) (next : ℕ)
    → NameWithin message at to labels next → (place : ℕ) → ¬ RunIsCut (take to message) at place
within_not_cut message at to labels next (n, low) = by_end (first_run message to at at n.fields n.start n.root n.leads n.end (subst (λ k. k ≤ to) n.after low))
  where
    run : (r : FirstRun message to at n.fields) → Run (take to message) at (labels_in r.fields) r.here
    run r = record {
      fields = r.fields;
      leads = r.leads;
      spelt = refl;
      short = front_short (labels_in r.fields) r.rest (subst (λ l. length (wire_of l) ≤ 255) (n.spelt ∙ r.spelt) n.short);
    }

    by_end : FirstRun message to at n.fields → (place : ℕ) → ¬ RunIsCut (take to message) at place
    by_end r = elim r.end [
      | inl root ↦ not_cut (take to message) at (labels_in r.fields) r.here None (run r)
          (root_ends (take to message) (labels_in r.fields) 0 r.here root) (λ place e. absurd (cc))
      | inr (offset, pointer) ↦
          not_cut (take to message) at (labels_in r.fields) r.here (Some (ForwardPointer r.here)) (run r)
          (forward_ends (take to message) (labels_in r.fields) 0 r.here offset pointer (omega arith))
          (λ place e. absurd (cc))
    ]

-- a name ends before a place, or its first run is cut there
abbrev BeforeOrCut : List ℕ → ℕ → ℕ → ℕ → Type 0
BeforeOrCut message at to next = (next ≤ to) ⊎ ((place : ℕ) × RunIsCut (take to message) at place)

by_size : (n m : ℕ) → (n ≤ m) ⊎ (m < n)
by_size n m = grind arith

front_size : (message : List ℕ) (to : ℕ) → to ≤ length message → length (take to message) ≡ to
front_size message to fits = omega (arith, length-take to message)

-- a field that does not lie before the place is cut in the bytes before it
field_cut : (message : List ℕ) (to a first : ℕ) (bytes : List ℕ) → to ≤ length message
    → StandsAt message a (first ∷ bytes) → to < a + suc (length bytes)
    → (length bytes ≡ first) × (0 < first) × (first ≤ 63) ⊎ (length bytes ≡ 1) × (192 ≤ first)
    → FieldIsCut (take to message) a
field_cut message to a first bytes fits h short kind = by_place (by_size to a)
  where
    one : a < to → StandsAt (take to message) a (first ∷ [])
    one inside =
        let room = (stands message a first bytes h).inside in
        let is = (stands message a first bytes h).is in
        stands_front message to a (first ∷ []) (omega arith) (ap (take 1) (from_place message a (omega arith)) ∙ ap (λ b. b ∷ []) is)

    by_kind : a < to → (length bytes ≡ first) × (0 < first) × (first ≤ 63) ⊎ (length bytes ≡ 1) × (192 ≤ first) → FieldIsCut (take to message) a
    by_kind inside (inl (size, some, most)) = inr (inl (first, one inside, some, most, let e = front_size message to fits in omega arith))
    by_kind inside (inr (size, some)) = inr (inr (first, one inside, some, let e = front_size message to fits in omega arith))

    by_place : (to ≤ a) ⊎ (a < to) → FieldIsCut (take to message) a
    by_place (inl none) = inl (let e = front_size message to fits in omega arith)
    by_place (inr inside) = by_kind inside kind

before_or_cut : (message : List ℕ) (at to : ℕ) → to ≤ length message
    → (s a : ℕ) (fs : List Field) (t h : ℕ) (front : List (List ℕ)) → Leads message s a fs t h → RootAt message h
    → Reaches (take to message) at front at a → length (wire_of (front ++ labels_in fs)) ≤ 255
    → BeforeOrCut message at to (unwrap_or (after_pointer a fs) (h + 1))
before_or_cut message at to fits s a [] t h front f root r short = next (by_size (h + 1) to)
  where
    next : (h + 1 ≤ to) ⊎ (to < h + 1) → BeforeOrCut message at to (h + 1)
    next (inl low) = inl low
    next (inr high) = inr (a, (front, r, inl (let e = front_size message to fits in let g = f.1 in omega arith)))
before_or_cut message at to fits s a (by_label l ∷ fs) t h front f root r short =
    next (λ low. before_or_cut message at to fits s (a + (length l + 1)) fs t h (front ++ l ∷ []) f.1 root
    (reaches-label (take to message) at front at a l r (label_front message to a l low f.0)
    (front_short (front ++ l ∷ []) (labels_in fs)
    (subst (λ x. length (wire_of x) ≤ 255) (sym (append_assoc front (l ∷ []) (labels_in fs))) short)))
    (subst (λ x. length (wire_of x) ≤ 255) (sym (append_assoc front (l ∷ []) (labels_in fs))) short))
    (by_size (a + (length l + 1)) to)
  where
    next : (a + (length l + 1) ≤ to → BeforeOrCut message at to (unwrap_or (after_pointer (a + (length l + 1)) fs) (h + 1)))
        → (a + (length l + 1) ≤ to) ⊎ (to < a + (length l + 1))
        → BeforeOrCut message at to (unwrap_or (after_pointer (a + (length l + 1)) fs) (h + 1))
    next again (inl low) = again low
    next again (inr high) = inr (a, (front, r, field_cut message to a (length l) l fits f.0.0 (omega arith) (inl (refl, f.0.1.some, f.0.1.most))))
before_or_cut message at to fits s a (by_pointer o ∷ fs) t h front f root r short = next (by_size (a + 2) to) f.0
  where
    next : (a + 2 ≤ to) ⊎ (to < a + 2) → PointerAt message a o → BeforeOrCut message at to (a + 2)
    next (inl low) p = inl low
    next (inr high) (first, low, there, some, is) = inr (a, (front, r, field_cut message to a first (low ∷ []) fits there high (inr (refl, some))))

-- a name whose first run is not cut ends before the place
pub before_place : (message : List ℕ) (at to : ℕ) (labels : List (List ℕ)) (next : ℕ) → to ≤ length message
    → ((place : ℕ) → ¬ RunIsCut (take to message) at place) → NameAt message at labels next → next ≤ to
before_place message at to labels next fits whole n =
    elim (before_or_cut message at to fits at at n.fields n.start n.root [] n.leads n.end
    (reaches-start (take to message) at) (subst (λ l. length (wire_of l) ≤ 255) n.spelt n.short)) [
      | inl low ↦ subst (λ k. k ≤ to) (sym n.after) low
      | inr (place, cut) ↦ absurd (whole place cut)
    ]

pub one_within : (message : List ℕ) (at to : ℕ) (one other : WithinFault) → WithinBreaks message at to one → WithinBreaks message at to other → one ≡ other
one_within message at to (Shape place) (Shape place') h k = ap Shape (one_cut (take to message) at place place' h k)
one_within message at to (Shape place) (Wire fault) h k = absurd (k.1 place h)
one_within message at to (Wire fault) (Shape place) h k = absurd (h.1 place k)
one_within message at to (Wire fault) (Wire fault') h k = ap Wire (one_fault message at fault fault' h.0 k.0)

pub not_both_within : (message : List ℕ) (at to : ℕ) (labels : List (List ℕ)) (next : ℕ) (fault : WithinFault)
    → NameWithin message at to labels next → ¬ WithinBreaks message at to fault
not_both_within message at to labels next (Shape place) h k = within_not_cut message at to labels next h place k
not_both_within message at to labels next (Wire fault) h k = not_both message at labels next fault h.0 k.0

-- the clauses of `read_within`
pub within_name_iff : (message : List ℕ) (at to : ℕ) (r : Result (List (List ℕ) × ℕ) WithinFault)
    → IsWithin message at to r → (labels : List (List ℕ)) (next : ℕ)
    → (r ≡ Ok (labels, next)) ↔ NameWithin message at to labels next
within_name_iff message at to (Ok (own, end)) is labels next = (
  λ e. let both : ◌≡◌ {A = List (List ℕ) × ℕ} (own, end) (labels, next) = cc in
      let l = ap (λ (x : List (List ℕ) × ℕ). x.0) both in
      let n = ap (λ (x : List (List ℕ) × ℕ). x.1) both in
      subst (λ x. NameWithin message at to labels x) n (subst (λ x. NameWithin message at to x end) l is),
  λ h. let one = one_name message at own labels end next is.0 h.0 in
      let l = one.0 in
      let n = one.1 in
      ap (λ x. Ok (x, end)) l ∙ ap (λ x. Ok (labels, x)) n,
)
within_name_iff message at to (Err fault) is labels next = (λ e. absurd (cc), λ h. absurd (not_both_within message at to labels next fault h is))

pub within_fault_iff : (message : List ℕ) (at to : ℕ) (r : Result (List (List ℕ) × ℕ) WithinFault)
    → IsWithin message at to r → (fault : WithinFault) → (r ≡ Err fault) ↔ WithinBreaks message at to fault
within_fault_iff message at to (Ok (own, end)) is fault = (λ e. absurd (cc), λ h. absurd (not_both_within message at to own end fault is h))
within_fault_iff message at to (Err own) is fault = (
  λ e. let f : own ≡ fault = cc in subst (λ x. WithinBreaks message at to x) f is,
  λ h. ap Err (one_within message at to own fault is h),
)

pub within_after : (message : List ℕ) (at to : ℕ) (r : Result (List (List ℕ) × ℕ) WithinFault)
    → IsWithin message at to r → IfOk r (λ read. (at < read.1) × (read.1 ≤ to))
within_after message at to (Ok (own, end)) is = ((name_after message at own end is.0).0, is.1)
within_after message at to (Err fault) is = tt
