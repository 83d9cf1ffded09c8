-- Names in messages: where their reading stops, step by step, and that there is exactly one answer.
use Rattle.std.proofs.Common.{◌≡◌, ℕ, suc, ◌+◌, ◌<◌, ◌≤◌, List, [], ◌∷◌, ◌++◌, length, take, drop, get_or, Option, Some}
use Rattle.std.proofs.Common.{None, unwrap_or, cond, nat_lt, nat_le, ◌==◌, refl, sym, ◌∙◌, ap, subst, inl, inr, arith}
use Rattle.std.proofs.Common.{length-drop}
use Rattle.std.proofs.lemmas.List.{length-take}
use Rattle.std.proofs.lemmas.Bool.Decides.{nat_tests}
use Rattle.dns_name.specs.Name.{wire_of}
use Rattle.dns_name.specs.Wire.{StandsAt, RootAt, LabelAt, PointerAt, Field, Leads, labels_in, after_pointer, NameAt}
use Rattle.dns_name.specs.Wire.{Reaches, FieldIsCut, IsBadType, NameBreaks, by_label, by_pointer}
use Rattle.dns_name.specs.declared.wire_fault.WireFault.{WireFault}
use Rattle.dns_name.specs.declared.wire_fault.WireFault.TheVariants.{Short, BadLabelType, ForwardPointer, NameTooLong}
use Rattle.dns_name.proofs.WireLemmas.{from_place, one_label, one_pointer, label_no_pointer, one_first, IsStop, one_way}

-- what stands at a place: its first byte is the byte there, and it lies in the message
pub record Stands (message : List ℕ) (at first size : ℕ) : Type 0 where
  pub inside : at + size ≤ length message
  pub is : get_or message at 0 ≡ first

pub stands : (message : List ℕ) (at x : ℕ) (xs : List ℕ) → StandsAt message at (x ∷ xs) → Stands message at x (suc (length xs))
stands message at x xs h =
    let size : length (take (suc (length xs)) (drop at message)) ≡ suc (length xs) = ap length h in
    let room : at + suc (length xs) ≤ length message = omega (arith, length-take (suc (length xs)) (drop at message), length-drop at message) in
    let here : take (suc (length (drop (at + 1) message))) (drop at message) ≡ get_or message at 0 ∷ drop (at + 1) message =
    all_of (drop at message) (get_or message at 0) (drop (at + 1) message) (from_place message at (omega arith)) in
    record { inside = room; is = one_first (drop at message) (get_or message at 0) x (drop (at + 1) message) xs here h }
  where
    all : (ys : List ℕ) → take (length ys) ys ≡ ys
    all [] = refl
    all (y ∷ ys) = ap (λ l. y ∷ l) (all ys)

    all_of : (bytes : List ℕ) (y : ℕ) (ys : List ℕ) → bytes ≡ y ∷ ys → take (suc (length ys)) bytes ≡ y ∷ ys
    all_of bytes y ys e = ap (take (suc (length ys))) e ∙ ap (λ l. y ∷ l) (all ys)

-- what the byte at a place and the room after it decide
pub verdict : ℕ → ℕ → ℕ → Option WireFault
verdict at byte size =
    cond (nat_le size at) (Some (Short at))
    (cond (byte == 0) None
    (cond (nat_lt byte 64) (cond (nat_lt (at + byte) size) (Some (NameTooLong at)) (Some (Short at)))
    (cond (nat_lt byte 192) (Some (BadLabelType at))
    (cond (nat_lt (at + 1) size) (Some (ForwardPointer at)) (Some (Short at))))))

verdict-root : (at byte size : ℕ) → at + 1 ≤ size → byte ≡ 0 → verdict at byte size ≡ None
unfolding verdict
verdict-root at byte size room is = grind (arith, nat_tests)

verdict-nothing : (at byte size : ℕ) → size ≤ at → verdict at byte size ≡ Some (Short at)
unfolding verdict
verdict-nothing at byte size room = grind (arith, nat_tests)

verdict-label_cut : (at byte size n : ℕ) → at + 1 ≤ size → byte ≡ n → 0 < n → n ≤ 63 → size < at + (n + 1) → verdict at byte size ≡ Some (Short at)
unfolding verdict
verdict-label_cut at byte size n room is some most short = grind (arith, nat_tests)

verdict-pointer_cut : (at byte size n : ℕ) → at + 1 ≤ size → byte ≡ n → 192 ≤ n → size < at + 2 → verdict at byte size ≡ Some (Short at)
unfolding verdict
verdict-pointer_cut at byte size n room is some short = grind (arith, nat_tests)

verdict-bad : (at byte size n : ℕ) → at + 1 ≤ size → byte ≡ n → 64 ≤ n → n < 192 → verdict at byte size ≡ Some (BadLabelType at)
unfolding verdict
verdict-bad at byte size n room is some most = grind (arith, nat_tests)

verdict-forward : (at byte size n : ℕ) → at + 2 ≤ size → byte ≡ n → 192 ≤ n → verdict at byte size ≡ Some (ForwardPointer at)
unfolding verdict
verdict-forward at byte size n room is some = grind (arith, nat_tests)

verdict-long : (at byte size n : ℕ) → at + (n + 1) ≤ size → byte ≡ n → 0 < n → n ≤ 63 → verdict at byte size ≡ Some (NameTooLong at)
unfolding verdict
verdict-long at byte size n room is some most = grind (arith, nat_tests)

-- the reading of a name stops at a place, and the byte there tells why
pub record Ends (message : List ℕ) (labels : List (List ℕ)) (start here : ℕ) (why : Option WireFault) : Type 0 where
  pub stop : IsStop message labels start here
  pub told : verdict here (get_or message here 0) (length message) ≡ why

-- what a label and a pointer tell of the byte there
pub label_stands : (message : List ℕ) (at : ℕ) (label : List ℕ) → LabelAt message at label → Stands message at (length label) (suc (length label))
label_stands message at label h = stands message at (length label) label h.0

pub pointer_stands : (message : List ℕ) (at offset : ℕ) → PointerAt message at offset → (high : ℕ) × (192 ≤ high) × Stands message at high 2
pointer_stands message at offset (high, low, h, m, is) = (high, m, stands message at high (low ∷ []) h)

-- a byte that begins neither a label that lies in the message nor a pointer stops it
stop_by : (message : List ℕ) (labels : List (List ℕ)) (start here : ℕ)
    → ((n : ℕ) → Stands message here n (suc n) → 0 < n → n ≤ 63 → ⊥)
    → ((high : ℕ) → Stands message here high 2 → 192 ≤ high → ⊥) → IsStop message labels start here
stop_by message labels start here no_label no_pointer = record {
  label = λ l h fits. no_label (length l) (label_stands message here l h) h.1.some h.1.most;
  pointer = λ o h below. let p = pointer_stands message here o h in no_pointer p.0 p.2 p.1;
}

pub root_ends : (message : List ℕ) (labels : List (List ℕ)) (start here : ℕ) → RootAt message here → Ends message labels start here None
root_ends message labels start here h =
    let s = stands message here 0 [] h in
    let is = s.is in
    let inside = s.inside in
    record {
      stop = stop_by message labels start here (λ n k some most. let e = k.is in absurd (omega arith)) (λ n k some. let e = k.is in absurd (omega arith));
      told = verdict-root here (get_or message here 0) (length message) (omega arith) is;
    }

pub cut_ends : (message : List ℕ) (labels : List (List ℕ)) (start here : ℕ) → FieldIsCut message here → Ends message labels start here (Some (Short here))
cut_ends message labels start here (inl none) = record {
  stop = stop_by message labels start here (λ n k some most. let e = k.inside in absurd (omega arith)) (λ n k some. let e = k.inside in absurd (omega arith));
  told = verdict-nothing here (get_or message here 0) (length message) none;
}
cut_ends message labels start here (inr (inl (size, h, some, most, short))) =
    let s = stands message here size [] h in
    let is = s.is in
    let inside = s.inside in
    record {
      stop = stop_by message labels start here (λ n k p q. let e = k.inside in let f = k.is in absurd (omega arith))
          (λ n k p. let f = k.is in absurd (omega arith));
      told = verdict-label_cut here (get_or message here 0) (length message) size (omega arith) is some most short;
    }
cut_ends message labels start here (inr (inr (high, h, some, short))) =
    let s = stands message here high [] h in
    let is = s.is in
    let inside = s.inside in
    record {
      stop = stop_by message labels start here (λ n k p q. let f = k.is in absurd (omega arith)) (λ n k p. let e = k.inside in absurd (omega arith));
      told = verdict-pointer_cut here (get_or message here 0) (length message) high (omega arith) is some short;
    }

pub bad_ends : (message : List ℕ) (labels : List (List ℕ)) (start here : ℕ) → IsBadType message here → Ends message labels start here (Some (BadLabelType here))
bad_ends message labels start here (byte, h, some, most) =
    let s = stands message here byte [] h in
    let is = s.is in
    let inside = s.inside in
    record {
      stop = stop_by message labels start here (λ n k p q. let f = k.is in absurd (omega arith)) (λ n k p. let f = k.is in absurd (omega arith));
      told = verdict-bad here (get_or message here 0) (length message) byte (omega arith) is some most;
    }

pub forward_ends : (message : List ℕ) (labels : List (List ℕ)) (start here offset : ℕ) → PointerAt message here offset
    → start ≤ offset → Ends message labels start here (Some (ForwardPointer here))
forward_ends message labels start here offset h forward =
    let p = pointer_stands message here offset h in
    let some = p.1 in
    let is = p.2.is in
    let inside = p.2.inside in
    record {
      stop = record {
        label = λ l k fits. label_no_pointer message here l offset k h;
        pointer = λ o k below. let e = one_pointer message here offset o h k in absurd (omega arith);
      };
      told = verdict-forward here (get_or message here 0) (length message) p.0 (omega arith) is some;
    }

pub long_ends : (message : List ℕ) (labels : List (List ℕ)) (start here : ℕ) (label : List ℕ)
    → LabelAt message here label → 255 < length (wire_of (labels ++ label ∷ []))
    → Ends message labels start here (Some (NameTooLong here))
long_ends message labels start here label h long =
    let s = label_stands message here label h in
    let is = s.is in
    let inside = s.inside in
    let some = h.1.some in
    let most = h.1.most in
    record {
      stop = record {
        label = λ l k fits. same l (one_label message here l label k h) fits;
        pointer = λ o k below. label_no_pointer message here label o h k;
      };
      told = verdict-long here (get_or message here 0) (length message) (length label) (omega arith) is some most;
    }
  where
    same : (l : List ℕ) → l ≡ label → length (wire_of (labels ++ l ∷ [])) ≤ 255 → ⊥
    same l e fits = let f = ap (λ x. length (wire_of (labels ++ x ∷ []))) e in absurd (omega arith)

-- a whole reading: as far as it goes, and why it stops
pub record Reading (message : List ℕ) (at : ℕ) (why : Option WireFault) : Type 0 where
  pub labels : List (List ℕ)
  pub start : ℕ
  pub here : ℕ
  pub far : Reaches message at labels start here
  pub ends : Ends message labels start here why

pub of_name : (message : List ℕ) (at : ℕ) (labels : List (List ℕ)) (next : ℕ) → NameAt message at labels next → Reading message at None
of_name message at labels next n = record {
  labels = labels;
  start = n.start;
  here = n.root;
  far = record { fields = n.fields; leads = n.leads; spelt = n.spelt; short = n.short };
  ends = root_ends message labels n.start n.root n.end;
}

pub of_fault : (message : List ℕ) (at : ℕ) (fault : WireFault) → NameBreaks message at fault → Reading message at (Some fault)
of_fault message at (Short place) (labels, start, far, cut) =
    record { labels = labels; start = start; here = place; far = far; ends = cut_ends message labels start place cut }
of_fault message at (BadLabelType place) (labels, start, far, bad) =
    record { labels = labels; start = start; here = place; far = far; ends = bad_ends message labels start place bad }
of_fault message at (ForwardPointer place) (labels, start, far, (offset, pointer, forward)) = record {
  labels = labels;
  start = start;
  here = place;
  far = far;
  ends = forward_ends message labels start place offset pointer forward;
}
of_fault message at (NameTooLong place) (labels, start, far, (label, there, long)) = record {
  labels = labels;
  start = start;
  here = place;
  far = far;
  ends = long_ends message labels start place label there long;
}

-- two readings of one place are one
pub record SameReading {message : List ℕ} {at : ℕ} {why why' : Option WireFault} (one : Reading message at why) (two : Reading message at why') : Type 0 where
  pub fields : one.far.fields ≡ two.far.fields
  pub start : one.start ≡ two.start
  pub here : one.here ≡ two.here

pub same_reading : (message : List ℕ) (at : ℕ) (why why' : Option WireFault) (one : Reading message at why) (two : Reading message at why')
    → SameReading one two
same_reading message at why why' one two =
    let P : List (List ℕ) → Type 0 = λ l. length (wire_of l) ≤ 255 in
    let Q : List (List ℕ) → Type 0 = λ l. IsStop message l one.start one.here in
    let R : List (List ℕ) → Type 0 = λ l. IsStop message l two.start two.here in
    let way = one_way message at at [] one.far.fields two.far.fields one.start one.here two.start two.here
    one.far.leads two.far.leads (subst P one.far.spelt one.far.short) (subst P two.far.spelt two.far.short)
    (subst Q one.far.spelt one.ends.stop) (subst R two.far.spelt two.ends.stop) in
    record { fields = way.0; start = way.1; here = way.2 }

-- two cuts that are reached are reached in one run
pub same_start : (message : List ℕ) (at place place' start start' : ℕ) (one two : List (List ℕ))
    → Reaches message at one start place → FieldIsCut message place → Reaches message at two start' place'
    → FieldIsCut message place' → start ≡ start'
same_start message at place place' start start' one two far cut far' cut' =
    let first : Reading message at (Some (Short place)) =
    record { labels = one; start = start; here = place; far = far; ends = cut_ends message one start place cut } in
    let second : Reading message at (Some (Short place')) =
    record {
      labels = two;
      start = start';
      here = place';
      far = far';
      ends = cut_ends message two start' place' cut';
    } in
    (same_reading message at (Some (Short place)) (Some (Short place')) first second).start

pub one_why : (message : List ℕ) (at : ℕ) (why why' : Option WireFault) → Reading message at why → Reading message at why' → why ≡ why'
one_why message at why why' one two =
    let same = same_reading message at why why' one two in
    sym one.ends.told ∙ ap (λ h. verdict h (get_or message h 0) (length message)) same.here ∙ two.ends.told

pub one_fault : (message : List ℕ) (at : ℕ) (one two : WireFault) → NameBreaks message at one → NameBreaks message at two → one ≡ two
one_fault message at one two h k =
    let e = one_why message at (Some one) (Some two) (of_fault message at one h) (of_fault message at two k) in cc

pub not_both : (message : List ℕ) (at : ℕ) (labels : List (List ℕ)) (next : ℕ) (fault : WireFault)
    → NameAt message at labels next → NameBreaks message at fault → ⊥
not_both message at labels next fault h k =
    let e = one_why message at None (Some fault) (of_name message at labels next h) (of_fault message at fault k) in cc

pub one_name : (message : List ℕ) (at : ℕ) (one two : List (List ℕ)) (next next' : ℕ) → NameAt message at one next
    → NameAt message at two next' → (one ≡ two) × (next ≡ next')
unfolding of_name
one_name message at one two next next' h k =
    let same = same_reading message at None None (of_name message at one next h) (of_name message at two next' k) in
    let fields : h.fields ≡ k.fields = same.fields in
    let root : h.root ≡ k.root = same.here in (
      h.spelt ∙ ap labels_in fields ∙ sym k.spelt,
      h.after ∙ ap (λ f. unwrap_or (after_pointer at f) (h.root + 1)) fields ∙ ap (λ r. unwrap_or (after_pointer at k.fields) (r + 1)) root ∙ sym k.after,
    )

-- one field more
pub leads-label : (message : List ℕ) (s a : ℕ) (fs : List Field) (t h : ℕ) (label : List ℕ) → Leads message s a fs t h
    → LabelAt message h label → Leads message s a (fs ++ by_label label ∷ []) t (h + (length label + 1))
leads-label message s a [] t h label f l = (subst (λ x. LabelAt message x label) (sym f.1) l, (f.0, ap (λ x. x + (length label + 1)) f.1))
leads-label message s a (by_label one ∷ fs) t h label f l =
    (f.0, leads-label message s (a + (length one + 1)) fs t h label f.1 l)
leads-label message s a (by_pointer o ∷ fs) t h label f l = (f.0, f.1, leads-label message o o fs t h label f.2 l)

pub leads-pointer : (message : List ℕ) (s a : ℕ) (fs : List Field) (t h offset : ℕ) → Leads message s a fs t h
    → PointerAt message h offset → offset < t → Leads message s a (fs ++ by_pointer offset ∷ []) offset offset
leads-pointer message s a [] t h offset f p below =
    (subst (λ x. PointerAt message x offset) (sym f.1) p, let e = f.0 in omega arith, (refl, refl))
leads-pointer message s a (by_label one ∷ fs) t h offset f p below =
    (f.0, leads-pointer message s (a + (length one + 1)) fs t h offset f.1 p below)
leads-pointer message s a (by_pointer o ∷ fs) t h offset f p below = (f.0, f.1, leads-pointer message o o fs t h offset f.2 p below)

pub labels_in-label : (fs : List Field) (label : List ℕ) → labels_in (fs ++ by_label label ∷ []) ≡ labels_in fs ++ label ∷ []
labels_in-label [] label = refl
labels_in-label (by_label one ∷ fs) label = ap (λ l. one ∷ l) (labels_in-label fs label)
labels_in-label (by_pointer o ∷ fs) label = labels_in-label fs label

pub labels_in-pointer : (fs : List Field) (offset : ℕ) → labels_in (fs ++ by_pointer offset ∷ []) ≡ labels_in fs
labels_in-pointer [] offset = refl
labels_in-pointer (by_label one ∷ fs) offset = ap (λ l. one ∷ l) (labels_in-pointer fs offset)
labels_in-pointer (by_pointer o ∷ fs) offset = labels_in-pointer fs offset

pub after-label : (a : ℕ) (fs : List Field) (label : List ℕ) → after_pointer a (fs ++ by_label label ∷ []) ≡ after_pointer a fs
after-label a [] label = refl
after-label a (by_label one ∷ fs) label = after-label (a + (length one + 1)) fs label
after-label a (by_pointer o ∷ fs) label = refl

pub after-pointer : (message : List ℕ) (s a : ℕ) (fs : List Field) (t h offset : ℕ) → Leads message s a fs t h
    → after_pointer a (fs ++ by_pointer offset ∷ []) ≡ Some (unwrap_or (after_pointer a fs) (h + 2))
after-pointer message s a [] t h offset f = ap (λ x. Some (x + 2)) f.1
after-pointer message s a (by_label one ∷ fs) t h offset f = after-pointer message s (a + (length one + 1)) fs t h offset f.1
after-pointer message s a (by_pointer o ∷ fs) t h offset f = refl

-- reading begins
unfoldable pub reaches-start : (message : List ℕ) (at : ℕ) → Reaches message at [] at at
reaches-start message at = record { fields = []; leads = (refl, refl); spelt = refl; short = omega arith }

unfoldable pub reaches-label : (message : List ℕ) (at : ℕ) (labels : List (List ℕ)) (start here : ℕ) (label : List ℕ)
    → Reaches message at labels start here → LabelAt message here label → length (wire_of (labels ++ label ∷ [])) ≤ 255
    → Reaches message at (labels ++ label ∷ []) start (here + (length label + 1))
reaches-label message at labels start here label r l fits = record {
  fields = r.fields ++ by_label label ∷ [];
  leads = leads-label message at at r.fields start here label r.leads l;
  spelt = ap (λ x. x ++ label ∷ []) r.spelt ∙ sym (labels_in-label r.fields label);
  short = fits;
}

unfoldable pub reaches-pointer : (message : List ℕ) (at : ℕ) (labels : List (List ℕ)) (start here offset : ℕ)
    → Reaches message at labels start here → PointerAt message here offset → offset < start
    → Reaches message at labels offset offset
reaches-pointer message at labels start here offset r p below = record {
  fields = r.fields ++ by_pointer offset ∷ [];
  leads = leads-pointer message at at r.fields start here offset r.leads p below;
  spelt = r.spelt ∙ sym (labels_in-pointer r.fields offset);
  short = r.short;
}

pub name_reached : (message : List ℕ) (at : ℕ) (labels : List (List ℕ)) (start here : ℕ) (r : Reaches message at labels start here)
    → RootAt message here → NameAt message at labels (unwrap_or (after_pointer at r.fields) (here + 1))
name_reached message at labels start here r root = record {
  fields = r.fields;
  start = start;
  root = here;
  leads = r.leads;
  end = root;
  spelt = r.spelt;
  short = r.short;
  after = refl;
}
