-- In a message of bytes each place has a name or its fault.
use Rattle.std.proofs.Common.{◌≡◌, ◌⊎◌, ℕ, zero, suc, ◌+◌, ◌-◌, ◌*◌, ◌<◌, ◌≤◌, List, [], ◌∷◌, ◌++◌, length, take, drop}
use Rattle.std.proofs.Common.{get_or, refl, ◌∙◌, ap, subst, inl, inr, arith, unwrap_or}
use Rattle.std.specs.List.{AllByRecursion}
use Rattle.dns_name.specs.Name.{IsByte, wire_of}
use Rattle.dns_name.specs.Wire.{StandsAt, RootAt, LabelAt, PointerAt, after_pointer, NameAt, Reaches, FieldIsCut, IsBadType, NameBreaks}
use Rattle.dns_name.specs.declared.wire_fault.WireFault.{WireFault}
use Rattle.dns_name.specs.declared.wire_fault.WireFault.TheVariants.{Short, BadLabelType, ForwardPointer, NameTooLong}
use Rattle.dns_name.proofs.WireLemmas.{from_place, label-there}
use Rattle.dns_name.proofs.ReadLemmas.{reaches-start, reaches-label, reaches-pointer, name_reached}

-- what stands at a place
data Kind (message : List ℕ) (at : ℕ) : Type 0 where
  cut : FieldIsCut message at → Kind message at
  root : RootAt message at → Kind message at
  label : (l : List ℕ) → LabelAt message at l → Kind message at
  bad : IsBadType message at → Kind message at
  pointer : (offset : ℕ) → PointerAt message at offset → Kind message at

pub byte_stands : (message : List ℕ) (at : ℕ) → at < length message → StandsAt message at (get_or message at 0 ∷ [])
byte_stands message at inside = ap (take 1) (from_place message at inside)

pub pointer_there : (message : List ℕ) (at : ℕ) → at + 1 < length message → 192 ≤ get_or message at 0
    → PointerAt message at (256 * (get_or message at 0 - 192) + get_or message (at + 1) 0)
pointer_there message at inside some = (
  get_or message at 0,
  get_or message (at + 1) 0,
  ap (take 2) (from_place message at (omega arith) ∙ ap (λ l. get_or message at 0 ∷ l) (from_place message (at + 1) inside)),
  some,
  refl,
)

by_size : (n m : ℕ) → (n ≤ m) ⊎ (m < n)
by_size n m = grind arith

kind_of : (message : List ℕ) (at : ℕ) → AllByRecursion IsByte message → Kind message at
kind_of message at all = by_room (by_size (length message) at)
  where
    by_pointer : at < length message → 192 ≤ get_or message at 0 → (length message ≤ at + 1) ⊎ (at + 1 < length message) → Kind message at
    by_pointer inside some (inl short) =
        cut (inr (inr (get_or message at 0, byte_stands message at inside, some, omega arith)))
    by_pointer inside some (inr room) = pointer (256 * (get_or message at 0 - 192) + get_or message (at + 1) 0) (pointer_there message at room some)

    by_label : at < length message → 0 < get_or message at 0 → get_or message at 0 < 64
        → (length message ≤ at + get_or message at 0) ⊎ (at + get_or message at 0 < length message) → Kind message at
    by_label inside some most (inl short) =
        cut (inr (inl (get_or message at 0, byte_stands message at inside, some, omega arith, omega arith)))
    by_label inside some most (inr room) =
        label (take (get_or message at 0) (drop (at + 1) message)) (label-there message at (get_or message at 0) all inside refl some most room).0

    by_byte : at < length message → (get_or message at 0 ≤ 0) ⊎ (0 < get_or message at 0) → (64 ≤ get_or message at 0)
        ⊎ (get_or message at 0 < 64) → (192 ≤ get_or message at 0) ⊎ (get_or message at 0 < 192) → Kind message at
    by_byte inside (inl none) more most =
        let zero_byte : get_or message at 0 ≡ 0 = omega arith in
        root (subst (λ b. StandsAt message at (b ∷ [])) zero_byte (byte_stands message at inside))
    by_byte inside (inr some) (inr few) most =
        by_label inside some few (by_size (length message) (at + get_or message at 0))
    by_byte inside (inr some) (inl more) (inr most) = bad (get_or message at 0, byte_stands message at inside, more, most)
    by_byte inside (inr some) (inl more) (inl high) = by_pointer inside high (by_size (length message) (at + 1))

    by_room : (length message ≤ at) ⊎ (at < length message) → Kind message at
    by_room (inl none) = cut (inl none)
    by_room (inr inside) = by_byte inside (by_size (get_or message at 0) 0) (by_size 64 (get_or message at 0)) (by_size 192 (get_or message at 0))

-- a name or a fault
abbrev pub Found : List ℕ → ℕ → Type 0
Found message at =
    ((labels : List (List ℕ)) × (next : ℕ) × NameAt message at labels next) ⊎ ((fault : WireFault) × NameBreaks message at fault)

-- a reading goes on to its end in one run, where one knows how to go on at each lesser offset
run : (message : List ℕ) (at : ℕ) → AllByRecursion IsByte message → (start more : ℕ)
    → ((offset : ℕ) (labels : List (List ℕ)) → offset < start → Reaches message at labels offset offset → Found message at)
    → (labels : List (List ℕ)) (here : ℕ) → Reaches message at labels start here → length message ≤ here + more
    → Found message at
run message at all start zero further labels here r short = inr (Short here, (labels, start, r, inl (omega arith)))
run message at all start (suc more) further labels here r short =
    on (λ l there fits. run message at all start more further (labels ++ l ∷ []) (here + (length l + 1))
    (reaches-label message at labels start here l r there fits) (omega arith)) (kind_of message here all)
  where
    with_label : (l : List ℕ) → LabelAt message here l → (length (wire_of (labels ++ l ∷ [])) ≤ 255 → Found message at)
        → (length (wire_of (labels ++ l ∷ [])) ≤ 255) ⊎ (255 < length (wire_of (labels ++ l ∷ []))) → Found message at
    with_label l there again (inl fits) = again fits
    with_label l there again (inr long) = inr (NameTooLong here, (labels, start, r, (l, there, long)))

    with_pointer : (offset : ℕ) → PointerAt message here offset → (start ≤ offset) ⊎ (offset < start) → Found message at
    with_pointer offset there (inl forward) = inr (ForwardPointer here, (labels, start, r, (offset, there, forward)))
    with_pointer offset there (inr below) = further offset labels below (reaches-pointer message at labels start here offset r there below)

    on : ((l : List ℕ) → LabelAt message here l → length (wire_of (labels ++ l ∷ [])) ≤ 255 → Found message at) → Kind message here → Found message at
    on again (cut h) = inr (Short here, (labels, start, r, h))
    on again (root h) = inl (labels, unwrap_or (after_pointer at r.fields) (here + 1), name_reached message at labels start here r h)
    on again (label l h) = with_label l h (again l h) (by_size (length (wire_of (labels ++ l ∷ []))) 255)
    on again (bad h) = inr (BadLabelType here, (labels, start, r, h))
    on again (pointer offset h) = with_pointer offset h (by_size start offset)

runs : (message : List ℕ) (at : ℕ) → AllByRecursion IsByte message → (most start : ℕ) (labels : List (List ℕ))
    → start ≤ most → Reaches message at labels start start → Found message at
runs message at all zero start labels low r =
    run message at all start (length message) (λ offset l below s. absurd (omega arith)) labels start r (omega arith)
runs message at all (suc most) start labels low r =
    run message at all start (length message) (λ offset l below s. runs message at all most offset l (omega arith) s) labels start r (omega arith)

pub name_or_fault : (message : List ℕ) (at : ℕ) → AllByRecursion IsByte message → Found message at
name_or_fault message at all = runs message at all at at [] (omega arith) (reaches-start message at)
