-- In a message of bytes each place has a name whose first label run lies before another, or its fault.
use Rattle.std.proofs.Common.{◌≡◌, ◌⊎◌, ℕ, ◌≤◌, List, length, take, subst, inl, inr, arith}
use Rattle.std.proofs.lemmas.Bool.Decides.{nat_tests}
use Rattle.std.specs.List.{AllByRecursion}
use Rattle.dns_name.specs.Name.{IsByte}
use Rattle.dns_name.specs.Wire.{NameBreaks, Reaches, FieldIsCut, RunIsCut, NameWithin, WithinBreaks}
use Rattle.dns_name.specs.declared.wire_fault.WireFault.TheVariants.{Short, BadLabelType, ForwardPointer, NameTooLong}
use Rattle.dns_name.specs.declared.wire_fault.WithinFault.{WithinFault}
use Rattle.dns_name.specs.declared.wire_fault.WithinFault.TheVariants.{Shape, Wire}
use Rattle.dns_name.proofs.ReadLemmas.{same_start, one_fault, not_both}
use Rattle.dns_name.proofs.WireLemmas.{each-take}
use Rattle.dns_name.proofs.FoundLemmas.{Found, name_or_fault}
use Rattle.dns_name.proofs.WithinLemmas.{before_place}

cut_breaks : (bytes : List ℕ) (at place : ℕ) → RunIsCut bytes at place → NameBreaks bytes at (Short place)
cut_breaks bytes at place (labels, far, cut) = (labels, at, far, cut)

-- a first run is cut, or nowhere
abbrev CutOrNot : List ℕ → ℕ → Type 0
CutOrNot bytes at = ((place : ℕ) × RunIsCut bytes at place) ⊎ ((place : ℕ) → ¬ RunIsCut bytes at place)

same_or_not : (n m : ℕ) → (n ≡ m) ⊎ (n ≡ m → ⊥)
same_or_not n m = grind (arith, nat_tests)

by_start : (bytes : List ℕ) (at place start : ℕ) (labels : List (List ℕ)) → Reaches bytes at labels start place
    → FieldIsCut bytes place → (start ≡ at) ⊎ (start ≡ at → ⊥) → CutOrNot bytes at
by_start bytes at place start labels far cut (inl e) = inl (place, (labels, subst (λ s. Reaches bytes at labels s place) e far, cut))
by_start bytes at place start labels far cut (inr other) = inr no
  where
    no : (place' : ℕ) → ¬ RunIsCut bytes at place'
    no place' (labels', far', cut') = other (same_start bytes at place place' start at labels labels' far cut far' cut')

cut_or_not : (bytes : List ℕ) (at : ℕ) → Found bytes at → CutOrNot bytes at
cut_or_not bytes at (inl (labels, next, name)) =
    inr (λ place cut. not_both bytes at labels next (Short place) name (cut_breaks bytes at place cut))
cut_or_not bytes at (inr (Short place, (labels, start, far, cut))) = by_start bytes at place start labels far cut (same_or_not start at)
cut_or_not bytes at (inr (BadLabelType place, h)) = inr (λ p cut. let e = one_fault bytes at (Short p) (BadLabelType place) (cut_breaks bytes at p cut) h in cc)
cut_or_not bytes at (inr (ForwardPointer place, h)) =
    inr (λ p cut. let e = one_fault bytes at (Short p) (ForwardPointer place) (cut_breaks bytes at p cut) h in cc)
cut_or_not bytes at (inr (NameTooLong place, h)) = inr (λ p cut. let e = one_fault bytes at (Short p) (NameTooLong place) (cut_breaks bytes at p cut) h in cc)

abbrev FoundWithin : List ℕ → ℕ → ℕ → Type 0
FoundWithin message at to =
    ((labels : List (List ℕ)) × (next : ℕ) × NameWithin message at to labels next) ⊎ ((fault : WithinFault) × WithinBreaks message at to fault)

found_within : (message : List ℕ) (at to : ℕ) → to ≤ length message → CutOrNot (take to message) at → Found message at → FoundWithin message at to
found_within message at to fits (inl (place, cut)) found = inr (Shape place, cut)
found_within message at to fits (inr whole) (inl (labels, next, name)) =
    inl (labels, next, (name, before_place message at to labels next fits whole name))
found_within message at to fits (inr whole) (inr (fault, breaks)) = inr (Wire fault, (breaks, whole))

pub within_or_fault : (message : List ℕ) (at to : ℕ) → to ≤ length message → AllByRecursion IsByte message → FoundWithin message at to
within_or_fault message at to fits all =
    found_within message at to fits
    (cut_or_not (take to message) at (name_or_fault (take to message) at (each-take IsByte message to all)))
    (name_or_fault message at all)
