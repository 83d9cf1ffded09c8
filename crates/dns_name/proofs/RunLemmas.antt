-- The loop over the labels of a first run.
use Rattle.std.proofs.Common.{◌≡◌, ℕ, suc, ◌+◌, ◌-◌, ◌<◌, ◌≤◌, List, [], ◌∷◌, ◌++◌, length, Option, Some, None, Ok, Err}
use Rattle.std.proofs.Common.{sym, ◌∙◌, ap, subst, arith, length-append}
use Rattle.std.specs.Prelude.{MatchOption}
use Rattle.std.specs.List.{flat_map}
use Rattle.dns_name.specs.Name.{label_wire, wire_of}
use Rattle.dns_name.specs.Wire.{RootAt, PointerAt, Reaches, FieldIsCut, IsBadType, RunIsCut}
use Rattle.dns_name.specs.Fields.{label_bytes, IsField, cut_place}
use Rattle.dns_name.specs.declared.field.Field.TheVariants.{Label}
use Rattle.dns_name.specs.declared.wire_fault.WireFault.{WireFault}
use Rattle.dns_name.specs.declared.wire_fault.WireFault.TheVariants.{Short, BadLabelType, ForwardPointer, NameTooLong}
use Rattle.dns_name.proofs.ReadLemmas.{label_stands, reaches-start, reaches-label, root_ends, bad_ends, forward_ends, long_ends}
use Rattle.dns_name.proofs.WithinLemmas.{run_of, not_cut}
use Rattle.dns_name.proofs.CodeLemmas.{flat_map-last}

-- the state of the loop: the labels so far, which end at the place
pub record IsRunning (bytes : List ℕ) (at here : ℕ) : Type 0 where
  pub labels : List (List ℕ)
  pub far : Reaches bytes at labels at here
  pub size : here ≡ at + length (flat_map label_wire labels)
  pub inside : here ≤ length bytes

pub running-start : (bytes : List ℕ) (at : ℕ) → at ≤ length bytes → IsRunning bytes at at
running-start bytes at inside = record { labels = []; far = reaches-start bytes at; size = omega arith; inside = inside }

-- the size of the labels with one more
size-more : (labels : List (List ℕ)) (label : List ℕ)
    → length (flat_map label_wire (labels ++ label ∷ [])) ≡ length (flat_map label_wire labels) + suc (length label)
size-more labels label =
    ap length (sym (flat_map-last labels label)) ∙ length-append (flat_map label_wire labels) (label_wire label)

pub running-step : (bytes : List ℕ) (at here size : ℕ) → IsRunning bytes at here → IsField bytes here (Ok (Label size))
    → here - at + size + 2 ≤ 255 → IsRunning bytes at (here + (size + 1))
running-step bytes at here size r (there, whole) fits =
    let label = label_bytes bytes here size in
    let more = size-more r.labels label in
    let place : here + (length label + 1) ≡ here + (size + 1) = ap (λ n. here + (n + 1)) whole in
    let is = r.size in
    let short : length (wire_of (r.labels ++ label ∷ [])) ≤ 255 = omega (arith, length-append (flat_map label_wire (r.labels ++ label ∷ [])) (0 ∷ [])) in
    subst (λ h. IsRunning bytes at h) place (record {
      labels = r.labels ++ label ∷ [];
      far = reaches-label bytes at r.labels at here label r.far there short;
      size = omega arith;
      inside = let s = (label_stands bytes here label there).inside in omega arith;
    })

pub running-long : (bytes : List ℕ) (at here size : ℕ) → IsRunning bytes at here → IsField bytes here (Ok (Label size))
    → 255 < here - at + size + 2 → (place : ℕ) → ¬ RunIsCut bytes at place
running-long bytes at here size r (there, whole) long =
    let label = label_bytes bytes here size in
    let more = size-more r.labels label in
    let is = r.size in
    let over : 255 < length (wire_of (r.labels ++ label ∷ [])) = omega (arith, length-append (flat_map label_wire (r.labels ++ label ∷ [])) (0 ∷ [])) in
    not_cut bytes at r.labels here (Some (NameTooLong here)) (run_of bytes at r.labels here r.far)
    (long_ends bytes r.labels 0 here label there over) (λ place e. absurd (cc))

pub running-root : (bytes : List ℕ) (at here : ℕ) → IsRunning bytes at here → RootAt bytes here → (place : ℕ) → ¬ RunIsCut bytes at place
running-root bytes at here r root =
    not_cut bytes at r.labels here None (run_of bytes at r.labels here r.far) (root_ends bytes r.labels 0 here root) (λ place e. absurd (cc))

pub running-pointer : (bytes : List ℕ) (at here offset : ℕ) → IsRunning bytes at here → PointerAt bytes here offset → (place : ℕ) → ¬ RunIsCut bytes at place
running-pointer bytes at here offset r pointer =
    not_cut bytes at r.labels here (Some (ForwardPointer here)) (run_of bytes at r.labels here r.far)
    (forward_ends bytes r.labels 0 here offset pointer (omega arith)) (λ place e. absurd (cc))

running-bad : (bytes : List ℕ) (at here : ℕ) → IsRunning bytes at here → IsBadType bytes here → (place : ℕ) → ¬ RunIsCut bytes at place
running-bad bytes at here r bad =
    not_cut bytes at r.labels here (Some (BadLabelType here)) (run_of bytes at r.labels here r.far)
    (bad_ends bytes r.labels 0 here bad) (λ place e. absurd (cc))

pub running-fault : (bytes : List ℕ) (at here : ℕ) (fault : WireFault) (place : Option ℕ) → IsRunning bytes at here
    → IsField bytes here (Err fault) → place ≡ cut_place fault
    → MatchOption place ((p : ℕ) → ¬ RunIsCut bytes at p) (RunIsCut bytes at)
running-fault bytes at here (Short p) place r f is =
    let P : Option ℕ → Type 0 = λ o. MatchOption o ((q : ℕ) → ¬ RunIsCut bytes at q) (RunIsCut bytes at) in
    subst P (sym is) (r.labels, subst (λ h. Reaches bytes at r.labels at h) (sym f.0) r.far, subst (λ h. FieldIsCut bytes h) (sym f.0) f.1)
running-fault bytes at here (BadLabelType p) place r f is =
    let P : Option ℕ → Type 0 = λ o. MatchOption o ((q : ℕ) → ¬ RunIsCut bytes at q) (RunIsCut bytes at) in
    subst P (sym is) (running-bad bytes at here r f.1)
running-fault bytes at here (ForwardPointer p) place r f is = absurd f
running-fault bytes at here (NameTooLong p) place r f is = absurd f
