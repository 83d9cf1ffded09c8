-- Laws of names.
use Rattle.std.specs.Prelude.{◌≡◌, ◌↔◌, ◌⊎◌, ℕ, ◌≤◌, length, ◌==◌, ◌&&◌, ◌||◌, not, Bool, IsTrue, List, Option, Ok}
use Rattle.std.specs.List.{AllByRecursion}
use Rattle.std.specs.Cmp.{IsTotalOrder}
use Rattle.std.specs.declared.cmp.Ordering.TheVariants.{Equal}
use Rattle.dns_name.specs.Name.{IsByte, IsName, AreSame, folded_order}
use Rattle.dns_name.specs.Wire.{NameAt, NameBreaks, NameWithin, WithinBreaks}
use Rattle.dns_name.specs.declared.wire_fault.WireFault.{WireFault}
use Rattle.dns_name.specs.declared.wire_fault.WithinFault.{WithinFault}
use Rattle.dns_name.specs.Text.{dot, is_visible, is_special, IsAbsolute, text_of}
use Rattle.dns_name.specs.Reading.{name_of}

-- for every name and every origin, what is read of the name's text is the name
abbrev pub ReadsBack : Type 0
ReadsBack = (labels : List (List ℕ)) (origin : Option (List (List ℕ))) → IsName labels → name_of (text_of labels) origin ≡ Ok labels

-- a byte that stands as it is in a written text: a dot, or a visible byte that wants no backslash
abbrev pub is_unescaped : ℕ → Bool
is_unescaped byte = byte == dot || (is_visible byte && not (is_special byte))

-- an absolute text of such bytes is the written text of its labels
abbrev pub PlainIsWritten : Type 0
PlainIsWritten =
    (text : List ℕ) (labels : List (List ℕ)) → AllByRecursion (λ byte. IsTrue (is_unescaped byte)) text
    → IsAbsolute text labels → text ≡ text_of labels

-- the order of names is antisymmetric, transitive, and the same for names that rank equal
abbrev pub OrderIsTotal : Type 0
OrderIsTotal = IsTotalOrder folded_order

-- names rank equal exactly where they are the same
abbrev pub EqualAreSame : Type 0
EqualAreSame = (one other : List (List ℕ)) → IsName one → IsName other → (folded_order one other ≡ Equal) ↔ AreSame one other

-- at a place of a message stands at most one name, which ends at one place ..
abbrev pub OneName : Type 0
OneName =
    (message : List ℕ) (at : ℕ) (one other : List (List ℕ)) (next next' : ℕ) → NameAt message at one next
    → NameAt message at other next' → (one ≡ other) × (next ≡ next')

-- .. or it has at most one fault ..
abbrev pub OneFault : Type 0
OneFault = (message : List ℕ) (at : ℕ) (one other : WireFault) → NameBreaks message at one → NameBreaks message at other → one ≡ other

-- .. never both ..
abbrev pub NotBoth : Type 0
NotBoth = (message : List ℕ) (at : ℕ) (labels : List (List ℕ)) (next : ℕ) (fault : WireFault) → NameAt message at labels next → ¬ NameBreaks message at fault

-- .. and in a message of bytes always one of them
abbrev pub NameOrFault : Type 0
NameOrFault =
    (message : List ℕ) (at : ℕ) → AllByRecursion IsByte message
    → ((labels : List (List ℕ)) × (next : ℕ) × NameAt message at labels next)
    ⊎ ((fault : WireFault) × NameBreaks message at fault)

-- the same of names whose first label run lies before a place: at most one fault ..
abbrev pub OneWithin : Type 0
OneWithin =
    (message : List ℕ) (at to : ℕ) (one other : WithinFault) → WithinBreaks message at to one → WithinBreaks message at to other → one ≡ other

-- .. never a name and a fault ..
abbrev pub NotBothWithin : Type 0
NotBothWithin =
    (message : List ℕ) (at to : ℕ) (labels : List (List ℕ)) (next : ℕ) (fault : WithinFault)
    → NameWithin message at to labels next → ¬ WithinBreaks message at to fault

-- .. and always one of them
abbrev pub WithinOrFault : Type 0
WithinOrFault =
    (message : List ℕ) (at to : ℕ) → to ≤ length message → AllByRecursion IsByte message
    → ((labels : List (List ℕ)) × (next : ℕ) × NameWithin message at to labels next)
    ⊎ ((fault : WithinFault) × WithinBreaks message at to fault)
