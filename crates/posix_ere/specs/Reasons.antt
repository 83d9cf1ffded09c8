-- Why a text breaks where it breaks (this project's own): ten rows, each on the text before the place and what stands
-- there. No two fit one place (`has_one_reason`); a byte that is not printable has the row of its own.
use Rattle.std.specs.Prelude.{ℕ, zero, suc, ◌≡◌, ◌≢◌, ◌+◌, ◌<◌, ◌⊎◌, Bool, true, false, ◌||◌, ◌==◌, List, [], ◌∷◌, ◌++◌, Option, Some, None}
use Rattle.posix_ere.specs.Tree.{Tree}
use Rattle.posix_ere.specs.Parts.{groups}
use Rattle.posix_ere.specs.Ascii.{is_printable}
use Rattle.posix_ere.specs.Interval.{IsInterval}
use Rattle.posix_ere.specs.Bracket.{Item, spelled, body, sign, opens, name_of}
use Rattle.posix_ere.specs.Grammar.{IsExpression, Reads}
use Rattle.posix_ere.specs.declared.class.Class.{Class}
use Rattle.posix_ere.specs.declared.why.Why.{Why}
use Rattle.posix_ere.specs.declared.why.Why.TheVariants.{OpenGroup, StrayClose, OpenBracket, BadRange, BadClass}
use Rattle.posix_ere.specs.declared.why.Why.TheVariants.{BadInterval, NothingToRepeat, BadEscape, Collating, NotAscii}

-- texts that have trees with a `(` between each two: d groups are open, and k were opened
abbrev pub IsBetween : ℕ → ℕ → List ℕ → Type 0
IsBetween zero k p = (t : Tree) × Reads p t × (k ≡ groups t)
IsBetween (suc d) k p =
    (q : List ℕ) × (w : List ℕ) × (j : ℕ) × (t : Tree) × (p ≡ q ++ 40 ∷ w) × IsBetween d j q × IsExpression (suc j) w t
    × (k ≡ suc j + groups t)

-- outside brackets, intervals and escapes
abbrev pub Between : List ℕ → Type 0
Between p = (d : ℕ) × (k : ℕ) × IsBetween d k p

-- the beginning of the text of an interval
abbrev pub IsIntervalPart : List ℕ → Type 0
IsIntervalPart v = (r : List ℕ) × (m : ℕ) × (n : Option ℕ) × IsInterval (v ++ r) m n

-- after a backslash outside a bracket
abbrev pub InEscape : List ℕ → Type 0
InEscape p = (q : List ℕ) × (p ≡ q ++ 92 ∷ []) × Between q

-- what may turn out to be no item: a `-` after which a bracket has to end, and a range to a `[` that may begin more
abbrev pub IsUndecided : List ℕ → Type 0
IsUndecided y = (y ≡ 45 ∷ []) ⊎ ((e : ℕ) × (y ≡ e ∷ 45 ∷ 91 ∷ []))

-- the text of items and the beginning of one more that may stand after them, all of it only where it is undecided
pub record InItems (z y : List ℕ) : Type 0 where
  pub negated : Bool
  pub is : List Item
  pub text : z ≡ sign negated ++ (body is ++ y)
  pub items : (r : List ℕ) → opens negated is (y ++ r) ≡ true
  pub begun : Item
  pub rest : List ℕ
  pub spells : spelled begun ≡ y ++ rest
  pub stands : opens negated (is ++ begun ∷ []) (93 ∷ []) ≡ true
  pub left : rest ≡ [] → IsUndecided y

-- inside a bracket, after whole items and the beginning of one
abbrev pub InBracket : List ℕ → List ℕ → Type 0
InBracket p y = (q : List ℕ) × (z : List ℕ) × (p ≡ q ++ 91 ∷ z) × Between q × InItems z y

-- inside a bracket, after items and a `-` that is not the first
abbrev pub AfterHyphen : List ℕ → Type 0
AfterHyphen p =
    (q : List ℕ) × (z : List ℕ) × (p ≡ q ++ 91 ∷ z) × Between q × ((h : InItems z (45 ∷ [])) × (h.is ≡ [] → ⊥))

-- after nothing that can be repeated: at the start of the text, or after a `(`, `|`, `^` or `$` that is no part of a
-- bracket or an escape
abbrev pub AfterNothing : List ℕ → Type 0
AfterNothing p =
    (p ≡ [])
    ⊎ ((q : List ℕ) × (x : ℕ) × (p ≡ q ++ x ∷ []) × Between q × ((x == 40 || x == 124 || x == 94 || x == 36) ≡ true))

-- after a `{` that begins an interval, and the beginning of what may stand between its braces
abbrev pub InInterval : List ℕ → Type 0
InInterval p =
    (q : List ℕ) × (v : List ℕ) × (p ≡ q ++ 123 ∷ v) × Between q × (AfterNothing q → ⊥) × IsIntervalPart v

-- the end of the text, or a printable byte
abbrev pub EndOrPrintable : Option ℕ → Type 0
EndOrPrintable None = Unit {0}
EndOrPrintable (Some b) = is_printable b ≡ true

-- a printable byte here for which this holds
abbrev pub ForByte : Option ℕ → (ℕ → Type 0) → Type 0
ForByte None P = ⊥
ForByte (Some b) P = (is_printable b ≡ true) × P b

-- why the text before the place does not go on with what stands there, a byte or the end of the text
abbrev pub IsReason : List ℕ → Option ℕ → Why → Type 0
IsReason p next NotAscii = (b : ℕ) × (next ≡ Some b) × (is_printable b ≡ false)
IsReason p next BadInterval = EndOrPrintable next × InInterval p
IsReason p next BadEscape = EndOrPrintable next × InEscape p
IsReason p next Collating =
    ForByte next (λ b. ((b == 46 || b == 61) ≡ true)
    × (InBracket p (91 ∷ []) ⊎ ((e : ℕ) × InBracket p (e ∷ 45 ∷ 91 ∷ []))))
IsReason p next BadClass =
    ForByte next (λ b. (c : Class) × (x : List ℕ) × (r : List ℕ) × (name_of c ++ 58 ∷ 93 ∷ [] ≡ x ++ r) × (r ≡ [] → ⊥)
    × InBracket p (91 ∷ 58 ∷ x))
IsReason p next BadRange =
    ForByte next (λ b. (b ≢ 93) × (((e : ℕ) × (b < e) × InBracket p (e ∷ 45 ∷ []))
    ⊎ (((e : ℕ) × (b ≡ 58) × InBracket p (e ∷ 45 ∷ 91 ∷ [])) ⊎ AfterHyphen p)))
IsReason p next OpenBracket = (next ≡ None) × ((y : List ℕ) × InBracket p y)
IsReason p next OpenGroup = (next ≡ None) × ((d : ℕ) × (k : ℕ) × IsBetween (suc d) k p)
IsReason p next StrayClose = (next ≡ Some 41) × ((k : ℕ) × IsBetween 0 k p)
IsReason p next NothingToRepeat =
    ForByte next (λ b. ((b == 42 || b == 43 || b == 63 || b == 123) ≡ true) × AfterNothing p)
