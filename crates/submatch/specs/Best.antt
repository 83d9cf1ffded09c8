-- The best match (IEEE 1003.1, Base Definitions, 9.1: the earliest, and of these the longest; then this project's own order).
use Rattle.std.specs.Prelude.{◌≡◌, ℕ, ◌<◌, ◌≤◌, Bool, List, length, Option, Some, None}
use Rattle.posix_ere.specs.Tree.{Tree}
use Rattle.submatch.specs.declared.spans.Span.{Span}
use Rattle.submatch.specs.Parses.{Parses, no_more, next, IsParse}
use Rattle.submatch.specs.Greater.{AreGreatest}
use Rattle.submatch.specs.Groups.{MatchSpans, groups_of, nine_spans}

-- one parse of the whole from i, up to any end
abbrev pub IsMatch : Bool → List ℕ → Tree → ℕ → Parses → Type 0
IsMatch fold w t i no_more = ⊥
IsMatch fold w t i (next j c a rest) = IsParse fold w t i j c a × (rest ≡ no_more)

-- no parse of the whole begins at i
abbrev pub HasNoMatch : Bool → List ℕ → Tree → ℕ → Type 0
HasNoMatch fold w t i = (ps : Parses) → IsMatch fold w t i ps → ⊥

-- at the least start from which the whole has a parse, the parse from i to j is greater than every other from there
pub record IsBestMatch (fold : Bool) (w : List ℕ) (t : Tree) (i j c : ℕ) (a : Parses) : Type 0 where
  pub within : i ≤ length w
  pub least : (k : ℕ) → k < i → HasNoMatch fold w t k
  pub greatest : AreGreatest (IsMatch fold w t i) (next j c a no_more)

-- the span is that of the best match
abbrev pub IsBestSpan : Bool → List ℕ → Tree → Span → Type 0
IsBestSpan fold w t span = (c : ℕ) × (a : Parses) × IsBestMatch fold w t span.from span.to c a

-- the spans are those of groups 1 to 9 of the best match
abbrev pub AreBestGroups : Bool → List ℕ → Tree → List (Option Span) → Type 0
AreBestGroups fold w t groups =
    (i j c : ℕ) × (a : Parses) × IsBestMatch fold w t i j c a × (groups ≡ nine_spans (groups_of t i j c a))

-- the spans are those of one best match: its own span, and the spans of groups 1 to 9 that it took
pub record AreBestSpans (fold : Bool) (w : List ℕ) (t : Tree) (spans : MatchSpans) : Type 0 where
  pub choice : ℕ
  pub inside : Parses
  pub best : IsBestMatch fold w t spans.whole.from spans.whole.to choice inside
  pub groups : spans.groups ≡ nine_spans (groups_of t spans.whole.from spans.whole.to choice inside)

-- the spans are those of the greatest parse of the whole from i
pub record IsGreatestFrom (fold : Bool) (w : List ℕ) (t : Tree) (i : ℕ) (spans : MatchSpans) : Type 0 where
  pub to : ℕ
  pub choice : ℕ
  pub inside : Parses
  pub greatest : AreGreatest (IsMatch fold w t i) (next to choice inside no_more)
  pub whole : spans.whole ≡ record { from = i; to = to }
  pub groups : spans.groups ≡ nine_spans (groups_of t i to choice inside)

-- the spans of the greatest parse of the whole from i, or that there is none
abbrev pub TellsGreatest : Bool → List ℕ → Tree → ℕ → Option MatchSpans → Type 0
TellsGreatest fold w t i None = HasNoMatch fold w t i
TellsGreatest fold w t i (Some spans) = IsGreatestFrom fold w t i spans

-- the spans of the greatest parse at the least start that has one
pub record IsBestOf (fold : Bool) (w : List ℕ) (t : Tree) (spans : MatchSpans) : Type 0 where
  pub start : ℕ
  pub within : start ≤ length w
  pub least : (k : ℕ) → k < start → HasNoMatch fold w t k
  pub greatest : IsGreatestFrom fold w t start spans

-- the same, or that no start has a parse
abbrev pub TellsBest : Bool → List ℕ → Tree → Option MatchSpans → Type 0
TellsBest fold w t None = (i : ℕ) → i ≤ length w → HasNoMatch fold w t i
TellsBest fold w t (Some spans) = IsBestOf fold w t spans
