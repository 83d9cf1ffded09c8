-- The groups that a parse took (IEEE 1003.1, regexec; of a repetition the last iteration alone, this project's own).
use Rattle.std.specs.Prelude.{ℕ, zero, suc, ◌==◌, ◌-◌, ◌&&◌, nat_le, if◌then◌else◌, List, [], ◌∷◌, ◌++◌, map, Option}
use Rattle.std.specs.Prelude.{Some, reverse, find, option_map, slice_set}
use Rattle.posix_ere.specs.Tree.{Tree, atom, alt, branch, group, rep, Trees, none, more}
use Rattle.submatch.specs.declared.spans.Span.{Span}
use Rattle.submatch.specs.Parses.{Parses, no_more, next}

-- a group that a parse took: its number and where it stands
pub record Taken : Type 0 where
  pub number : ℕ
  pub span : Span

-- the groups that one parse took, by where it begins and ends, its choice and the parses inside
abbrev pub GroupsOfOne : Type 0
GroupsOfOne = (from to choice : ℕ) → Parses → List Taken

-- the groups of the first of the parses from a place
abbrev pub groups_of_first : GroupsOfOne → ℕ → Parses → List Taken
groups_of_first groups i no_more = []
groups_of_first groups i (next e c a rest) = groups i e c a

-- the groups of the last of the parses from a place
abbrev pub groups_of_last : GroupsOfOne → ℕ → Parses → List Taken
groups_of_last groups i no_more = []
groups_of_last groups i (next e c a no_more) = groups i e c a
groups_of_last groups i (next e c a (next f d b rest)) = groups_of_last groups e (next f d b rest)

abbrev mutual
  -- the groups that a parse of a part took: a part that was not taken gives none
  pub groups_of : Tree → GroupsOfOne
  groups_of (atom x) i j c a = []
  groups_of (alt ts) i j c a = groups_of_branch ts c i a
  groups_of (branch ts) i j c a = groups_of_pieces ts i a
  groups_of (group g t) i j c a =
      record { number = g; span = record { from = i; to = j } } ∷ groups_of_first (groups_of t) i a
  groups_of (rep m n t) i j c a = groups_of_last (groups_of t) i a

  -- those of one parse of each piece, one after another
  pub groups_of_pieces : Trees → ℕ → Parses → List Taken
  groups_of_pieces none i ps = []
  groups_of_pieces (more t ts) i no_more = []
  groups_of_pieces (more t ts) i (next e c a rest) = groups_of t i e c a ++ groups_of_pieces ts e rest

  -- those of a parse of branch number c
  pub groups_of_branch : Trees → ℕ → ℕ → Parses → List Taken
  groups_of_branch none c i ps = []
  groups_of_branch (more t ts) zero i ps = groups_of_first (groups_of t) i ps
  groups_of_branch (more t ts) (suc c) i ps = groups_of_branch ts c i ps

-- the span of group k, if it was taken
abbrev pub span_of : ℕ → List Taken → Option Span
span_of k taken = option_map (λ x. x.span) (find (λ x. x.number == k) (reverse taken))

-- the spans of groups 1 to 9; of further groups nothing is told
abbrev pub nine_spans : List Taken → List (Option Span)
nine_spans taken = map (λ k. span_of k taken) (1 ∷ 2 ∷ 3 ∷ 4 ∷ 5 ∷ 6 ∷ 7 ∷ 8 ∷ 9 ∷ [])

-- what is told of a match: its span, and those of groups 1 to 9
pub record MatchSpans : Type 0 where
  pub whole : Span
  pub groups : List (Option Span)

-- the spans of groups 1 to 9 once a group was taken
abbrev pub with_group : List (Option Span) → Taken → List (Option Span)
with_group spans x = if nat_le 1 x.number && nat_le x.number 9 then slice_set spans (x.number - 1) (Some x.span) else spans

-- the same once groups were taken in turn
abbrev pub with_groups : List (Option Span) → List Taken → List (Option Span)
with_groups spans [] = spans
with_groups spans (x ∷ xs) = with_groups (with_group spans x) xs
