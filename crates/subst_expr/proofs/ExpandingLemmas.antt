use Rattle.std.proofs.Common.{◌≡◌, ℕ, List, length, take, drop, min, Option, Some, IfSome, Ok, false, ap, ◌∙◌, subst}
use Rattle.std.proofs.lemmas.List.{take_min, drop_min}
use Rattle.posix_ere.specs.Tree.{Tree}
use Rattle.submatch.specs.Best.{AreBestGroups}
use Rattle.submatch.specs.Groups.{MatchSpans}
use Rattle.posix_ere.specs.Parts.{groups}
use Rattle.subst_expr.specs.Pieces.{Piece}
use Rattle.subst_expr.specs.Regexp.{IsFirstMissing}
use Rattle.subst_expr.specs.Replacement.{HasPieces}
use Rattle.subst_expr.specs.Scans.{expansion_from, missing_from}
use Rattle.subst_expr.specs.Split.{Splits}
use Rattle.subst_expr.proofs.OneSplitLemmas.{split_pieces}
use Rattle.subst_expr.proofs.PieceLemmas.{expansion_spelled, missing_spelled}
use Rattle.subst_expr.specs.Output.{Expands}
use Rattle.subst_expr.specs.declared.subst.Subst.{Subst}

-- bytes up to a place, or up to the end
pub take_within : (n : ℕ) (xs : List ℕ) → take (min n (length xs)) xs ≡ take n xs
take_within n xs = take_min n xs

-- bytes from a place, or none
pub drop_within : (n : ℕ) (xs : List ℕ) → drop (min n (length xs)) xs ≡ drop n xs
drop_within n xs = drop_min n xs

-- the groups that were found expand the replacement
pub expands : (s : Subst) (t u : Tree) (aus repl bytes : List ℕ) (found : Option MatchSpans) (spans : MatchSpans)
    (pieces : List Piece) → HasPieces s pieces → u ≡ t → found ≡ Some spans
    → IfSome found (λ x. AreBestGroups s.fold aus u x.groups) → repl ≡ s.repl
    → bytes ≡ expansion_from aus spans.groups false repl → Expands s t aus bytes
expands s t u aus repl bytes found spans pieces has tree some best whole is =
    let P : Option MatchSpans → Type 0 = λ o. IfSome o (λ x. AreBestGroups s.fold aus u x.groups) in
    let Q : Tree → Type 0 = λ v. AreBestGroups s.fold aus v spans.groups in
    record {
      groups = spans.groups;
      pieces = pieces;
      best = subst Q tree (subst P some best);
      spelt = has;
      given = is ∙ ap (λ r. expansion_from aus spans.groups false r) (whole ∙ has.spelt) ∙ expansion_spelled s.delim aus spans.groups pieces has.part;
    }

-- the first missing group of a split
pub missing : (text : List ℕ) (s : Subst) (t : Tree) (count start : ℕ) (repl : List ℕ) (place : Option ℕ)
    → Splits text (Ok s) → count ≡ groups t → start ≡ s.repl_at → repl ≡ s.repl
    → place ≡ missing_from count false start repl → IsFirstMissing t s place
missing text s t count start repl place splits many from whole is = found (split_pieces text s splits)
  where
    found : (pieces : List Piece) × HasPieces s pieces → IsFirstMissing t s place
    found (pieces, has) = record {
      pieces = pieces;
      spelt = has;
      found =
          is
          ∙ ap (λ n. missing_from n false start repl) many
          ∙ ap (λ k. missing_from (groups t) false k repl) from
          ∙ ap (λ r. missing_from (groups t) false s.repl_at r) (whole ∙ has.spelt)
          ∙ missing_spelled s.delim (groups t) s.repl_at pieces has.part;
    }
