-- Each text has an answer: an output, no match, or a fault.
use Rattle.std.proofs.Common.{◌≡◌, ◌≢◌, ℕ, zero, suc, ◌+◌, ◌<◌, ◌≤◌, ◌⊎◌, inl, inr, Bool, true, false, List, [], ◌∷◌}
use Rattle.std.proofs.Common.{length, get_or, not, position, min, Option, Some, None, Result, Ok, Err, MatchOption}
use Rattle.std.proofs.Common.{MatchBool, refl, sym, arith}
use Rattle.posix_ere.specs.Tree.{Tree}
use Rattle.posix_ere.specs.Parts.{groups, weight}
use Rattle.posix_ere.specs.Grammar.{Reads}
use Rattle.posix_ere.specs.Answers.{HasOneTree, IsFaultOf}
use Rattle.posix_ere.specs.Machine.{State, step, finish, top_of, start}
use Rattle.posix_ere.specs.declared.why.EreFault.TheVariants.{Broken, TooHeavy}
use Rattle.posix_ere.specs.declared.why.Why.{Why}
use Rattle.posix_ere.proofs.MeaningLemmas.{accepted}
use Rattle.posix_ere.proofs.ReadingLemmas.{Going, going_none, going_more, all_ran, fault_stuck, fault_end}
use Rattle.submatch.specs.Parses.{Parses}
use Rattle.submatch.specs.Best.{IsBestMatch, HasNoMatch}
use Rattle.submatch.specs.Laws.{OneIsBest}
use Rattle.subst_expr.specs.Laws.{FormedOrFault, OutputOrUnmatched, OutputOrNone}
use Rattle.subst_expr.specs.Output.{IsOutput, IsUnmatched}
use Rattle.subst_expr.specs.Pieces.{Piece, is_delimiter, is_printable}
use Rattle.subst_expr.specs.Regexp.{IsWellFormed, IsRegexpFault, IsFirstMissing}
use Rattle.subst_expr.specs.Replacement.{HasPieces, expansion}
use Rattle.subst_expr.specs.Scans.{halves, missing_from, split_at}
use Rattle.subst_expr.specs.Split.{SplitsRest, Splits}
use Rattle.subst_expr.specs.declared.subst.Subst.{Subst}
use Rattle.subst_expr.specs.declared.subst.SubstFault.{SubstFault}
use Rattle.subst_expr.specs.declared.subst.SubstFault.TheVariants.{Empty, NotPrintable, BadDelimiter, MissingDelimiter}
use Rattle.subst_expr.specs.declared.regexp.RegexpFault.{RegexpFault}
use Rattle.subst_expr.specs.declared.regexp.RegexpFault.TheVariants.{Split, Ere, NoGroup, Memory}
use Rattle.subst_expr.proofs.ExpandingLemmas.{missing}
use Rattle.subst_expr.proofs.OneAnswerLemmas.{spans_of, no_fault, no_output}
use Rattle.subst_expr.proofs.OneSplitLemmas.{split_pieces}
use Rattle.subst_expr.proofs.SplitLemmas.{split_one, split_two, split_three}

-- a text has a tree, or breaks at a place
abbrev ReadsOrBreaks : List ℕ → Type 0
ReadsOrBreaks w = ((t : Tree) × Reads w t) ⊎ ((at : ℕ) × (why : Why) × IsFaultOf w (Broken at why))

at_end : (w : List ℕ) (i : ℕ) (s : State) → Going w i s → i ≡ length w → ReadsOrBreaks w
at_end w i s g e = by (finish s) refl
  where
    by : (r : Result (List Tree) Why) → finish s ≡ r → ReadsOrBreaks w
    by (Ok stack) f = inl (top_of stack, (accepted w s stack (all_ran w i s g e) f).reads)
    by (Err why) f = inr (i, why, fault_end w i s (Broken i why) e (all_ran w i s g e) (refl, f))

reads_from : (w : List ℕ) (n i : ℕ) (s : State) → Going w i s → i + n ≡ length w → ReadsOrBreaks w
reads_from w zero i s g e = at_end w i s g (omega (arith, e))
reads_from w (suc n) i s g e = by (step s (get_or w i 0)) refl (λ t h. reads_from w n (i + 1) t h (omega (arith, e)))
  where
    less : i < length w
    less = omega (arith, e)

    by : (r : Result State Why) → step s (get_or w i 0) ≡ r → ((t : State) → Going w (i + 1) t → ReadsOrBreaks w) → ReadsOrBreaks w
    by (Ok t) f on = on t (going_more w i (get_or w i 0) s t g less refl f)
    by (Err why) f on = inr (i, why, fault_stuck w i s (Broken i why) g less (refl, f))

reads_or_breaks : (w : List ℕ) → ReadsOrBreaks w
reads_or_breaks w = reads_from w (length w) 0 start (going_none w) (omega arith)

-- a text has an answer of the split
rest_splits : (delim : ℕ) (rest : List ℕ) → (result : Result Subst SubstFault) × SplitsRest delim rest result
rest_splits delim rest = first (halves delim rest) refl
  where
    second : (ere tail : List ℕ) → halves delim rest ≡ Some (ere, tail) → (o : Option (List ℕ × List ℕ)) → halves delim tail ≡ o
        → (result : Result Subst SubstFault) × SplitsRest delim rest result
    second ere tail e None f = (Err (MissingDelimiter 2), split_two delim rest ere tail e f)
    second ere tail e (Some (repl, flags)) f = (split_at delim ere repl flags, split_three delim rest ere tail repl flags e f)

    first : (o : Option (List ℕ × List ℕ)) → halves delim rest ≡ o → (result : Result Subst SubstFault) × SplitsRest delim rest result
    first None e = (Err (MissingDelimiter 1), split_one delim rest e)
    first (Some (ere, tail)) e = second ere tail e (halves delim tail) refl

splits : (text : List ℕ) → (result : Result Subst SubstFault) × Splits text result
splits [] = (Err Empty, refl)
splits (delim ∷ rest) = by (position (λ b. not (is_printable b)) (delim ∷ rest)) (is_delimiter delim)
  where
    by : (o : Option ℕ) (t : Bool) → (result : Result Subst SubstFault)
        × MatchOption o (MatchBool t (SplitsRest delim rest result) (result ≡ Err BadDelimiter)) (λ at. result ≡ Err (NotPrintable at))
    by (Some at) t = (Err (NotPrintable at), refl)
    by None true = rest_splits delim rest
    by None false = (Err BadDelimiter, refl)

light_or_heavy : (n : ℕ) → (n ≤ 512) ⊎ (512 < n)
light_or_heavy n = grind arith

-- well formed, or with a fault
abbrev HasVerdict : List ℕ → Type 0
HasVerdict text = IsWellFormed text ⊎ ((fault : RegexpFault) × (fault ≢ Memory) × IsRegexpFault text fault)

module _ (text : List ℕ) (s : Subst) (split : Splits text (Ok s)) where
  with_tree : (t : Tree) → Reads s.ere t → weight t ≤ 512 → HasVerdict text
  with_tree t reads light = by (missing_from (groups t) false s.repl_at s.repl) refl
    where
      at : (place : Option ℕ) → missing_from (groups t) false s.repl_at s.repl ≡ place → IsFirstMissing t s place
      at place e = missing text s t (groups t) s.repl_at s.repl place split refl refl refl (sym e)

      by : (place : Option ℕ) → missing_from (groups t) false s.repl_at s.repl ≡ place → HasVerdict text
      by None e = inl (s, t, (record { splits = split; reads = reads; light = light }, at None e))
      by (Some place) e = inr (NoGroup place, (λ f. cc), (s, t, record { splits = split; reads = reads; light = light }, at (Some place) e))

  with_weight : (t : Tree) → Reads s.ere t → (weight t ≤ 512) ⊎ (512 < weight t) → HasVerdict text
  with_weight t reads (inl light) = with_tree t reads light
  with_weight t reads (inr heavy) =
      inr (Ere (TooHeavy (min (weight t) 1_000_000)), (λ f. cc), ((λ f. cc), s, split, (t, reads, heavy, refl)))

  with_split : ReadsOrBreaks s.ere → HasVerdict text
  with_split (inl (t, reads)) = with_weight t reads (light_or_heavy (weight t))
  with_split (inr (at, why, is)) = inr (Ere (Broken at why), (λ f. cc), ((λ f. cc), s, split, is))

pub formed_or_fault : FormedOrFault
formed_or_fault text = by (splits text)
  where
    by : (result : Result Subst SubstFault) × Splits text result → HasVerdict text
    by (Ok s, split) = with_split text s split (reads_or_breaks s.ere)
    by (Err fault, split) = inr (Split fault, (λ f. cc), split)

-- a well-formed text has an output, or no match
pub output_or_unmatched : OneIsBest → OutputOrUnmatched
output_or_unmatched law text aus (s, t, (tree, none)) = by (law s.fold aus t) (split_pieces text s tree.splits)
  where
    by : ((i j c : ℕ) × (a : Parses) × IsBestMatch s.fold aus t i j c a ×
        ((k l d : ℕ) (b : Parses) → IsBestMatch s.fold aus t k l d b → (k ≡ i) × (l ≡ j) × (d ≡ c) × (b ≡ a)))
        ⊎ ((i : ℕ) → i ≤ length aus → HasNoMatch s.fold aus t i)
        → (pieces : List Piece) × HasPieces s pieces → ((bytes : List ℕ) × IsOutput text aus bytes) ⊎ IsUnmatched text aus
    by (inl (i, j, c, a, best, only)) (pieces, has) = inl (
      expansion aus (spans_of t i j c a) pieces,
      (
        s,
        t,
        (tree, none),
        record { groups = spans_of t i j c a; pieces = pieces; best = (i, j, c, a, best, refl); spelt = has; given = refl },
      ),
    )
    by (inr never) p = inr (s, t, (tree, none), never)

-- an output, or none
pub output_or_none : HasOneTree → OneIsBest → OutputOrNone
output_or_none one law text aus = first (formed_or_fault text)
  where
    second : ((bytes : List ℕ) × IsOutput text aus bytes) ⊎ IsUnmatched text aus
        → ((bytes : List ℕ) × IsOutput text aus bytes) ⊎ ((bytes : List ℕ) → IsOutput text aus bytes → ⊥)
    second (inl output) = inl output
    second (inr unmatched) = inr (λ bytes h. no_output one text aus bytes unmatched h)

    broken : (fault : RegexpFault) → fault ≢ Memory → IsRegexpFault text fault → (bytes : List ℕ) → IsOutput text aus bytes → ⊥
    broken fault other is bytes (s, t, regexp, expands) = other (no_fault one text fault (s, t, regexp) is)

    first : HasVerdict text → ((bytes : List ℕ) × IsOutput text aus bytes) ⊎ ((bytes : List ℕ) → IsOutput text aus bytes → ⊥)
    first (inl formed) = second (output_or_unmatched law text aus formed)
    first (inr (fault, other, is)) = inr (broken fault other is)
