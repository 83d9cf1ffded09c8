use Rattle.std.proofs.Common.{◌≡◌, ℕ, List, ◌∷◌, ◌++◌, length, false, Some, None, Ok, Err, refl, ap, ◌∙◌, subst, nat_lt}
use Rattle.subst_expr.specs.Pieces.{Piece, spelled, IsPart, bad_escape}
use Rattle.subst_expr.specs.Scans.{halves, undone_from, split_at}
use Rattle.subst_expr.specs.Split.{Undivided, Halved, Whole, split_of, SplitsRest, fault_or, bad_flag, repl_place, flags_place}
use Rattle.subst_expr.specs.declared.subst.SubstFault.TheVariants.{MissingDelimiter, BadFlag, BadEscape}
use Rattle.subst_expr.proofs.CutLemmas.{Ends, AreHalves, halves_divide}
use Rattle.subst_expr.proofs.PieceLemmas.{bad_escape_spelled, undone_spelled}

-- the answer for the bytes of parts is that of the parts
whole_of : (delim : ℕ) (ere repl : List Piece) (flags : List ℕ) → IsPart delim ere → IsPart delim repl
    → split_at delim (spelled ere) (spelled repl) flags ≡ split_of delim (Whole ere repl flags)
whole_of delim ere repl flags ere_part repl_part =
    ap (λ o. fault_or (bad_flag (flags_place ere repl) flags) BadFlag (fault_or o BadEscape (Ok (record {
      ere = undone_from delim false (spelled ere);
      repl = spelled repl;
      repl_at = repl_place ere;
      delim = delim;
      fold = nat_lt 0 (length flags);
    })))) (bad_escape_spelled delim (repl_place ere) repl repl_part)
    ∙ ap (λ e. fault_or (bad_flag (flags_place ere repl) flags) BadFlag (fault_or (bad_escape delim (repl_place ere) repl) BadEscape (Ok (record {
      ere = e;
      repl = spelled repl;
      repl_at = repl_place ere;
      delim = delim;
      fold = nat_lt 0 (length flags);
    })))) (undone_spelled delim ere ere_part)

one_of : (delim : ℕ) (rest : List ℕ) → Ends delim rest → SplitsRest delim rest (Err (MissingDelimiter 1))
one_of delim rest (pieces, end, part, is_end, is) = (Undivided pieces end, (part, is_end, is), refl)

-- no further delimiter
pub split_one : (delim : ℕ) (rest : List ℕ) → halves delim rest ≡ None → SplitsRest delim rest (Err (MissingDelimiter 1))
split_one delim rest none = one_of delim rest (subst (AreHalves delim rest) none (halves_divide delim rest))

two_of : (delim : ℕ) (rest ere tail : List ℕ) → AreHalves delim rest (Some (ere, tail)) → Ends delim tail → SplitsRest delim rest (Err (MissingDelimiter 2))
two_of delim rest ere tail (front, part, spelt, all) (pieces, end, after, is_end, is) =
    (Halved front pieces end, (part, after, is_end, all ∙ ap (λ t. spelled front ++ delim ∷ t) is), refl)

-- one further delimiter
pub split_two : (delim : ℕ) (rest ere tail : List ℕ) → halves delim rest ≡ Some (ere, tail) → halves delim tail ≡ None
    → SplitsRest delim rest (Err (MissingDelimiter 2))
split_two delim rest ere tail first second =
    two_of delim rest ere tail (subst (AreHalves delim rest) first (halves_divide delim rest)) (subst (AreHalves delim tail) second (halves_divide delim tail))

three_of : (delim : ℕ) (rest ere tail repl flags : List ℕ) → AreHalves delim rest (Some (ere, tail))
    → AreHalves delim tail (Some (repl, flags)) → SplitsRest delim rest (split_at delim ere repl flags)
three_of delim rest ere tail repl flags (front, part, spelt, all) (middle, after, written, is) = (
  Whole front middle flags,
  (part, after, all ∙ ap (λ t. spelled front ++ delim ∷ t) is),
  ap (λ e. split_at delim e repl flags) spelt
      ∙ ap (λ r. split_at delim (spelled front) r flags) written
      ∙ whole_of delim front middle flags part after,
)

-- two further delimiters
pub split_three : (delim : ℕ) (rest ere tail repl flags : List ℕ) → halves delim rest ≡ Some (ere, tail)
    → halves delim tail ≡ Some (repl, flags) → SplitsRest delim rest (split_at delim ere repl flags)
split_three delim rest ere tail repl flags first second =
    three_of delim rest ere tail repl flags (subst (AreHalves delim rest) first (halves_divide delim rest))
    (subst (AreHalves delim tail) second (halves_divide delim tail))
