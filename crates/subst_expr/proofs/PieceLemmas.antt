use Rattle.std.proofs.Common.{◌≡◌, ℕ, ◌+◌, ◌-◌, ◌==◌, ◌&&◌, nat_lt, eqb-true, ne_eqb, Bool, true, false, cond, List, []}
use Rattle.std.proofs.Common.{◌∷◌, ◌++◌, Option, Some, refl, ap, ◌∙◌, arith}
use Rattle.subst_expr.specs.Pieces.{Piece, Plain, Pair, backslash, spelled, undone, IsPart, is_escape, bad_escape}
use Rattle.submatch.specs.declared.spans.Span.{Span}
use Rattle.subst_expr.specs.Replacement.{expansion, first_missing, is_group_digit, pair_given}
use Rattle.subst_expr.specs.Scans.{bad_escape_from, expansion_from, missing_from, undone_from}

-- the pass over the bytes of a part finds its first bad escape
pub bad_escape_spelled : (delim at : ℕ) (pieces : List Piece) → IsPart delim pieces
    → bad_escape_from delim false at (spelled pieces) ≡ bad_escape delim at pieces
bad_escape_spelled delim at [] part = refl
bad_escape_spelled delim at (Plain b ∷ pieces) part =
    ap (λ e. bad_escape_from delim e (at + 1) (spelled pieces)) (ne_eqb b backslash part.1)
    ∙ bad_escape_spelled delim (at + 1) pieces part.2
bad_escape_spelled delim at (Pair b ∷ pieces) part =
    let two : at + 1 + 1 ≡ at + 2 = omega arith in
    let back : at + 1 - 1 ≡ at = omega arith in
    ap (λ k. cond (is_escape delim b) (bad_escape_from delim false k (spelled pieces)) (Some (at + 1 - 1))) two
    ∙ ap (λ k. cond (is_escape delim b) (bad_escape_from delim false (at + 2) (spelled pieces)) (Some k)) back
    ∙ ap (λ o. cond (is_escape delim b) o (Some at)) (bad_escape_spelled delim (at + 2) pieces part)

undone_pair : (delim b : ℕ) (rest more : List ℕ) (x : Bool) → (b == delim) ≡ x → rest ≡ more
    → cond x (b ∷ rest) (backslash ∷ b ∷ rest) ≡ cond x (delim ∷ []) (backslash ∷ b ∷ []) ++ more
undone_pair delim b rest more true is same = ap (λ c. c ∷ rest) (eqb-true b delim is) ∙ ap (λ t. delim ∷ t) same
undone_pair delim b rest more false is same = ap (λ t. backslash ∷ b ∷ t) same

-- the pass over the bytes of a part undoes its escaped delimiters
pub undone_spelled : (delim : ℕ) (pieces : List Piece) → IsPart delim pieces → undone_from delim false (spelled pieces) ≡ undone delim pieces
undone_spelled delim [] part = refl
undone_spelled delim (Plain b ∷ pieces) part =
    ap (λ e. cond e (undone_from delim true (spelled pieces)) (b ∷ undone_from delim false (spelled pieces))) (ne_eqb b backslash part.1)
    ∙ ap (λ t. b ∷ t) (undone_spelled delim pieces part.2)
undone_spelled delim (Pair b ∷ pieces) part =
    undone_pair delim b (undone_from delim false (spelled pieces)) (undone delim pieces) (b == delim) refl (undone_spelled delim pieces part)

-- the pass over the bytes of a part finds its first back reference past the last group
pub missing_spelled : (delim groups at : ℕ) (pieces : List Piece) → IsPart delim pieces
    → missing_from groups false at (spelled pieces) ≡ first_missing groups at pieces
missing_spelled delim groups at [] part = refl
missing_spelled delim groups at (Plain b ∷ pieces) part =
    ap (λ e. missing_from groups e (at + 1) (spelled pieces)) (ne_eqb b backslash part.1)
    ∙ missing_spelled delim groups (at + 1) pieces part.2
missing_spelled delim groups at (Pair b ∷ pieces) part =
    let two : at + 1 + 1 ≡ at + 2 = omega arith in
    let back : at + 1 - 1 ≡ at = omega arith in
    let past : Bool = is_group_digit b && nat_lt groups (b - 48) in
    ap (λ k. cond past (Some (at + 1 - 1)) (missing_from groups false k (spelled pieces))) two
    ∙ ap (λ k. cond past (Some k) (missing_from groups false (at + 2) (spelled pieces))) back
    ∙ ap (λ o. cond past (Some at) o) (missing_spelled delim groups (at + 2) pieces part)

-- and expands to what its pieces give
pub expansion_spelled : (delim : ℕ) (aus : List ℕ) (groups : List (Option Span)) (pieces : List Piece)
    → IsPart delim pieces → expansion_from aus groups false (spelled pieces) ≡ expansion aus groups pieces
expansion_spelled delim aus groups [] part = refl
expansion_spelled delim aus groups (Plain b ∷ pieces) part =
    ap (λ e. cond e (expansion_from aus groups true (spelled pieces)) (b ∷ expansion_from aus groups false (spelled pieces))) (ne_eqb b backslash part.1)
    ∙ ap (λ t. b ∷ t) (expansion_spelled delim aus groups pieces part.2)
expansion_spelled delim aus groups (Pair b ∷ pieces) part =
    ap (λ t. pair_given aus groups b ++ t) (expansion_spelled delim aus groups pieces part)
