use Rattle.std.proofs.Common.{◌≡◌, ◌≢◌, inl, inr, ℕ, ◌+◌, ◌==◌, eqb-true, option_map, Bool, true, false, cond, List, []}
use Rattle.std.proofs.Common.{◌∷◌, ◌++◌, length, take, drop, Option, Some, None, refl, sym, ap, ◌∙◌, subst, arith}
use Rattle.std.proofs.lemmas.Bool.{eqb-false}
use Rattle.std.proofs.Math.Seq.{take-append_seam, drop-append-add}
use Rattle.subst_expr.specs.Pieces.{Piece, Plain, Pair, backslash, spelled, IsPart}
use Rattle.subst_expr.specs.Scans.{delimiter_from, halves}
use Rattle.subst_expr.specs.Split.{IsEnd}

-- bytes without a delimiter that divides
abbrev pub Ends : ℕ → List ℕ → Type 0
Ends delim bytes = (pieces : List Piece) × (end : List ℕ) × IsPart delim pieces × IsEnd end × (bytes ≡ spelled pieces ++ end)

-- bytes, beginning at one place, whose first delimiter that divides is at another
abbrev pub CutsAt : ℕ → ℕ → List ℕ → ℕ → Type 0
CutsAt delim at bytes place =
    (pieces : List Piece) × (rest : List ℕ) × IsPart delim pieces × (bytes ≡ spelled pieces ++ delim ∷ rest) × (place ≡ at + length (spelled pieces))

abbrev pub Cut : ℕ → ℕ → List ℕ → Option ℕ → Type 0
Cut delim at bytes None = Ends delim bytes
Cut delim at bytes (Some place) = CutsAt delim at bytes place

-- the same of the bytes after a backslash, the first of which belongs to it
abbrev pub CutEscaped : ℕ → ℕ → List ℕ → Option ℕ → Type 0
CutEscaped delim at [] place = place ≡ None
CutEscaped delim at (b ∷ rest) place = Cut delim (at + 1) rest place

cut_plain : (delim at b : ℕ) (rest : List ℕ) (place : Option ℕ) → b ≢ delim → b ≢ backslash → Cut delim (at + 1) rest place → Cut delim at (b ∷ rest) place
cut_plain delim at b rest None other plain (pieces, end, part, is_end, is) =
    (Plain b ∷ pieces, end, (other, plain, part), is_end, ap (λ t. b ∷ t) is)
cut_plain delim at b rest (Some place) other plain (pieces, back, part, is, at_place) =
    (Plain b ∷ pieces, back, (other, plain, part), ap (λ t. b ∷ t) is, omega (arith, at_place))

cut_pair : (delim at b : ℕ) (rest : List ℕ) (place : Option ℕ) → Cut delim (at + 1 + 1) rest place → Cut delim at (backslash ∷ b ∷ rest) place
cut_pair delim at b rest None (pieces, end, part, is_end, is) =
    (Pair b ∷ pieces, end, part, is_end, ap (λ t. backslash ∷ b ∷ t) is)
cut_pair delim at b rest (Some place) (pieces, back, part, is, at_place) =
    (Pair b ∷ pieces, back, part, ap (λ t. backslash ∷ b ∷ t) is, omega (arith, at_place))

cut_escaped : (delim at : ℕ) (rest : List ℕ) (place : Option ℕ) → CutEscaped delim (at + 1) rest place → Cut delim at (backslash ∷ rest) place
cut_escaped delim at [] place is =
    let P : Option ℕ → Type 0 = λ o. Cut delim at (backslash ∷ []) o in
    subst P (sym is) ([], backslash ∷ [], tt, inr refl, refl)
cut_escaped delim at (b ∷ rest) place cut = cut_pair delim at b rest place cut

cut_at : (delim at b : ℕ) (rest : List ℕ) (x y : Bool) → (b == delim) ≡ x → (b == backslash) ≡ y
    → Cut delim (at + 1) rest (delimiter_from delim false (at + 1) rest)
    → CutEscaped delim (at + 1) rest (delimiter_from delim true (at + 1) rest)
    → Cut delim at (b ∷ rest) (cond x (Some at) (delimiter_from delim y (at + 1) rest))
cut_at delim at b rest true y is pair cut escaped =
    ([], rest, tt, ap (λ c. c ∷ rest) (eqb-true b delim is), omega arith)
cut_at delim at b rest false true is pair cut escaped =
    let P : ℕ → Type 0 = λ c. Cut delim at (c ∷ rest) (delimiter_from delim true (at + 1) rest) in
    subst P (sym (eqb-true b backslash pair)) (cut_escaped delim at rest (delimiter_from delim true (at + 1) rest) escaped)
cut_at delim at b rest false false is pair cut escaped =
    cut_plain delim at b rest (delimiter_from delim false (at + 1) rest) (eqb-false b delim is) (eqb-false b backslash pair) cut

cuts : (delim at : ℕ) (bytes : List ℕ)
    → Cut delim at bytes (delimiter_from delim false at bytes)
    × CutEscaped delim at bytes (delimiter_from delim true at bytes)
cuts delim at [] = (([], [], tt, inl refl, refl), refl)
cuts delim at (b ∷ rest) =
    let more = cuts delim (at + 1) rest in
    (cut_at delim at b rest (b == delim) (b == backslash) refl refl more.0 more.1, more.0)

-- bytes before and after the first delimiter that divides, where there is one
abbrev pub AreHalves : ℕ → List ℕ → Option (List ℕ × List ℕ) → Type 0
AreHalves delim bytes None = Ends delim bytes
AreHalves delim bytes (Some parts) =
    (pieces : List Piece) × IsPart delim pieces × (parts.0 ≡ spelled pieces) × (bytes ≡ spelled pieces ++ delim ∷ parts.1)

halves_at : (delim : ℕ) (bytes : List ℕ) (place : Option ℕ) → Cut delim 0 bytes place
    → AreHalves delim bytes (option_map (λ at. (take at bytes, drop (at + 1) bytes)) place)
halves_at delim bytes None ends = ends
halves_at delim bytes (Some place) (pieces, rest, part, is, at_place) =
    let here : place ≡ length (spelled pieces) = omega (arith, at_place) in
    let front : take place bytes ≡ spelled pieces =
    ap (λ k. take k bytes) here ∙ ap (λ t. take (length (spelled pieces)) t) is ∙ take-append_seam (spelled pieces) (delim ∷ rest) in
    let back : drop (place + 1) bytes ≡ rest =
    ap (λ k. drop (k + 1) bytes) here ∙ ap (λ t. drop (length (spelled pieces) + 1) t) is ∙ drop-append-add (spelled pieces) (delim ∷ rest) 1 in
    (pieces, part, front, is ∙ ap (λ t. spelled pieces ++ delim ∷ t) (sym back))

-- the pass over the bytes finds the delimiter that divides
pub halves_divide : (delim : ℕ) (bytes : List ℕ) → AreHalves delim bytes (halves delim bytes)
halves_divide delim bytes = halves_at delim bytes (delimiter_from delim false 0 bytes) (cuts delim 0 bytes).0
