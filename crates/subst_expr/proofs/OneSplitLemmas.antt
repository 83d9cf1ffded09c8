use Rattle.std.proofs.Common.{◌≡◌, ◌≢◌, ◌⊎◌, inl, inr, ℕ, not, Bool, true, false, List, [], ◌∷◌, ◌++◌, position, Option}
use Rattle.std.proofs.Common.{Some, None, Result, Ok, Err, MatchOption, MatchBool, refl, sym, ap, ◌∙◌, subst, get_or}
use Rattle.std.proofs.Common.{drop}
use Rattle.subst_expr.specs.Pieces.{Piece, Plain, Pair, backslash, spelled, IsPart, is_delimiter, is_printable, bad_escape}
use Rattle.subst_expr.specs.Replacement.{HasPieces}
use Rattle.subst_expr.specs.Split.{Division, Undivided, Halved, Whole, Divides, IsEnd, split_of, SplitsRest, Splits}
use Rattle.subst_expr.specs.Split.{fault_or, bad_flag, repl_place, flags_place}
use Rattle.subst_expr.specs.declared.subst.Subst.{Subst}
use Rattle.subst_expr.specs.declared.subst.SubstFault.{SubstFault}
use Rattle.subst_expr.specs.declared.subst.SubstFault.TheVariants.{NotPrintable, BadDelimiter, BadFlag, BadEscape}

-- a split, where there is one
abbrev pub ok_or : Subst → Result Subst SubstFault → Subst
ok_or s (Ok r) = r
ok_or s (Err fault) = s

first_of_list : (a b : ℕ) (x y : List ℕ) → a ∷ x ≡ b ∷ y → a ≡ b
first_of_list a b x y e = ap (λ l. get_or l 0 0) e

rest_of : (a b : ℕ) (x y : List ℕ) → a ∷ x ≡ b ∷ y → x ≡ y
rest_of a b x y e = ap (λ l. drop 1 l) e

-- where a part stops: at the end, or at a delimiter
abbrev pub Stops : ℕ → List ℕ → Type 0
Stops delim rest = IsEnd rest ⊎ ((more : List ℕ) × (rest ≡ delim ∷ more))

-- a part does not stop at a byte that stands for itself
not_plain : (delim b : ℕ) (rest more : List ℕ) → b ≢ delim → b ≢ backslash → Stops delim rest → rest ≡ b ∷ more → ⊥
not_plain delim b rest more other plain (inl (inl none)) is = let x : [] ≡ b ∷ more = sym none ∙ is in cc
not_plain delim b rest more other plain (inl (inr lone)) is = plain (sym (first_of_list backslash b [] more (sym lone ∙ is)))
not_plain delim b rest more other plain (inr (back, stop)) is = other (sym (first_of_list delim b back more (sym stop ∙ is)))

-- nor at a pair
not_pair : (delim b : ℕ) (rest more : List ℕ) → delim ≢ backslash → Stops delim rest → rest ≡ backslash ∷ b ∷ more → ⊥
not_pair delim b rest more ne (inl (inl none)) is = let x : [] ≡ backslash ∷ b ∷ more = sym none ∙ is in cc
not_pair delim b rest more ne (inl (inr lone)) is = let x : [] ≡ b ∷ more = rest_of backslash backslash [] (b ∷ more) (sym lone ∙ is) in cc
not_pair delim b rest more ne (inr (back, stop)) is = ne (first_of_list delim backslash back (b ∷ more) (sym stop ∙ is))

-- an end does not begin with a delimiter
not_end : (delim : ℕ) (rest more : List ℕ) → delim ≢ backslash → IsEnd rest → rest ≡ delim ∷ more → ⊥
not_end delim rest more ne (inl none) is = let x : [] ≡ delim ∷ more = sym none ∙ is in cc
not_end delim rest more ne (inr lone) is = ne (sym (first_of_list backslash delim [] more (sym lone ∙ is)))

-- two ways to cut the same bytes are one
same_cut : (delim : ℕ) → delim ≢ backslash → (ps qs : List Piece) (s t : List ℕ) → IsPart delim ps → IsPart delim qs
    → Stops delim s → Stops delim t → spelled ps ++ s ≡ spelled qs ++ t → (ps ≡ qs) × (s ≡ t)
same_cut delim ne [] [] s t p q u v e = (refl, e)
same_cut delim ne [] (Plain b ∷ qs) s t p q u v e = absurd (not_plain delim b s (spelled qs ++ t) q.0 q.1 u e)
same_cut delim ne [] (Pair b ∷ qs) s t p q u v e = absurd (not_pair delim b s (spelled qs ++ t) ne u e)
same_cut delim ne (Plain a ∷ ps) [] s t p q u v e = absurd (not_plain delim a t (spelled ps ++ s) p.0 p.1 v (sym e))
same_cut delim ne (Pair a ∷ ps) [] s t p q u v e = absurd (not_pair delim a t (spelled ps ++ s) ne v (sym e))
same_cut delim ne (Plain a ∷ ps) (Plain b ∷ qs) s t p q u v e =
    let more = same_cut delim ne ps qs s t p.2 q.2 u v (rest_of a b (spelled ps ++ s) (spelled qs ++ t) e) in
    (ap (λ c. Plain c ∷ ps) (first_of_list a b (spelled ps ++ s) (spelled qs ++ t) e) ∙ ap (λ r. Plain b ∷ r) more.0, more.1)
same_cut delim ne (Plain a ∷ ps) (Pair b ∷ qs) s t p q u v e =
    absurd (p.1 (first_of_list a backslash (spelled ps ++ s) (b ∷ (spelled qs ++ t)) e))
same_cut delim ne (Pair a ∷ ps) (Plain b ∷ qs) s t p q u v e =
    absurd (q.1 (sym (first_of_list backslash b (a ∷ (spelled ps ++ s)) (spelled qs ++ t) e)))
same_cut delim ne (Pair a ∷ ps) (Pair b ∷ qs) s t p q u v e =
    let d : a ∷ (spelled ps ++ s) ≡ b ∷ (spelled qs ++ t) = rest_of backslash backslash (a ∷ (spelled ps ++ s)) (b ∷ (spelled qs ++ t)) e in
    let more = same_cut delim ne ps qs s t p q u v (rest_of a b (spelled ps ++ s) (spelled qs ++ t) d) in
    (ap (λ c. Pair c ∷ ps) (first_of_list a b (spelled ps ++ s) (spelled qs ++ t) d) ∙ ap (λ r. Pair b ∷ r) more.0, more.1)

-- a part and a delimiter after it, in two ways
same_front : (delim : ℕ) → delim ≢ backslash → (ps qs : List Piece) (s t : List ℕ) → IsPart delim ps → IsPart delim qs
    → spelled ps ++ delim ∷ s ≡ spelled qs ++ delim ∷ t → (ps ≡ qs) × (s ≡ t)
same_front delim ne ps qs s t p q e =
    let both = same_cut delim ne ps qs (delim ∷ s) (delim ∷ t) p q (inr (s, refl)) (inr (t, refl)) e in
    (both.0, rest_of delim delim s t both.1)

-- a part with an end after it has no delimiter
no_front : (delim : ℕ) → delim ≢ backslash → (ps qs : List Piece) (s t : List ℕ) → IsPart delim ps → IsPart delim qs
    → IsEnd s → spelled ps ++ s ≡ spelled qs ++ delim ∷ t → ⊥
no_front delim ne ps qs s t p q end e =
    not_end delim s t ne end (same_cut delim ne ps qs s (delim ∷ t) p q (inl end) (inr (t, refl)) e).1

-- bytes are divided in one way
same_division : (delim : ℕ) → delim ≢ backslash → (bytes : List ℕ) (d e : Division) → Divides delim bytes d → Divides delim bytes e → d ≡ e
same_division delim ne bytes (Undivided a s) (Undivided b t) d e =
    let both = same_cut delim ne a b s t d.0 e.0 (inl d.1) (inl e.1) (sym d.2 ∙ e.2) in
    ap (λ x. Undivided x s) both.0 ∙ ap (λ x. Undivided b x) both.1
same_division delim ne bytes (Undivided a s) (Halved b c t) d e = absurd (no_front delim ne a b s (spelled c ++ t) d.0 e.0 d.1 (sym d.2 ∙ e.3))
same_division delim ne bytes (Undivided a s) (Whole b c t) d e = absurd (no_front delim ne a b s (spelled c ++ delim ∷ t) d.0 e.0 d.1 (sym d.2 ∙ e.2))
same_division delim ne bytes (Halved b c t) (Undivided a s) d e = absurd (no_front delim ne a b s (spelled c ++ t) e.0 d.0 e.1 (sym e.2 ∙ d.3))
same_division delim ne bytes (Whole b c t) (Undivided a s) d e = absurd (no_front delim ne a b s (spelled c ++ delim ∷ t) e.0 d.0 e.1 (sym e.2 ∙ d.2))
same_division delim ne bytes (Halved a b s) (Halved f g t) d e =
    let front = same_front delim ne a f (spelled b ++ s) (spelled g ++ t) d.0 e.0 (sym d.3 ∙ e.3) in
    let both = same_cut delim ne b g s t d.1 e.1 (inl d.2) (inl e.2) front.1 in
    ap (λ x. Halved x b s) front.0 ∙ ap (λ x. Halved f x s) both.0 ∙ ap (λ x. Halved f g x) both.1
same_division delim ne bytes (Halved a b s) (Whole f g t) d e =
    let front = same_front delim ne a f (spelled b ++ s) (spelled g ++ delim ∷ t) d.0 e.0 (sym d.3 ∙ e.2) in
    absurd (no_front delim ne b g s t d.1 e.1 d.2 front.1)
same_division delim ne bytes (Whole f g t) (Halved a b s) d e =
    let front = same_front delim ne a f (spelled b ++ s) (spelled g ++ delim ∷ t) e.0 d.0 (sym e.3 ∙ d.2) in
    absurd (no_front delim ne b g s t e.1 d.1 e.2 front.1)
same_division delim ne bytes (Whole a b s) (Whole f g t) d e =
    let front = same_front delim ne a f (spelled b ++ delim ∷ s) (spelled g ++ delim ∷ t) d.0 e.0 (sym d.2 ∙ e.2) in
    let both = same_front delim ne b g s t d.1 e.1 front.1 in
    ap (λ x. Whole x b s) front.0 ∙ ap (λ x. Whole f x s) both.0 ∙ ap (λ x. Whole f g x) both.1

no_backslash : (delim : ℕ) → is_delimiter delim ≡ true → delim ≢ backslash
no_backslash delim is e = let x : false ≡ true = sym (ap is_delimiter e) ∙ is in cc

same_rest : (delim : ℕ) → delim ≢ backslash → (rest : List ℕ) (r s : Result Subst SubstFault) → SplitsRest delim rest r → SplitsRest delim rest s → r ≡ s
same_rest delim ne rest r s (d, p, is) (e, q, so) = is ∙ ap (λ x. split_of delim x) (same_division delim ne rest d e p q) ∙ sym so

same_delimited : (delim : ℕ) (rest : List ℕ) (x : Bool) → is_delimiter delim ≡ x → (r s : Result Subst SubstFault)
    → MatchBool x (SplitsRest delim rest r) (r ≡ Err BadDelimiter)
    → MatchBool x (SplitsRest delim rest s) (s ≡ Err BadDelimiter) → r ≡ s
same_delimited delim rest true is r s h k = same_rest delim (no_backslash delim is) rest r s h k
same_delimited delim rest false is r s h k = h ∙ sym k

same_printed : (delim : ℕ) (rest : List ℕ) (o : Option ℕ) (r s : Result Subst SubstFault)
    → MatchOption o (MatchBool (is_delimiter delim) (SplitsRest delim rest r) (r ≡ Err BadDelimiter))
    (λ at. r ≡ Err (NotPrintable at))
    → MatchOption o (MatchBool (is_delimiter delim) (SplitsRest delim rest s) (s ≡ Err BadDelimiter))
    (λ at. s ≡ Err (NotPrintable at)) → r ≡ s
same_printed delim rest None r s h k = same_delimited delim rest (is_delimiter delim) refl r s h k
same_printed delim rest (Some at) r s h k = h ∙ sym k

-- a text has one answer
pub same_split : (text : List ℕ) (r s : Result Subst SubstFault) → Splits text r → Splits text s → r ≡ s
same_split [] r s h k = h ∙ sym k
same_split (delim ∷ rest) r s h k = same_printed delim rest (position (λ b. not (is_printable b)) (delim ∷ rest)) r s h k

-- bytes are written with one list of pieces
same_spelled : (delim : ℕ) (ps qs : List Piece) → IsPart delim ps → IsPart delim qs → spelled ps ≡ spelled qs → ps ≡ qs
same_spelled delim [] [] p q e = refl
same_spelled delim [] (Plain b ∷ qs) p q e = absurd (cc e)
same_spelled delim [] (Pair b ∷ qs) p q e = absurd (cc e)
same_spelled delim (Plain a ∷ ps) [] p q e = absurd (cc e)
same_spelled delim (Pair a ∷ ps) [] p q e = absurd (cc e)
same_spelled delim (Plain a ∷ ps) (Plain b ∷ qs) p q e =
    ap (λ c. Plain c ∷ ps) (first_of_list a b (spelled ps) (spelled qs) e)
    ∙ ap (λ r. Plain b ∷ r) (same_spelled delim ps qs p.2 q.2 (rest_of a b (spelled ps) (spelled qs) e))
same_spelled delim (Plain a ∷ ps) (Pair b ∷ qs) p q e = absurd (p.1 (first_of_list a backslash (spelled ps) (b ∷ spelled qs) e))
same_spelled delim (Pair a ∷ ps) (Plain b ∷ qs) p q e = absurd (q.1 (sym (first_of_list backslash b (a ∷ spelled ps) (spelled qs) e)))
same_spelled delim (Pair a ∷ ps) (Pair b ∷ qs) p q e =
    let d : a ∷ spelled ps ≡ b ∷ spelled qs = rest_of backslash backslash (a ∷ spelled ps) (b ∷ spelled qs) e in
    ap (λ c. Pair c ∷ ps) (first_of_list a b (spelled ps) (spelled qs) d)
    ∙ ap (λ r. Pair b ∷ r) (same_spelled delim ps qs p q (rest_of a b (spelled ps) (spelled qs) d))

-- and so is a replacement
pub same_pieces : (s : Subst) (ps qs : List Piece) → HasPieces s ps → HasPieces s qs → ps ≡ qs
same_pieces s ps qs h k = same_spelled s.delim ps qs h.part k.part (sym h.spelt ∙ k.spelt)

no_fault_or : (o : Option ℕ) (fault : ℕ → SubstFault) (s : Subst) (answer : Result Subst SubstFault) → Ok s ≡ fault_or o fault answer → Ok s ≡ answer
no_fault_or None fault s answer e = e
no_fault_or (Some at) fault s answer e = absurd (cc e)

whole_pieces : (delim : ℕ) (ere repl : List Piece) (flags : List ℕ) (s : Subst) → IsPart delim repl
    → Ok s ≡ split_of delim (Whole ere repl flags) → HasPieces s repl
whole_pieces delim ere repl flags s part e =
    let is = no_fault_or (bad_escape delim (repl_place ere) repl) BadEscape s _ (no_fault_or (bad_flag (flags_place ere repl) flags) BadFlag s _ e) in
    record {
      part = let P : ℕ → Type 0 = λ d. IsPart d repl in subst P (sym (ap (λ r. (ok_or s r).delim) is)) part;
      spelt = ap (λ r. (ok_or s r).repl) is;
    }

rest_pieces : (delim : ℕ) (rest : List ℕ) (s : Subst) (d : Division) → Divides delim rest d → Ok s ≡ split_of delim d
    → (pieces : List Piece) × HasPieces s pieces
rest_pieces delim rest s (Undivided ere end) d e = absurd (cc e)
rest_pieces delim rest s (Halved ere repl end) d e = absurd (cc e)
rest_pieces delim rest s (Whole ere repl flags) d e = (repl, whole_pieces delim ere repl flags s d.1 e)

delimited_pieces : (delim : ℕ) (rest : List ℕ) (x : Bool) (s : Subst)
    → MatchBool x (SplitsRest delim rest (Ok s)) (Ok s ≡ Err BadDelimiter) → (pieces : List Piece) × HasPieces s pieces
delimited_pieces delim rest true s (d, divides, is) = rest_pieces delim rest s d divides is
delimited_pieces delim rest false s e = absurd (cc e)

printed_pieces : (delim : ℕ) (rest : List ℕ) (o : Option ℕ) (s : Subst)
    → MatchOption o (MatchBool (is_delimiter delim) (SplitsRest delim rest (Ok s)) (Ok s ≡ Err BadDelimiter))
    (λ at. Ok s ≡ Err (NotPrintable at)) → (pieces : List Piece) × HasPieces s pieces
printed_pieces delim rest None s h = delimited_pieces delim rest (is_delimiter delim) s h
printed_pieces delim rest (Some at) s e = absurd (cc e)

-- the replacement of a split is written with pieces
pub split_pieces : (text : List ℕ) (s : Subst) → Splits text (Ok s) → (pieces : List Piece) × HasPieces s pieces
split_pieces [] s e = absurd (cc e)
split_pieces (delim ∷ rest) s h = printed_pieces delim rest (position (λ b. not (is_printable b)) (delim ∷ rest)) s h

-- and so have bytes that equal it
pub same_split_of : (text bytes : List ℕ) (r s : Result Subst SubstFault) → bytes ≡ text → Splits bytes r → Splits text s → r ≡ s
same_split_of text bytes r s is h k = same_split text r s (let P : List ℕ → Type 0 = λ t. Splits t r in subst P is h) k
