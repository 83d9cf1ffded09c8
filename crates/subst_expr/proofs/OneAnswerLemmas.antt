use Rattle.std.proofs.Common.{◌≡◌, ◌≢◌, unwrap_or, ℕ, ◌<◌, ◌≤◌, ◌⊎◌, inl, inr, Bool, List, length, Option, Some, None}
use Rattle.std.proofs.Common.{Result, Ok, Err, refl, sym, ap, ◌∙◌, subst, arith}
use Rattle.posix_ere.specs.Tree.{Tree}
use Rattle.posix_ere.specs.Parts.{groups, weight}
use Rattle.posix_ere.specs.Grammar.{Reads}
use Rattle.posix_ere.specs.Answers.{HasOneFault, HasOneTree, IsFaultOf}
use Rattle.posix_ere.specs.declared.why.EreFault.{EreFault}
use Rattle.submatch.specs.declared.spans.Span.{Span}
use Rattle.submatch.specs.Parses.{Parses, no_more, next}
use Rattle.submatch.specs.Best.{IsBestMatch, HasNoMatch, AreBestGroups}
use Rattle.submatch.specs.Groups.{groups_of, nine_spans}
use Rattle.submatch.specs.Laws.{OneIsBest}
use Rattle.subst_expr.specs.Split.{Splits}
use Rattle.subst_expr.specs.Replacement.{HasPieces, expansion, first_missing}
use Rattle.subst_expr.specs.Regexp.{IsFirstMissing}
use Rattle.subst_expr.specs.Laws.{OneFault, OneReading, WellFormedHasNoFault, OneOutput, UnmatchedHasNoOutput}
use Rattle.subst_expr.specs.declared.subst.Subst.{Subst}
use Rattle.subst_expr.specs.declared.subst.SubstFault.{SubstFault}
use Rattle.subst_expr.specs.declared.regexp.RegexpFault.TheVariants.{Split, Ere, NoGroup, Memory}
use Rattle.subst_expr.proofs.OneSplitLemmas.{ok_or, same_pieces, same_split}

-- a text has one split
one_split : (text : List ℕ) (s r : Subst) → Splits text (Ok s) → Splits text (Ok r) → s ≡ r
one_split text s r h k = ap (λ x. ok_or s x) (same_split text (Ok s) (Ok r) h k)

no_split : (text : List ℕ) (s : Subst) (fault : SubstFault) → Splits text (Ok s) → Splits text (Err fault) → ⊥
no_split text s fault h k = let x : Ok s ≡ Err fault = same_split text (Ok s) (Err fault) h k in cc

-- and one tree
pub one_reading : HasOneTree → OneReading
one_reading one text s r t u h k =
    let same : s ≡ r = one_split text s r h.splits k.splits in
    let P : Subst → Type 0 = λ x. Reads x.ere u in
    (same, one s.ere t u h.reads (subst P (sym same) k.reads))

too_heavy : (t u : Tree) → t ≡ u → weight t ≤ 512 → 512 < weight u → ⊥
too_heavy t u same light heavy =
    let P : Tree → Type 0 = λ x. weight x ≤ 512 in
    let less : weight u ≤ 512 = subst P same light in
    omega (arith, less, heavy)

not_none : (o : Option ℕ) (at : ℕ) → o ≡ None → o ≡ Some at → ⊥
not_none o at h k = let x : None ≡ Some at = sym h ∙ k in cc

-- the first missing group is one
one_missing : (s r : Subst) (t u : Tree) (o p : Option ℕ) → s ≡ r → t ≡ u → IsFirstMissing t s o → IsFirstMissing u r p → o ≡ p
one_missing s r t u o p split tree h k =
    let P : Subst → Type 0 = λ x. HasPieces x k.pieces in
    let pieces : h.pieces ≡ k.pieces = same_pieces s h.pieces k.pieces h.spelt (subst P (sym split) k.spelt) in
    h.found
    ∙ ap (λ x. first_missing (groups x) s.repl_at h.pieces) tree
    ∙ ap (λ x. first_missing (groups u) x.repl_at h.pieces) split
    ∙ ap (λ x. first_missing (groups u) r.repl_at x) pieces
    ∙ sym k.found

-- a well-formed text has no fault
pub no_fault : HasOneTree → WellFormedHasNoFault
no_fault one text (Split fault) (s, t, (tree, none)) h = absurd (no_split text s fault tree.splits h)
no_fault one text (Ere (EreFault.Broken at why)) (s, t, (tree, none)) (other, r, splits, (never, place, reason)) =
    let P : Subst → Type 0 = λ x. Reads x.ere t in
    absurd (never t (subst P (one_split text s r tree.splits splits) tree.reads))
no_fault one text (Ere (EreFault.TooHeavy told)) (s, t, (tree, none)) (other, r, splits, (u, reads, heavy, is)) =
    let P : Subst → Type 0 = λ x. Reads x.ere t in
    absurd (too_heavy t u (one r.ere t u (subst P (one_split text s r tree.splits splits) tree.reads) reads) tree.light heavy)
no_fault one text (Ere EreFault.Memory) w (other, r, splits, h) = absurd (other refl)
no_fault one text (NoGroup at) (s, t, (tree, none)) (r, u, others, some) =
    let same = one_reading one text s r t u tree others in
    absurd (not_none None at refl (one_missing s r t u None (Some at) same.0 same.1 none some))
no_fault one text Memory w h = refl

abbrev err_or : SubstFault → Result Subst SubstFault → SubstFault
err_or e (Ok r) = e
err_or e (Err f) = f

tree_or_fault : (w : List ℕ) (t : Tree) (fault : EreFault) → fault ≢ EreFault.Memory → Reads w t → weight t ≤ 512 → HasOneTree → IsFaultOf w fault → ⊥
tree_or_fault w t (EreFault.Broken at why) other reads light one (never, place, reason) = never t reads
tree_or_fault w t (EreFault.TooHeavy told) other reads light one (u, again, heavy, is) = too_heavy t u (one w t u reads again) light heavy
tree_or_fault w t EreFault.Memory other reads light one h = other refl

at_split : (text : List ℕ) (s r : Subst) (fault : EreFault) → Splits text (Ok s) → Splits text (Ok r) → IsFaultOf r.ere fault → IsFaultOf s.ere fault
at_split text s r fault h k is = let P : Subst → Type 0 = λ x. IsFaultOf x.ere fault in subst P (sym (one_split text s r h k)) is

-- a text has one fault at most
pub one_fault : HasOneTree → HasOneFault → OneFault
one_fault one law text (Split e) (Split f) x y h k = ap (λ r. Split (err_or e r)) (same_split text (Err e) (Err f) h k)
one_fault one law text (Split e) (Ere f) x y h (never, s, splits, k) = absurd (no_split text s e splits h)
one_fault one law text (Split e) (NoGroup at) x y h (s, t, tree, k) = absurd (no_split text s e tree.splits h)
one_fault one law text (Ere e) (Split f) x y (never, s, splits, h) k = absurd (no_split text s f splits k)
one_fault one law text (Ere e) (Ere f) x y (never, s, splits, h) (nor, r, again, k) =
    ap (λ z. Ere z) (law s.ere e f never nor h (at_split text s r f splits again k))
one_fault one law text (Ere e) (NoGroup at) x y (never, s, splits, h) (r, t, tree, k) =
    absurd (tree_or_fault r.ere t e never tree.reads tree.light one (at_split text r s e tree.splits splits h))
one_fault one law text (NoGroup at) (Split f) x y (s, t, tree, h) k = absurd (no_split text s f tree.splits k)
one_fault one law text (NoGroup at) (Ere f) x y (s, t, tree, h) (never, r, splits, k) =
    absurd (tree_or_fault s.ere t f never tree.reads tree.light one (at_split text s r f tree.splits splits k))
one_fault one law text (NoGroup at) (NoGroup place) x y (s, t, tree, h) (r, u, other, k) =
    let same = one_reading one text s r t u tree other in
    ap (λ o. NoGroup (unwrap_or o at)) (one_missing s r t u (Some at) (Some place) same.0 same.1 h k)
one_fault one law text Memory f x y h k = absurd (x refl)
one_fault one law text e Memory x y h k = absurd (y refl)

-- no best match begins where there is no match
no_best : (fold : Bool) (w : List ℕ) (t : Tree) (i j c : ℕ) (a : Parses) → IsBestMatch fold w t i j c a → ((k : ℕ) → k ≤ length w → HasNoMatch fold w t k) → ⊥
no_best fold w t i j c a best never = never i best.within (next j c a no_more) best.greatest.holds

abbrev pub spans_of : Tree → ℕ → ℕ → ℕ → Parses → List (Option Span)
spans_of t i j c a = nine_spans (groups_of t i j c a)

same_spans : (t : Tree) (i j c k l d : ℕ) (a b : Parses) → i ≡ k → j ≡ l → c ≡ d → a ≡ b → spans_of t i j c a ≡ spans_of t k l d b
same_spans t i j c k l d a b p q r s =
    ap (λ x. spans_of t x j c a) p ∙ ap (λ x. spans_of t k x c a) q ∙ ap (λ x. spans_of t k l x a) r ∙ ap (λ x. spans_of t k l d x) s

-- the groups of the best match are the same
one_best : OneIsBest → (fold : Bool) (w : List ℕ) (t : Tree) (g h : List (Option Span)) → AreBestGroups fold w t g → AreBestGroups fold w t h → g ≡ h
one_best law fold w t g h (i, j, c, a, best, is) (k, l, d, b, other, so) = by_law (law fold w t)
  where
    by_law : ((m n e : ℕ) × (x : Parses) × IsBestMatch fold w t m n e x ×
        ((k l d : ℕ) (b : Parses) → IsBestMatch fold w t k l d b → (k ≡ m) × (l ≡ n) × (d ≡ e) × (b ≡ x)))
        ⊎ ((i : ℕ) → i ≤ length w → HasNoMatch fold w t i) → g ≡ h
    by_law (inl (m, n, e, x, there, only)) =
        let first = only i j c a best in
        let second = only k l d b other in
        is ∙ same_spans t i j c m n e a x first.0 first.1 first.2 first.3
        ∙ sym (same_spans t k l d m n e b x second.0 second.1 second.2 second.3) ∙ sym so
    by_law (inr never) = absurd (no_best fold w t i j c a best never)

moved : (s r : Subst) (t u : Tree) (aus : List ℕ) (groups : List (Option Span)) → s ≡ r → t ≡ u
    → AreBestGroups r.fold aus u groups → AreBestGroups s.fold aus t groups
moved s r t u aus groups split tree best =
    let P : Subst → Type 0 = λ x. AreBestGroups x.fold aus t groups in
    let Q : Tree → Type 0 = λ x. AreBestGroups r.fold aus x groups in
    subst P (sym split) (subst Q (sym tree) best)

-- there is one output
pub one_output : HasOneTree → OneIsBest → OneOutput
one_output one law text aus bytes others (s, t, (tree, none), h) (r, u, (other, nor), k) =
    let same = one_reading one text s r t u tree other in
    let equal : h.groups ≡ k.groups = one_best law s.fold aus t h.groups k.groups h.best (moved s r t u aus k.groups same.0 same.1 k.best) in
    let P : Subst → Type 0 = λ x. HasPieces x k.pieces in
    let pieces : h.pieces ≡ k.pieces = same_pieces s h.pieces k.pieces h.spelt (subst P (sym same.0) k.spelt) in
    h.given ∙ ap (λ g. expansion aus g h.pieces) equal ∙ ap (λ x. expansion aus k.groups x) pieces ∙ sym k.given

best_there : (fold : Bool) (w : List ℕ) (t : Tree) (groups : List (Option Span)) → AreBestGroups fold w t groups
    → ((k : ℕ) → k ≤ length w → HasNoMatch fold w t k) → ⊥
best_there fold w t groups (i, j, c, a, best, is) never = no_best fold w t i j c a best never

-- and none without a match
pub no_output : HasOneTree → UnmatchedHasNoOutput
no_output one text aus bytes (s, t, (tree, none), never) (r, u, (other, nor), k) =
    let same = one_reading one text s r t u tree other in
    best_there s.fold aus t k.groups (moved s r t u aus k.groups same.0 same.1 k.best) never
