-- What the cells tell of the trees.
use Rattle.std.proofs.Common.{ℕ, zero, suc, ◌≡◌, ◌+◌, ◌-◌, ◌<◌, ◌≤◌, min, Bool, true, false, cond, List, [], ◌∷◌, ◌++◌}
use Rattle.std.proofs.Common.{length, get_or, take, drop, refl, sym, ◌∙◌, ap, subst, arith, ◌^◌, ◌⊎◌, inl, inr}
use Rattle.std.specs.Prelude.{filter, Contains}
use Rattle.std.proofs.lemmas.List.{length-take-le, length-drop}
use Rattle.std.proofs.Math.Seq.{take-length}
use Rattle.std.proofs.Common.{get_or-take}
use Rattle.posix_ere.specs.Tree.{Tree, Trees}
use Rattle.posix_ere.specs.Tree.Tree.{branch}
use Rattle.posix_ere.specs.Tree.Trees.{none, more}
use Rattle.posix_ere.specs.Parts.{part, parts_of, count_of, weight, weights, groups as groups_of, weight as weight_of}
use Rattle.posix_ere.specs.Bracket.{counted_from, ascii}
use Rattle.posix_ere.specs.Nodes.{node_of, tree_at, whole, IsSet, listed_of}
use Rattle.posix_ere.specs.Cells.{tree_of, listed_by, gather, made, put, stack_from, stack_of, trees_from, trees_of}
use Rattle.posix_ere.specs.Cells.{FitsNode, most, capped, total, Settled, AreCells, Walked, IsExpressionOf}
use Rattle.posix_ere.specs.Machine.{top_of}
use Rattle.posix_ere.specs.declared.node.Node.{Node}
use Rattle.posix_ere.specs.declared.node.Node.TheVariants as n
use Rattle.posix_ere.specs.declared.cell.Cell.{Cell}
use Rattle.posix_ere.proofs.CellLemmas.{trees_from-at, length-trees_from, node_of-made, parts_of-made, count_of-gather}
use Rattle.posix_ere.proofs.CellLemmas.{weights-gather, weighs_capped, stack_from-append, cells_more, walked_more}

module _ (xs cells : List Cell) (k : ℕ) (d : Cell) (e : xs ≡ cells) (i : d ≡ get_or xs k d) (l : k < length cells) where
  pub made_at : tree_at (trees_of cells) k ≡ made d.node d.marks d.count (stack_of (take k cells))
  made_at =
      let here : d ≡ get_or cells k d = i ∙ ap (λ ys. get_or ys k d) e in
      let P : Cell → Type 0 = λ c. tree_at (trees_of cells) k ≡ made c.node c.marks c.count (stack_of (take k cells)) in
      subst P (sym here) (trees_from-at [] cells k (branch none) d l)

  pub settled_at : AreCells xs → Settled (take k cells) d
  settled_at a =
      let here : d ≡ get_or cells k d = i ∙ ap (λ ys. get_or ys k d) e in
      let b : AreCells cells = subst AreCells e a in
      subst (λ c. Settled (take k cells) c) (sym here) (b k d l)

  pub node_told : d.node ≡ node_of (tree_at (trees_of cells) k)
  node_told = sym (ap node_of made_at ∙ node_of-made d.node d.marks _)

  parts_count : AreCells xs → count_of (gather (take d.count (stack_of (take k cells))) none) ≡ d.count
  parts_count a =
      let s = settled_at a in
      omega (arith, count_of-gather (take d.count (stack_of (take k cells))) none, length-take-le d.count (stack_of (take k cells)) s.enough)

  pub parts_told : AreCells xs → parts_of (tree_at (trees_of cells) k) ≡ gather (take d.count (stack_of (take k cells))) none
  parts_told a =
      let f : FitsNode d.node (count_of (gather (take d.count (stack_of (take k cells))) none)) =
      subst (FitsNode d.node) (sym (parts_count a)) (settled_at a).fits in
      ap parts_of made_at ∙ parts_of-made d.node d.marks _ f

  pub children_told : AreCells xs → d.count ≡ count_of (parts_of (tree_at (trees_of cells) k))
  children_told a = sym (ap count_of (parts_told a) ∙ parts_count a)

  pub weight_told : AreCells xs → d.weight ≡ min (weight (tree_at (trees_of cells) k)) most
  weight_told a = (settled_at a).weighs ∙ ap (λ t. min (weight t) most) (sym made_at)

part-gather_after : (xs : List Tree) (ts : Trees) (i j : ℕ) → j ≡ length xs + i → part (gather xs ts) j ≡ part ts i
part-gather_after [] ts i j h = let e : j ≡ i = omega arith in rw e refl
part-gather_after (x ∷ xs) ts i j h = part-gather_after xs (more x ts) (suc i) j (omega arith)

pub part-gather : (xs : List Tree) (ts : Trees) (b j : ℕ) (d : Tree) → j + b + 1 ≡ length xs → part (gather xs ts) j ≡ get_or xs b d
part-gather [] ts b j d h = absurd (omega arith)
part-gather (x ∷ xs) ts zero j d h = part-gather_after xs (more x ts) 0 j (omega arith)
part-gather (x ∷ xs) ts (suc b) j d h = part-gather xs (more x ts) b j d (omega arith)

pub record Child (cells : List Cell) (at k start : ℕ) : Type 0 where
  pub some : 0 < start
  pub lesser : start - 1 < at
  pub part : tree_at (trees_of cells) (start - 1) ≡ part (parts_of (tree_at (trees_of cells) at)) k

pub child_told : (xs cells : List Cell) (at : ℕ) (d : Cell) (e : xs ≡ cells) (i : d ≡ get_or xs at d) (l : at < length cells)
    (a : AreCells xs) (k start weight : ℕ) → k < d.count → Walked cells start at (d.count - 1 - k) weight → Child cells at k start
child_told xs cells at d e i l a k start weight h w =
    let s = settled_at xs cells at d e i l a in
    let b : AreCells cells = subst AreCells e a in
    let stk = stack_of (take at cells) in
    let back : d.count - 1 - k < length stk = omega (arith, s.enough) in
    let p = walked_more cells start at (d.count - 1 - k) weight d b (omega arith) w back in
    let len : length (take d.count stk) ≡ d.count = length-take-le d.count stk s.enough in
    let less : d.count - 1 - k < d.count = omega arith in
    let q : get_or (take d.count stk) (d.count - 1 - k) (branch none) ≡ get_or stk (d.count - 1 - k) (branch none) = rw get_or-take refl in
    record {
      some = p.some;
      lesser = omega (arith, p.some, w.within);
      part = p.tree (branch none) ∙ sym q
          ∙ sym (part-gather (take d.count stk) none (d.count - 1 - k) k (branch none) (omega (arith, len)))
          ∙ ap (λ ts. part ts k) (sym (parts_told xs cells at d e i l a));
    }

-- the bytes of a bracket
pub set_listed : (node : Node) (marks : List Bool) (ts : Trees) → IsSet (tree_of node marks ts) → listed_of (tree_of node marks ts) ≡ listed_by marks
set_listed n.Alt marks ts h = absurd h
set_listed n.Branch marks ts h = absurd h
set_listed (n.Byte b) marks ts h = absurd h
set_listed n.Any marks ts h = absurd h
set_listed (n.Set b) marks ts h = refl
set_listed n.Start marks ts h = absurd h
set_listed n.End marks ts h = absurd h
set_listed (n.Group g) marks ts h = absurd h
set_listed (n.Rep m upto) marks ts h = absurd h

pub Contains-cons : (x : ℕ) (xs : List ℕ) (b : ℕ) → Contains (x ∷ xs) b → (x ≡ b) ⊎ Contains xs b
Contains-cons x xs b (zero, l, e) = inl e
Contains-cons x xs b (suc k, l, e) = inr (k, (omega arith), e)

abbrev InRange : (ℕ → Bool) → ℕ → ℕ → ℕ → Type 0
InRange p a n b = (a ≤ b) × (b < a + n) × (p b ≡ true)

in_filtered : (p : ℕ → Bool) (a n b : ℕ) → Contains (filter p (counted_from a n)) b → InRange p a n b
in_filtered p a zero b (k, l, e) = absurd (omega arith)
in_filtered p a (suc n) b h =
    let further : Contains (filter p (counted_from (suc a) n)) b → InRange p a (suc n) b =
    λ q. let r = in_filtered p (suc a) n b q in (omega (arith, r.0), omega (arith, r.1), r.2) in
    at (p a) refl further h
  where
    at : (v : Bool) → p a ≡ v → (Contains (filter p (counted_from (suc a) n)) b → InRange p a (suc n) b)
        → Contains (cond v (a ∷ filter p (counted_from (suc a) n)) (filter p (counted_from (suc a) n))) b → InRange p a (suc n) b
    at true e further h =
        elim (Contains-cons a _ b h) [ inl s ↦ (omega arith, omega arith, ap p (sym s) ∙ e) | inr q ↦ further q ]
    at false e further h = further h

same_or_above : (a b : ℕ) → a ≤ b → (a ≡ b) ⊎ (suc a ≤ b)
same_or_above a b l = grind arith

shift : (x : ℕ) (xs : List ℕ) (b : ℕ) → Contains xs b → Contains (x ∷ xs) b
shift x xs b (k, l, e) = (suc k, (omega arith), e)

filtered_at : (v : Bool) (a b : ℕ) (xs : List ℕ) → (a ≡ b → v ≡ true) → (a ≡ b) ⊎ Contains xs b → Contains (cond v (a ∷ xs) xs) b
filtered_at true a b xs e (inl s) = (0, (omega arith), s)
filtered_at true a b xs e (inr q) = shift a xs b q
filtered_at false a b xs e (inl s) = absurd (let c = e s in cc)
filtered_at false a b xs e (inr q) = q

filtered : (p : ℕ → Bool) (a n b : ℕ) → a ≤ b → b < a + n → p b ≡ true → Contains (filter p (counted_from a n)) b
filtered p a zero b l m h = absurd (omega arith)
filtered p a (suc n) b l m h =
    filtered_at (p a) a b (filter p (counted_from (suc a) n)) (λ s. ap p s ∙ h) (elim (same_or_above a b l) [
      | inl s ↦ inl s
      | inr q ↦ inr (filtered p (suc a) n b q (omega arith) h)
    ])

pub listed_by-has : (marks : List Bool) (b : ℕ) → Contains (listed_by marks) b → (b < 128) × (get_or marks b false ≡ true)
unfolding ascii
listed_by-has marks b h = let r = in_filtered (λ k. get_or marks k false) 0 128 b h in (omega (arith, r.1), r.2)

pub has-listed_by : (marks : List Bool) (b : ℕ) → b < 128 → get_or marks b false ≡ true → Contains (listed_by marks) b
unfolding ascii
has-listed_by marks b l h = filtered (λ k. get_or marks k false) 0 128 b (omega arith) (omega arith) h

-- a new cell
trees_from-append : (s : List Tree) (xs ys : List Cell) → trees_from s (xs ++ ys) ≡ trees_from s xs ++ trees_from (stack_from s xs) ys
trees_from-append s [] ys = refl
trees_from-append s (c ∷ xs) ys = ap (λ ts. made c.node c.marks c.count s ∷ ts) (trees_from-append (put c.node c.marks c.count s) xs ys)

pub record Pushed (xs cells new : List Cell) (c : Cell) : Type 0 where
  pub are : AreCells new
  pub stack : stack_of new ≡ put c.node c.marks c.count (stack_of cells)
  pub trees : trees_of new ≡ trees_of cells ++ made c.node c.marks c.count (stack_of cells) ∷ []

pub pushed : (xs cells new : List Cell) (c : Cell) (end inside : ℕ) → xs ≡ cells → AreCells xs → new ≡ xs ++ c ∷ [] → end ≡ length xs
    → c.count ≤ length (stack_of cells) → FitsNode c.node c.count → Walked cells c.start end c.count inside → c.weight ≡ capped c.node inside c.count
    → Pushed xs cells new c
pushed xs cells new c end inside e a n f enough fits w h =
    let a2 : AreCells cells = subst AreCells e a in
    let n2 : new ≡ cells ++ c ∷ [] = n ∙ ap (λ ys. ys ++ c ∷ []) e in
    let f2 : end ≡ length cells = f ∙ ap length e in
    let all : take end cells ≡ cells = ap (λ k. take k cells) f2 ∙ take-length cells in
    let stk = stack_of cells in
    let count_is : count_of (gather (take c.count stk) none) ≡ c.count =
    omega (arith, count_of-gather (take c.count stk) none, length-take-le c.count stk enough) in
    let inside_is : inside ≡ min (weights (gather (take c.count stk) none)) most =
    w.weighs ∙ (ap (λ ys. min (total (take c.count (stack_of ys))) most) all
    ∙ ap (λ k. min k most) (sym (weights-gather (take c.count stk) none ∙ omega arith))) in
    let P : ℕ → Type 0 = FitsNode c.node in
    let weighs : c.weight ≡ min (weight (made c.node c.marks c.count stk)) most =
    h ∙ (ap (λ k. capped c.node k c.count) inside_is
    ∙ (ap (λ k. capped c.node (min (weights (gather (take c.count stk) none)) most) k) (sym count_is)
    ∙ sym (weighs_capped c.node c.marks (gather (take c.count stk) none) (subst P (sym count_is) fits)))) in
    let s : Settled cells c = record {
      enough = enough;
      fits = fits;
      below = omega (arith, w.within, f2);
      rest = w.stack ∙ ap (λ ys. drop c.count (stack_of ys)) all;
      weighs = weighs;
    } in
    record {
      are = subst AreCells (sym n2) (cells_more cells c a2 s);
      stack = ap stack_of n2 ∙ stack_from-append [] cells (c ∷ []);
      trees = ap trees_of n2 ∙ trees_from-append [] cells (c ∷ []);
    }

pub record Stepped (cells : List Cell) (low high back weight : ℕ) (d : Cell) : Type 0 where
  pub some : 0 < low
  pub small : d.weight ≤ most
  pub more : Walked cells d.start high (back + 1) (min (weight + d.weight) most)

pub row_step : (xs cells : List Cell) (low high back weight : ℕ) (d : Cell) → xs ≡ cells → AreCells xs → d ≡ get_or xs (low - 1) d
    → high ≤ length cells → Walked cells low high back weight → back < length (stack_of (take high cells)) → Stepped cells low high back weight d
row_step xs cells low high back weight d e a i h w l =
    let p = walked_more cells low high back weight d (subst AreCells e a) h w l in
    let here : d ≡ get_or cells (low - 1) d = i ∙ ap (λ ys. get_or ys (low - 1) d) e in
    let Q : Cell → Type 0 = λ c. Walked cells c.start high (back + 1) (min (weight + c.weight) most) in
    let inside : low - 1 < length cells = omega (arith, w.within, p.some) in
    let s = settled_at xs cells (low - 1) d e i inside a in
    record { some = p.some; small = omega (arith, s.weighs); more = subst Q (sym here) p.more }

pub row_some : (cells : List Cell) (low high back weight : ℕ) → AreCells cells → high ≤ length cells
    → Walked cells low high back weight → back < length (stack_of (take high cells)) → 0 < low
row_some cells zero high back weight a h w l =
    absurd (omega (arith, length-drop back (stack_of (take high cells)), ap length w.stack))
row_some cells (suc m) high back weight a h w l = omega arith

pub length_trees : (cells : List Cell) → length (trees_of cells) ≡ length cells
length_trees cells = length-trees_from [] cells

-- the last tree is the first of the stack
pub whole_from : (s : List Tree) (c : Cell) (xs : List Cell) → whole (trees_from s (c ∷ xs)) ≡ top_of (stack_from s (c ∷ xs))
whole_from s c [] = refl
whole_from s c (d ∷ xs) =
    let r = put c.node c.marks c.count s in
    let e : suc (length (trees_from r (d ∷ xs))) - 1 ≡ suc (length (trees_from r (d ∷ xs)) - 1) = omega arith in
    ap (λ k. tree_at (trees_from s (c ∷ d ∷ xs)) k) e ∙ whole_from r d xs

pub whole_top : (cells : List Cell) → 0 < length cells → whole (trees_of cells) ≡ top_of (stack_of cells)
whole_top [] h = absurd (omega arith)
whole_top (c ∷ xs) h = whole_from [] c xs

is_whole : (cells : List Cell) (len : ℕ) → len ≡ length cells → tree_at (trees_of cells) (len - 1) ≡ whole (trees_of cells)
is_whole cells len n = ap (λ k. tree_at (trees_of cells) (k - 1)) (n ∙ sym (length-trees_from [] cells))

-- the expression of cells whose last tree is light
pub expression_of : (cells : List Cell) (groups len weight : ℕ) (t : Tree) → 0 < length cells → length cells < 2 ^ 32
    → top_of (stack_of cells) ≡ t → groups ≡ groups_of t → len ≡ length cells
    → weight ≡ min (weight_of (tree_at (trees_of cells) (len - 1))) most → weight ≤ 512
    → IsExpressionOf cells groups
expression_of cells groups len w t some small e g n h l =
    let whole_is = is_whole cells len n in
    record {
      some = some;
      small = small;
      light = omega (arith, h, ap weight_of whole_is);
      numbered = g ∙ ap groups_of (sym (whole_top cells some ∙ e));
    }

pub too_heavy : (cells : List Cell) (t : Tree) (len weight : ℕ) → 0 < length cells → top_of (stack_of cells) ≡ t → len ≡ length cells
    → weight ≡ min (weight_of (tree_at (trees_of cells) (len - 1))) most → 512 < weight
    → (512 < weight_of t) × (weight ≡ min (weight_of t) most)
too_heavy cells t len w some e n h l =
    let same : weight_of (tree_at (trees_of cells) (len - 1)) ≡ weight_of t = ap weight_of (is_whole cells len n ∙ (whole_top cells some ∙ e)) in
    (omega (arith, h, same), omega (arith, h, same))
