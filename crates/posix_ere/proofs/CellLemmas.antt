-- Cells, and the stack and the trees that they give.
use Rattle.std.proofs.Common.{ℕ, zero, suc, ◌≡◌, ◌+◌, ◌-◌, ◌*◌, ◌<◌, ◌≤◌, min, Bool, false, List, [], ◌∷◌, ◌++◌, length}
use Rattle.std.proofs.Common.{get_or, take, drop, refl, sym, ◌∙◌, ap, arith, ◌⊎◌, inl, inr, length-append, ◌==◌, Option}
use Rattle.std.proofs.Common.{Some, None}
use Rattle.std.proofs.lemmas.List.{take-append-le, take-take, length-drop, length-take-le}
use Rattle.std.proofs.Math.ListN.{get_or-append}
use Rattle.std.proofs.Math.Seq.{get_or-append_seam, take-append_seam}
use Rattle.std.proofs.Math.Numerals.{add-one}
use Rattle.std.proofs.lemmas.Bool.Decides.{nat_tests}
use Rattle.posix_ere.specs.Tree.{Tree, Trees}
use Rattle.posix_ere.specs.Tree.Trees.{none, more}
use Rattle.posix_ere.specs.Parts.{part, parts_of, count_of, weight, weights, times}
use Rattle.posix_ere.specs.Nodes.{node_of}
use Rattle.posix_ere.specs.Cells.{tree_of, gather, made, put, stack_from, stack_of, trees_from, trees_of, FitsNode}
use Rattle.posix_ere.specs.Cells.{most, capped, total, Settled, AreCells, Walked}
use Rattle.posix_ere.specs.declared.node.Node.{Node}
use Rattle.posix_ere.specs.declared.node.Node.TheVariants as n
use Rattle.posix_ere.specs.declared.cell.Cell.{Cell}

-- stacks go on from cell to cell
pub stack_from-append : (s : List Tree) (xs ys : List Cell) → stack_from s (xs ++ ys) ≡ stack_from (stack_from s xs) ys
stack_from-append s [] ys = refl
stack_from-append s (c ∷ xs) ys = stack_from-append (put c.node c.marks c.count s) xs ys

pub stack_of-more : (xs : List Cell) (c : Cell) → stack_of (xs ++ c ∷ []) ≡ put c.node c.marks c.count (stack_of xs)
stack_of-more xs c = stack_from-append [] xs (c ∷ [])

pub length-trees_from : (s : List Tree) (xs : List Cell) → length (trees_from s xs) ≡ length xs
length-trees_from s [] = refl
length-trees_from s (c ∷ xs) = ap suc (length-trees_from (put c.node c.marks c.count s) xs)

-- the tree of a cell is made of the stack before it
pub trees_from-at : (s : List Tree) (xs : List Cell) (k : ℕ) (d : Tree) (e : Cell) → k < length xs
    → get_or (trees_from s xs) k d ≡ made (get_or xs k e).node (get_or xs k e).marks (get_or xs k e).count (stack_from s (take k xs))
trees_from-at s [] k d e h = absurd (omega arith)
trees_from-at s (c ∷ xs) zero d e h = refl
trees_from-at s (c ∷ xs) (suc k) d e h = trees_from-at (put c.node c.marks c.count s) xs k d e (omega arith)

pub stack_from-at : (s : List Tree) (xs : List Cell) (k : ℕ) (e : Cell) → k < length xs
    → stack_from s (take (suc k) xs) ≡ put (get_or xs k e).node (get_or xs k e).marks (get_or xs k e).count (stack_from s (take k xs))
stack_from-at s [] k e h = absurd (omega arith)
stack_from-at s (c ∷ xs) zero e h = refl
stack_from-at s (c ∷ xs) (suc k) e h = stack_from-at (put c.node c.marks c.count s) xs k e (omega arith)

-- what the node and the parts of a made tree are
pub node_of-made : (node : Node) (marks : List Bool) (ts : Trees) → node_of (tree_of node marks ts) ≡ node
node_of-made n.Alt marks ts = refl
node_of-made n.Branch marks ts = refl
node_of-made (n.Byte b) marks ts = refl
node_of-made n.Any marks ts = refl
node_of-made (n.Set b) marks ts = refl
node_of-made n.Start marks ts = refl
node_of-made n.End marks ts = refl
node_of-made (n.Group g) marks ts = refl
node_of-made (n.Rep m upto) marks ts = refl

pub count_of-gather : (xs : List Tree) (ts : Trees) → count_of (gather xs ts) ≡ length xs + count_of ts
count_of-gather [] ts = sym (omega arith)
count_of-gather (t ∷ xs) ts = count_of-gather xs (more t ts) ∙ omega arith

pub weights-gather : (xs : List Tree) (ts : Trees) → weights (gather xs ts) ≡ total xs + weights ts
weights-gather [] ts = omega arith
weights-gather (t ∷ xs) ts = weights-gather xs (more t ts) ∙ omega arith

none_of_zero : (ts : Trees) → count_of ts ≡ 0 → ts ≡ none
none_of_zero none h = refl
none_of_zero (more t ts) h = absurd (omega arith)

one_of_one : (ts : Trees) → count_of ts ≡ 1 → ts ≡ more (part ts 0) none
one_of_one none h = absurd (omega arith)
one_of_one (more t none) h = refl
one_of_one (more t (more u ts)) h = absurd (omega arith)

pub parts_of-made : (node : Node) (marks : List Bool) (ts : Trees) → FitsNode node (count_of ts) → parts_of (tree_of node marks ts) ≡ ts
parts_of-made n.Alt marks ts h = refl
parts_of-made n.Branch marks ts h = refl
parts_of-made (n.Byte b) marks ts h = sym (none_of_zero ts h)
parts_of-made n.Any marks ts h = sym (none_of_zero ts h)
parts_of-made (n.Set b) marks ts h = sym (none_of_zero ts h)
parts_of-made n.Start marks ts h = sym (none_of_zero ts h)
parts_of-made n.End marks ts h = sym (none_of_zero ts h)
parts_of-made (n.Group g) marks ts h = sym (one_of_one ts h)
parts_of-made (n.Rep m upto) marks ts h = sym (one_of_one ts h)

-- the weight of a made tree
cap_sum : (a b : ℕ) → min (min a most + b) most ≡ min (b + a) most
cap_sum a b = omega arith

cap_alt : (a c : ℕ) → min (a + (c - 1)) most ≡ min (min a most + (c - 1)) most
cap_alt a c = omega arith

cap_one : (a : ℕ) → min (1 + a) most ≡ min (1 + min a most) most
cap_one a = omega arith

le_mul : (k a : ℕ) → 1 ≤ k → a ≤ k * a
le_mul zero a h = absurd (omega arith)
le_mul (suc k) a h = omega arith

within : (a : ℕ) → (a ≤ most) ⊎ (most < a)
within a = grind arith

cap_product : (k a : ℕ) → 1 ≤ k → min (1 + k * a) most ≡ min (1 + k * min a most) most
cap_product k a h =
    let l : a ≤ k * a = le_mul k a h in
    let m : most ≤ k * most = le_mul k most h in
    elim (within a) [
      | inl b ↦ (let e : min a most ≡ a = omega arith in rw e refl)
      | inr b ↦ (let e : min a most ≡ most = omega arith in rw e (omega arith))
    ]

times_some : (m : ℕ) (upto : Option ℕ) → 1 ≤ times m upto
times_some m None = omega arith
times_some m (Some u) = omega arith

one_weight : (ts : Trees) → count_of ts ≡ 1 → weight (part ts 0) ≡ weights ts
one_weight none h = absurd (omega arith)
one_weight (more t none) h = omega arith
one_weight (more t (more u ts)) h = absurd (omega arith)

not_none : (k : ℕ) → (suc k == 0) ≡ false
not_none k = grind (arith, nat_tests)

pub weighs_capped : (node : Node) (marks : List Bool) (ts : Trees) → FitsNode node (count_of ts)
    → min (weight (tree_of node marks ts)) most ≡ capped node (min (weights ts) most) (count_of ts)
weighs_capped n.Alt marks ts h = cap_alt (weights ts) (count_of ts)
weighs_capped n.Branch marks none h = refl
weighs_capped n.Branch marks (more t ts) h = rw (not_none (count_of ts)) refl
weighs_capped (n.Byte b) marks ts h = refl
weighs_capped n.Any marks ts h = refl
weighs_capped (n.Set b) marks ts h = refl
weighs_capped n.Start marks ts h = refl
weighs_capped n.End marks ts h = refl
weighs_capped (n.Group g) marks ts h = rw (one_weight ts h) (cap_one (weights ts))
weighs_capped (n.Rep m upto) marks ts h = rw (one_weight ts h) (cap_product (times m upto) (weights ts) (times_some m upto))

-- one more cell that stands so after the others
before_or_at : (k m : ℕ) → k < m + 1 → (k < m) ⊎ (k ≡ m)
before_or_at k m h = grind arith

pub cells_more : (xs : List Cell) (c : Cell) → AreCells xs → Settled xs c → AreCells (xs ++ c ∷ [])
cells_more xs c h s k d l =
    let m : k < length xs + 1 = omega (arith, length-append xs (c ∷ [])) in
    elim (before_or_at k (length xs) m) [
      | inl b ↦ (let e : k ≤ length xs = omega arith in
          rw (take-append-le k xs (c ∷ []) e, get_or-append xs (c ∷ []) d k b) (h k d b))
      | inr e ↦ rw (e, take-append_seam xs (c ∷ []), get_or-append_seam xs c [] d) s
    ]

-- the first of what is left of a list of trees
pub record Seam (k : ℕ) (xs : List Tree) (y : Tree) (ys : List Tree) : Type 0 where
  pub item : (e : Tree) → get_or xs k e ≡ y
  pub rest : drop (suc k) xs ≡ ys
  pub front : total (take (suc k) xs) ≡ total (take k xs) + weight y

pub seam : (k : ℕ) (xs : List Tree) (y : Tree) (ys : List Tree) → drop k xs ≡ y ∷ ys → Seam k xs y ys
seam zero [] y ys h = absurd (cc)
seam zero (x ∷ xs) y ys h =
    let a : x ≡ y = cc in
    let b : xs ≡ ys = cc in
    record { item = λ e. a; rest = b; front = rw a (omega arith) }
seam (suc k) [] y ys h = absurd (cc)
seam (suc k) (x ∷ xs) y ys h =
    let r = seam k xs y ys h in
    record { item = r.item; rest = r.rest; front = omega (arith, r.front) }

pub walked_none : (cells : List Cell) (high : ℕ) → Walked cells high high 0 0
walked_none cells high = record { within = omega arith; stack = refl; weighs = refl }

pub record Walk (cells : List Cell) (low high back weight : ℕ) (d : Cell) : Type 0 where
  pub some : 0 < low
  pub more : Walked cells (get_or cells (low - 1) d).start high (back + 1) (min (weight + (get_or cells (low - 1) d).weight) most)
  pub tree : (e : Tree) → get_or (trees_of cells) (low - 1) e ≡ get_or (stack_of (take high cells)) back e

walk : (cells : List Cell) (m high back weight : ℕ) (d : Cell) → AreCells cells → high ≤ length cells
    → Walked cells (suc m) high back weight
    → Walked cells (get_or cells m d).start high (back + 1) (min (weight + (get_or cells m d).weight) most)
    × ((e : Tree) → get_or (trees_of cells) m e ≡ get_or (stack_of (take high cells)) back e)
walk cells m high back w d a h r =
    let inside : m < length cells = omega (arith, r.within) in
    let c = get_or cells m d in
    let s : Settled (take m cells) c = a m d inside in
    let stk = stack_of (take high cells) in
    let t = made c.node c.marks c.count (stack_of (take m cells)) in
    let j = seam back stk t (drop c.count (stack_of (take m cells))) (sym r.stack ∙ stack_from-at [] cells m d inside) in
    let start : c.start ≤ m = omega (arith, s.below, length-take-le m cells) in
    let low : take c.start (take m cells) ≡ take c.start cells = take-take c.start m cells start in
    let total_is : total (take (back + 1) stk) ≡ total (take back stk) + weight t = rw add-one j.front in (
      record {
        within = omega (arith, r.within);
        stack = rw add-one (ap stack_of (sym low) ∙ (s.rest ∙ sym j.rest));
        weighs = omega (arith, r.weighs, s.weighs, total_is);
      },
      λ e. trees_from-at [] cells m e d inside ∙ sym (j.item e),
    )

pub walked_more : (cells : List Cell) (low high back weight : ℕ) (d : Cell) → AreCells cells → high ≤ length cells
    → Walked cells low high back weight → back < length (stack_of (take high cells)) → Walk cells low high back weight d
walked_more cells zero high back w d a h r l =
    absurd (omega (arith, length-drop back (stack_of (take high cells)), ap length r.stack))
walked_more cells (suc m) high back w d a h r l =
    let e : suc m - 1 ≡ m = omega arith in
    let p = walk cells m high back w d a h r in
    record { some = omega arith; more = rw e p.0; tree = rw e p.1 }
