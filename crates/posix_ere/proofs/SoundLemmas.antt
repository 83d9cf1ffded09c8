-- What the machine has read so far, in terms of the grammar.
use Rattle.std.proofs.Common.{ℕ, suc, ◌||◌, ◌==◌, ◌≡◌, ◌+◌, Bool, true, false, List, [], ◌∷◌, ◌++◌, length, drop, refl}
use Rattle.std.proofs.Common.{sym, ◌∙◌, ap, subst, arith, ◌⊎◌, inl, inr, Option, append_assoc}
use Rattle.std.proofs.lemmas.List.{append-nil}
use Rattle.std.proofs.Math.Seq.{take-append_seam, drop-append_seam}
use Rattle.posix_ere.specs.Reasons.{IsBetween, AfterNothing}
use Rattle.posix_ere.specs.Tree.Atom.{byte, any, set, start, end}
use Rattle.posix_ere.specs.Tree.{Tree, Trees}
use Rattle.posix_ere.specs.Tree.Tree.{atom, alt, branch, group, rep}
use Rattle.posix_ere.specs.Tree.Trees.{none, more}
use Rattle.posix_ere.specs.Parts.{groups, groups_in}
use Rattle.posix_ere.specs.Interval.{IsRepeat}
use Rattle.posix_ere.specs.Grammar.{IsAnchor, IsExpression, AreFurtherBranches, IsBranch, ArePieces, IsRepeated}
use Rattle.posix_ere.specs.Cells.{gather, put}
use Rattle.posix_ere.specs.Machine.{no_marks, new_frame}
use Rattle.posix_ere.specs.declared.node.Node.TheVariants as n
use Rattle.posix_ere.specs.declared.frame.Frame.{Frame}

-- how many groups trees have together
abbrev pub groups_of_all : List Tree → ℕ
groups_of_all [] = 0
groups_of_all (t ∷ ts) = groups_of_all ts + groups t

-- pieces, the last first
abbrev pub PiecesBack : ℕ → List ℕ → List Tree → Type 0
PiecesBack k w [] = w ≡ []
PiecesBack k w (t ∷ ts) =
    (u : List ℕ) × (v : List ℕ) × (w ≡ u ++ v) × PiecesBack k u ts × (IsAnchor v t ⊎ IsRepeated (k + groups_of_all ts) v t)

-- pieces, the last first, of which the last may be repeated
abbrev pub Row : Bool → ℕ → List ℕ → List Tree → Type 0
Row false k w [] = w ≡ []
Row false k w (t ∷ ts) = (u : List ℕ) × (v : List ℕ) × (w ≡ u ++ v) × PiecesBack k u ts × IsAnchor v t
Row true k w [] = ⊥
Row true k w (t ∷ ts) =
    (u : List ℕ) × (v : List ℕ) × (w ≡ u ++ v) × PiecesBack k u ts × IsRepeated (k + groups_of_all ts) v t

-- branches that ended, the last first
abbrev pub BranchesBack : ℕ → List ℕ → List Tree → Type 0
BranchesBack k w [] = w ≡ []
BranchesBack k w (b ∷ bs) =
    (u : List ℕ) × (v : List ℕ) × (w ≡ u ++ (v ++ 124 ∷ [])) × BranchesBack k u bs × IsBranch (k + groups_of_all bs) v b

pub row_pieces : (r : Bool) (k : ℕ) (w : List ℕ) (ts : List Tree) → Row r k w ts → PiecesBack k w ts
row_pieces false k w [] h = h
row_pieces false k w (t ∷ ts) (u, v, e, h, x) = (u, v, e, h, inl x)
row_pieces true k w [] h = absurd h
row_pieces true k w (t ∷ ts) (u, v, e, h, x) = (u, v, e, h, inr x)

-- pieces put in order
pub pieces_gathered : (ps : List Tree) (ts : Trees) (k : ℕ) (w x : List ℕ) → PiecesBack k w ps → ArePieces (k + groups_of_all ps) x ts
    → ArePieces k (w ++ x) (gather ps ts)
pieces_gathered [] ts k w x h g =
    let z : k + 0 ≡ k = omega arith in
    subst (λ y. ArePieces k (y ++ x) ts) (sym h) (subst (λ j. ArePieces j x ts) z g)
pieces_gathered (t ∷ ps) ts k w x (u, v, e, h, y) g =
    let z : k + (groups_of_all ps + groups t) ≡ k + groups_of_all ps + groups t = omega arith in
    let a : w ++ x ≡ u ++ (v ++ x) = ap (λ q. q ++ x) e ∙ append_assoc u v x in
    subst (λ q. ArePieces k q (gather ps (more t ts))) (sym a)
    (pieces_gathered ps (more t ts) k u (v ++ x) h (v, x, refl, y, subst (λ j. ArePieces j x ts) z g))

-- branches put in order
pub branches_gathered : (bs : List Tree) (b : Tree) (ts : Trees) (k : ℕ) (w v x : List ℕ) → BranchesBack k w bs → IsBranch (k + groups_of_all bs) v b
    → AreFurtherBranches (k + groups_of_all bs + groups b) x ts → IsExpression k (w ++ (v ++ x)) (alt (gather bs (more b ts)))
branches_gathered [] b ts k w v x h i g =
    let z : k + 0 ≡ k = omega arith in
    let y : k + 0 + groups b ≡ k + groups b = omega arith in
    subst (λ q. IsExpression k (q ++ (v ++ x)) (alt (more b ts))) (sym h)
    (v, x, refl, subst (λ j. IsBranch j v b) z i, subst (λ j. AreFurtherBranches j x ts) y g)
branches_gathered (c ∷ bs) b ts k w v x (u, y, e, h, i) j g =
    let a : w ++ (v ++ x) ≡ u ++ (y ++ 124 ∷ (v ++ x)) =
    ap (λ q. q ++ (v ++ x)) e ∙ (append_assoc u (y ++ 124 ∷ []) (v ++ x) ∙ ap (λ q. u ++ q) (append_assoc y (124 ∷ []) (v ++ x))) in
    let z : k + (groups_of_all bs + groups c) ≡ k + groups_of_all bs + groups c = omega arith in
    let f : k + (groups_of_all bs + groups c) + groups b ≡ k + groups_of_all bs + groups c + groups b = omega arith in
    subst (λ q. IsExpression k q (alt (gather bs (more c (more b ts))))) (sym a)
    (branches_gathered bs c (more b ts) k u y (124 ∷ (v ++ x)) h i
    (v, x, refl, subst (λ m. IsBranch m v b) z j, subst (λ m. AreFurtherBranches m x ts) f g))

-- the text of the innermost alternatives, after which the stack goes on with the rest
pub record Here (w : List ℕ) (stack rest : List Tree) (top : Frame) (k opened : ℕ) : Type 0 where
  pub done : List Tree
  pub row : List Tree
  pub stack_is : stack ≡ row ++ (done ++ rest)
  pub pieces : top.pieces ≡ length row
  pub branches : top.branches ≡ length done
  pub before : List ℕ
  pub last : List ℕ
  pub split : w ≡ before ++ last
  pub ended : BranchesBack k before done
  pub going : Row top.repeatable (k + groups_of_all done) last row
  pub counted : opened ≡ k + groups_of_all done + groups_of_all row

-- one more piece
pub here_anchor : (w v : List ℕ) (stack rest : List Tree) (top : Frame) (k o : ℕ) (t : Tree) → Here w stack rest top k o → IsAnchor v t
    → Here (w ++ v) (t ∷ stack) rest (record top { pieces = top.pieces + 1; repeatable = false }) k (o + groups t)
here_anchor w v stack rest top k o t h a = record {
  done = h.done;
  row = t ∷ h.row;
  stack_is = ap (λ s. t ∷ s) h.stack_is;
  pieces = omega (arith, h.pieces);
  branches = h.branches;
  before = h.before;
  last = h.last ++ v;
  split = ap (λ q. q ++ v) h.split ∙ append_assoc h.before h.last v;
  ended = h.ended;
  going = (h.last, v, refl, row_pieces top.repeatable _ h.last h.row h.going, a);
  counted = omega (arith, h.counted);
}

pub here_atom : (w v : List ℕ) (stack rest : List Tree) (top : Frame) (k o : ℕ) (t : Tree) → Here w stack rest top k o → IsRepeated o v t
    → Here (w ++ v) (t ∷ stack) rest (record top { pieces = top.pieces + 1; repeatable = true }) k (o + groups t)
here_atom w v stack rest top k o t h a = record {
  done = h.done;
  row = t ∷ h.row;
  stack_is = ap (λ s. t ∷ s) h.stack_is;
  pieces = omega (arith, h.pieces);
  branches = h.branches;
  before = h.before;
  last = h.last ++ v;
  split = ap (λ q. q ++ v) h.split ∙ append_assoc h.before h.last v;
  ended = h.ended;
  going = (h.last, v, refl, row_pieces top.repeatable _ h.last h.row h.going, subst (λ j. IsRepeated j v t) h.counted a);
  counted = omega (arith, h.counted);
}

-- the last piece repeated
repeated_row : (k : ℕ) (last v : List ℕ) (row tail : List Tree) (stack : List Tree) (m : ℕ) (u : Option ℕ)
    → stack ≡ row ++ tail → Row true k last row → IsRepeat v m u
    → (row2 : List Tree) × (put (n.Rep m u) no_marks 1 stack ≡ row2 ++ tail) × (length row2 ≡ length row)
    × (groups_of_all row2 ≡ groups_of_all row) × Row true k (last ++ v) row2
repeated_row k last v [] tail stack m u e h r = absurd h
repeated_row k last v (t ∷ ts) tail stack m u e (x, y, f, h, a) r = (
  rep m u t ∷ ts,
  ap (put (n.Rep m u) no_marks 1) e,
  refl,
  refl,
  (x, y ++ v, ap (λ q. q ++ v) f ∙ append_assoc x y v, h, (y, v, refl, a, r)),
)

pub here_repeat : (w v : List ℕ) (stack rest : List Tree) (top : Frame) (k o : ℕ) (m : ℕ) (u : Option ℕ) → Here w stack rest top k o → top.repeatable ≡ true
    → IsRepeat v m u → Here (w ++ v) (put (n.Rep m u) no_marks 1 stack) rest top k o
here_repeat w v stack rest top k o m u h e r =
    let g = subst (λ b. Row b (k + groups_of_all h.done) h.last h.row) e h.going in
    let x = repeated_row (k + groups_of_all h.done) h.last v h.row (h.done ++ rest) stack m u h.stack_is g r in
    record {
      done = h.done;
      row = x.0;
      stack_is = x.1;
      pieces = h.pieces ∙ sym x.2;
      branches = h.branches;
      before = h.before;
      last = h.last ++ v;
      split = ap (λ q. q ++ v) h.split ∙ append_assoc h.before h.last v;
      ended = h.ended;
      going = subst (λ b. Row b (k + groups_of_all h.done) (h.last ++ v) x.0) (sym e) x.4;
      counted = omega (arith, h.counted, x.3);
    }

-- the branch that ends here
take_row : (row tail stack : List Tree) (j : ℕ) → stack ≡ row ++ tail → j ≡ length row → put n.Branch no_marks j stack ≡ branch (gather row none) ∷ tail
take_row row tail stack j e l =
    ap (put n.Branch no_marks j) e ∙ (ap (λ i. put n.Branch no_marks i (row ++ tail)) l
    ∙ (ap (λ x. branch (gather x none) ∷ drop (length row) (row ++ tail)) (take-append_seam row tail)
    ∙ ap (λ x. branch (gather row none) ∷ x) (drop-append_seam row tail)))

groups_gathered : (ps : List Tree) (ts : Trees) → groups_in (gather ps ts) ≡ groups_of_all ps + groups_in ts
groups_gathered [] ts = omega arith
groups_gathered (t ∷ ps) ts = omega (arith, groups_gathered ps (more t ts))

here_branch : (w : List ℕ) (stack rest : List Tree) (top : Frame) (k o : ℕ) (h : Here w stack rest top k o)
    → IsBranch (k + groups_of_all h.done) h.last (branch (gather h.row none))
here_branch w stack rest top k o h =
    subst (λ q. ArePieces (k + groups_of_all h.done) q (gather h.row none)) (append-nil h.last)
    (pieces_gathered h.row none (k + groups_of_all h.done) h.last [] (row_pieces top.repeatable _ h.last h.row h.going) refl)

pub here_bar : (w : List ℕ) (stack rest : List Tree) (top : Frame) (k o : ℕ) → Here w stack rest top k o
    → Here (w ++ 124 ∷ []) (put n.Branch no_marks top.pieces stack) rest (record top { branches = top.branches + 1; pieces = 0; repeatable = false }) k o
here_bar w stack rest top k o h = record {
  done = branch (gather h.row none) ∷ h.done;
  row = [];
  stack_is = take_row h.row (h.done ++ rest) stack top.pieces h.stack_is h.pieces;
  pieces = refl;
  branches = omega (arith, h.branches);
  before = w ++ 124 ∷ [];
  last = [];
  split = sym (append-nil (w ++ 124 ∷ []));
  ended = (h.before, h.last, ap (λ q. q ++ 124 ∷ []) h.split ∙ append_assoc h.before h.last (124 ∷ []), h.ended, here_branch w stack rest top k o h);
  going = refl;
  counted = omega (arith, h.counted, groups_gathered h.row none);
}

-- the alternatives that end here
pub record Ended (w : List ℕ) (stack rest : List Tree) (k opened : ℕ) : Type 0 where
  pub tree : Tree
  pub stack_is : stack ≡ tree ∷ rest
  pub reads : IsExpression k w tree
  pub counted : opened ≡ k + groups tree

take_branches : (b : Tree) (done rest : List Tree) (stack : List Tree) (j : ℕ) → stack ≡ b ∷ (done ++ rest) → j ≡ length done
    → put n.Alt no_marks (j + 1) stack ≡ alt (gather done (more b none)) ∷ rest
take_branches b done rest stack j e l =
    let m : j + 1 ≡ suc (length done) = omega (arith, l) in
    ap (put n.Alt no_marks (j + 1)) e ∙ (ap (λ i. put n.Alt no_marks i (b ∷ (done ++ rest))) m
    ∙ (ap (λ x. alt (gather x (more b none)) ∷ drop (length done) (done ++ rest)) (take-append_seam done rest)
    ∙ ap (λ x. alt (gather done (more b none)) ∷ x) (drop-append_seam done rest)))

pub here_ended : (w : List ℕ) (stack rest : List Tree) (top : Frame) (k o : ℕ) → Here w stack rest top k o
    → Ended w (put n.Alt no_marks (top.branches + 1) (put n.Branch no_marks top.pieces stack)) rest k o
here_ended w stack rest top k o h =
    let b = branch (gather h.row none) in
    record {
      tree = alt (gather h.done (more b none));
      stack_is = take_branches b h.done rest _ top.branches (take_row h.row (h.done ++ rest) stack top.pieces h.stack_is h.pieces) h.branches;
      reads = subst (λ q. IsExpression k q (alt (gather h.done (more b none)))) (ap (λ q. h.before ++ q) (append-nil h.last) ∙ sym h.split)
          (branches_gathered h.done b none k h.before h.last [] h.ended (here_branch w stack rest top k o h) refl);
      counted = omega (arith, h.counted, groups_gathered h.done (more b none), groups_gathered h.row none);
    }

-- the whole text: texts with a `(` between each two, a frame for each
abbrev pub Nest : List ℕ → List Tree → List Frame → Frame → ℕ → Type 0
Nest p stack [] top o = Here p stack [] top 0 o × (top.number ≡ 0)
Nest p stack (f ∷ fs) top o =
    (q : List ℕ) × (w : List ℕ) × (rest : List Tree) × (j : ℕ) × (p ≡ q ++ 40 ∷ w) × Here w stack rest top (suc j) o × (top.number ≡ suc j)
    × Nest q rest fs f j

-- what adds to the innermost alternatives adds to the whole text
pub nest_more : (p v : List ℕ) (stack stack2 : List Tree) (fs : List Frame) (top top2 : Frame) (o o2 : ℕ) → top2.number ≡ top.number
    → ((w : List ℕ) (rest : List Tree) (k : ℕ) → Here w stack rest top k o → Here (w ++ v) stack2 rest top2 k o2)
    → Nest p stack fs top o → Nest (p ++ v) stack2 fs top2 o2
nest_more p v stack stack2 [] top top2 o o2 e f (h, n) = (f p [] 0 h, e ∙ n)
nest_more p v stack stack2 (g ∷ fs) top top2 o o2 e f (q, w, rest, j, s, h, n, r) =
    (q, w ++ v, rest, j, ap (λ x. x ++ v) s ∙ append_assoc q (40 ∷ w) v, f w rest (suc j) h, e ∙ n, r)

pub nest_open : (p : List ℕ) (stack : List Tree) (fs : List Frame) (top : Frame) (o : ℕ) → Nest p stack fs top o
    → Nest (p ++ 40 ∷ []) stack (top ∷ fs) (new_frame (o + 1)) (o + 1)
nest_open p stack fs top o h = (
  p,
  [],
  stack,
  o,
  refl,
  record {
    done = [];
    row = [];
    stack_is = refl;
    pieces = refl;
    branches = refl;
    before = [];
    last = [];
    split = refl;
    ended = refl;
    going = refl;
    counted = omega arith;
  },
  add_one o,
  h,
)
  where
    add_one : (o : ℕ) → o + 1 ≡ suc o
    add_one o = omega arith

pub nest_close : (p : List ℕ) (stack : List Tree) (f : Frame) (fs : List Frame) (top : Frame) (o : ℕ) → Nest p stack (f ∷ fs) top o
    → Nest (p ++ 41 ∷ []) (put (n.Group top.number) no_marks 1 (put n.Alt no_marks (top.branches + 1) (put n.Branch no_marks top.pieces stack)))
    fs (record f { pieces = f.pieces + 1; repeatable = true }) o
nest_close p stack f fs top o (q, w, rest, j, s, h, number, r) =
    let e = here_ended w stack rest top (suc j) o h in
    let t = group (suc j) e.tree in
    let a : p ++ 41 ∷ [] ≡ q ++ (40 ∷ (w ++ 41 ∷ [])) = ap (λ x. x ++ 41 ∷ []) s ∙ append_assoc q (40 ∷ w) (41 ∷ []) in
    let b : t ∷ rest ≡ put (n.Group top.number) no_marks 1 (put n.Alt no_marks (top.branches + 1) (put n.Branch no_marks top.pieces stack)) =
    sym (ap (put (n.Group top.number) no_marks 1) e.stack_is ∙ ap (λ i. group i e.tree ∷ rest) number) in
    let c : j + groups t ≡ o = omega (arith, e.counted) in
    let top2 : Frame = record f { pieces = f.pieces + 1; repeatable = true } in
    let x = nest_more q (40 ∷ (w ++ 41 ∷ [])) rest (t ∷ rest) fs f top2 j (j + groups t) refl
    (λ y z k u. here_atom y (40 ∷ (w ++ 41 ∷ [])) rest z f k j t u (w, refl, refl, e.reads)) r in
    subst (λ y. Nest y (put (n.Group top.number) no_marks 1 (put n.Alt no_marks (top.branches + 1) (put n.Branch no_marks top.pieces stack))) fs top2 o) (sym a)
    (subst (λ y. Nest (q ++ (40 ∷ (w ++ 41 ∷ []))) y fs top2 o) b
    (subst (λ y. Nest (q ++ (40 ∷ (w ++ 41 ∷ []))) (t ∷ rest) fs top2 y) c x))

-- outside brackets, intervals and escapes
pub between_of : (p : List ℕ) (stack : List Tree) (fs : List Frame) (top : Frame) (o : ℕ) → Nest p stack fs top o → IsBetween (length fs) o p
between_of p stack [] top o (h, number) =
    let e = here_ended p stack [] top 0 o h in (e.tree, e.reads, omega (arith, e.counted))
between_of p stack (f ∷ fs) top o (q, w, rest, j, s, h, number, r) =
    let e = here_ended w stack rest top (suc j) o h in
    (q, w, j, e.tree, s, between_of q rest fs f j r, e.reads, e.counted)

-- at the start of the innermost alternatives, or after a bar or an anchor of them
abbrev IdleHere : ℕ → List ℕ → Type 0
IdleHere k w =
    (w ≡ []) ⊎ ((q : List ℕ) × (x : ℕ) × (t : Tree) × (w ≡ q ++ x ∷ []) × IsExpression k q t × ((x == 40 || x == 124 || x == 94 || x == 36) ≡ true))

-- the byte of an anchor
anchor_byte : (t : Tree) (v : List ℕ) → IsAnchor v t → (x : ℕ) × (v ≡ x ∷ []) × ((x == 40 || x == 124 || x == 94 || x == 36) ≡ true)
anchor_byte (atom start) v h = (94, h, refl)
anchor_byte (atom end) v h = (36, h, refl)
anchor_byte (atom (byte b)) v h = absurd h
anchor_byte (atom any) v h = absurd h
anchor_byte (atom (set a b)) v h = absurd h
anchor_byte (alt ts) v h = absurd h
anchor_byte (branch ts) v h = absurd h
anchor_byte (group g t) v h = absurd h
anchor_byte (rep a b t) v h = absurd h

branches_idle : (k : ℕ) (bs : List Tree) (w : List ℕ) → BranchesBack k w bs → IdleHere k w
branches_idle k [] w h = inl h
branches_idle k (b ∷ bs) w (u, v, e, h, i) =
    inr (
      u ++ (v ++ []),
      124,
      alt (gather bs (more b none)),
      e ∙ (ap (λ y. u ++ (y ++ 124 ∷ [])) (sym (append-nil v)) ∙ sym (append_assoc u (v ++ []) (124 ∷ []))),
      branches_gathered bs b none k u v [] h i refl,
      refl,
    )

row_idle : (k : ℕ) (bs row : List Tree) (w before last : List ℕ) → w ≡ before ++ last → BranchesBack k before bs
    → Row false (k + groups_of_all bs) last row → IdleHere k w
row_idle k bs [] w before last e h r = subst (IdleHere k) (sym (e ∙ (ap (λ x. before ++ x) r ∙ append-nil before))) (branches_idle k bs before h)
row_idle k bs (t ∷ ts) w before last e h (u, v, f, g, a) =
    let x = anchor_byte t v a in
    let b = branch (gather ts none) in
    let i : IsBranch (k + groups_of_all bs) (u ++ []) b = pieces_gathered ts none (k + groups_of_all bs) u [] g refl in
    let j : w ≡ before ++ ((u ++ []) ++ x.0 ∷ []) =
    e ∙ (ap (λ y. before ++ y) (f ∙ ap (λ y. u ++ y) x.1) ∙ ap (λ y. before ++ (y ++ x.0 ∷ [])) (sym (append-nil u))) in
    inr (
      before ++ ((u ++ []) ++ []),
      x.0,
      alt (gather bs (more b none)),
      j ∙ (ap (λ y. before ++ (y ++ x.0 ∷ [])) (sym (append-nil (u ++ []))) ∙ sym (append_assoc before ((u ++ []) ++ []) (x.0 ∷ []))),
      branches_gathered bs b none k before (u ++ []) [] h i refl,
      x.2,
    )

here_idle : (w : List ℕ) (stack rest : List Tree) (top : Frame) (k o : ℕ) → Here w stack rest top k o → top.repeatable ≡ false → IdleHere k w
here_idle w stack rest top k o h e =
    row_idle k h.done h.row w h.before h.last h.split h.ended (subst (λ b. Row b (k + groups_of_all h.done) h.last h.row) e h.going)

pub nest_idle : (p : List ℕ) (stack : List Tree) (fs : List Frame) (top : Frame) (o : ℕ) → Nest p stack fs top o → top.repeatable ≡ false → AfterNothing p
nest_idle p stack [] top o (h, number) e = go (here_idle p stack [] top 0 o h e)
  where
    go : IdleHere 0 p → AfterNothing p
    go (inl x) = inl x
    go (inr (q, x, t, f, r, v)) = inr (q, x, f, (0, groups t, (t, r, refl)), v)
nest_idle p stack (f ∷ fs) top o (q, w, rest, j, s, h, number, r) e = go (between_of q rest fs f j r) (here_idle w stack rest top (suc j) o h e)
  where
    go : IsBetween (length fs) j q → IdleHere (suc j) w → AfterNothing p
    go b (inl x) = inr (q, 40, s ∙ ap (λ y. q ++ 40 ∷ y) x, (length fs, j, b), refl)
    go b (inr (u, x, t, g, i, v)) =
        inr (
          q ++ 40 ∷ u,
          x,
          s ∙ (ap (λ y. q ++ 40 ∷ y) g ∙ sym (append_assoc q (40 ∷ u) (x ∷ []))),
          (suc (length fs), suc j + groups t, (q, u, j, t, refl, b, i, refl)),
          v,
        )
