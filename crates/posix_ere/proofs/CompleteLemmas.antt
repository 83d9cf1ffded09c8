-- The machine reads each text of the grammar.
use Rattle.std.proofs.Common.{ℕ, suc, ◌≡◌, ◌+◌, Bool, true, false, List, [], ◌∷◌, ◌++◌, take, drop, refl, sym, ◌∙◌, ap, subst, arith, ◌⊎◌, inl, inr, Ok, Option}
use Rattle.std.proofs.lemmas.Bool.Decides.{nat_tests}
use Rattle.posix_ere.specs.Tree.{Atom, Tree, Trees}
use Rattle.posix_ere.specs.Tree.Atom.{byte, any, set, start, end}
use Rattle.posix_ere.specs.Tree.Tree.{atom, alt, branch, group, rep}
use Rattle.posix_ere.specs.Tree.Trees.{none, more}
use Rattle.posix_ere.specs.Parts.{count_of, groups, groups_in}
use Rattle.posix_ere.specs.Ascii.{is_ordinary, is_special}
use Rattle.posix_ere.specs.Grammar.{IsOneByte, IsAnchor, IsExpression, AreFurtherBranches, IsBranch, ArePieces, IsRepeated}
use Rattle.posix_ere.specs.Cells.{gather, made, put, tree_of}
use Rattle.posix_ere.specs.Machine.{State, step, run, mode_step, plain_step, with_leaf, with_repeat, with_branch, with_group, ended, no_marks, sign_of, at_mode}
use Rattle.posix_ere.specs.Machine as machine
use Rattle.posix_ere.specs.declared.node.Node.{Node}
use Rattle.posix_ere.specs.declared.node.Node.TheVariants as n
use Rattle.posix_ere.specs.declared.sign.Sign.TheVariants as sign
use Rattle.posix_ere.specs.declared.frame.Mode.TheVariants as mode
use Rattle.posix_ere.proofs.RunsLemmas.{run_on, run_one}
use Rattle.posix_ere.proofs.IntervalRunsLemmas.{runs_repeat}
use Rattle.posix_ere.proofs.BracketRunsLemmas.{runs_bracket}

-- parts put on a stack, the first first
unfoldable pub onto : Trees → List Tree → List Tree
onto none s = s
onto (more t ts) s = onto ts (t ∷ s)

pub gather-onto : (ts : Trees) (s : List Tree) (k j : ℕ) → k ≡ count_of ts + j → gather (take k (onto ts s)) none ≡ gather (take j s) ts
unfolding onto
gather-onto none s k j e = let f : k ≡ j = omega arith in rw f refl
gather-onto (more t ts) s k j e = gather-onto ts (t ∷ s) k (suc j) (omega arith)

pub drop-onto : (ts : Trees) (s : List Tree) (k j : ℕ) → k ≡ count_of ts + j → drop k (onto ts s) ≡ drop j s
unfolding onto
drop-onto none s k j e = let f : k ≡ j = omega arith in rw f refl
drop-onto (more t ts) s k j e = drop-onto ts (t ∷ s) k (suc j) (omega arith)

-- a node over all of a row
pub put-onto : (node : Node) (ts : Trees) (s stack : List Tree) (k : ℕ) → k ≡ count_of ts → stack ≡ onto ts s
    → put node no_marks k stack ≡ tree_of node no_marks ts ∷ s
put-onto node ts s stack k e h =
    let f : k ≡ count_of ts + 0 = omega arith in
    let a = gather-onto ts s k 0 f in
    let b = drop-onto ts s k 0 f in
    ap (put node no_marks k) h ∙ (ap (λ x. tree_of node no_marks x ∷ drop k (onto ts s)) a ∙ ap (λ x. tree_of node no_marks ts ∷ x) b)

-- what a byte is
pub ordinary_sign : (b : ℕ) → is_ordinary b ≡ true → sign_of b ≡ sign.Ordinary
ordinary_sign b h = grind (arith, nat_tests)

pub step_plain : (s : State) (b : ℕ) → s.mode ≡ mode.Plain → step s b ≡ plain_step s b (sign_of b)
unfolding step
step_plain s b e = ap (λ m. mode_step m s b) e

-- pieces were read
pub record Passed (s t : State) (row : Trees) : Type 0 where
  pub stack : t.stack ≡ onto row s.stack
  pub frames : t.frames ≡ s.frames
  pub number : t.top.number ≡ s.top.number
  pub branches : t.top.branches ≡ s.top.branches
  pub pieces : t.top.pieces ≡ s.top.pieces + count_of row
  pub opened : t.opened ≡ s.opened + groups_in row
  pub mode : t.mode ≡ mode.Plain

-- the stack where the branch would end here
abbrev pub row_ended : State → List Tree
row_ended s = put n.Branch no_marks s.top.pieces s.stack

-- branches were read
pub record Branched (s t : State) (old : List Tree) (row : Trees) (more_branches : ℕ) : Type 0 where
  pub rows : row_ended t ≡ onto row old
  pub frames : t.frames ≡ s.frames
  pub number : t.top.number ≡ s.top.number
  pub branches : t.top.branches ≡ s.top.branches + more_branches
  pub opened : t.opened ≡ s.opened + groups_in row
  pub mode : t.mode ≡ mode.Plain

-- alternatives were read
pub record Read (s t : State) (e : Tree) : Type 0 where
  pub end : ended t ≡ e ∷ s.stack
  pub frames : t.frames ≡ s.frames
  pub number : t.top.number ≡ s.top.number
  pub opened : t.opened ≡ s.opened + groups e
  pub mode : t.mode ≡ mode.Plain

abbrev pub Runs : State → List ℕ → (State → Type 0) → Type 0
Runs s w P = (t : State) × (run s w ≡ Ok t) × P t

passed_leaf : (s : State) (node : Node) (marks : List Bool) (r : Bool) (x : Atom) → made node marks 0 s.stack ≡ atom x
    → Passed s (with_leaf node marks r s) (more (atom x) none)
unfolding onto
passed_leaf s node marks r x e = record {
  stack = ap (λ t. t ∷ s.stack) e;
  frames = refl;
  number = refl;
  branches = refl;
  pieces = omega arith;
  opened = omega arith;
  mode = refl;
}

-- an anchor
runs_anchor : (t : Tree) (w : List ℕ) (s : State) → s.mode ≡ mode.Plain → IsAnchor w t → Runs s w (λ u. Passed s u (more t none))
runs_anchor (atom start) w s m h =
    (with_leaf n.Start no_marks false s, ap (run s) h ∙ run_one s _ 94 [] (step_plain s 94 m), passed_leaf s n.Start no_marks false start refl)
runs_anchor (atom end) w s m h =
    (with_leaf n.End no_marks false s, ap (run s) h ∙ run_one s _ 36 [] (step_plain s 36 m), passed_leaf s n.End no_marks false end refl)
runs_anchor (atom (byte b)) w s m h = absurd h
runs_anchor (atom any) w s m h = absurd h
runs_anchor (atom (set x y)) w s m h = absurd h
runs_anchor (alt ts) w s m h = absurd h
runs_anchor (branch ts) w s m h = absurd h
runs_anchor (group g t) w s m h = absurd h
runs_anchor (rep a b t) w s m h = absurd h

abbrev pub Repeatable : State → Tree → State → Type 0
Repeatable s t u = Passed s u (more t none) × (u.top.repeatable ≡ true)

step_escaped : (s : State) (b : ℕ) → is_special b ≡ true → step (at_mode mode.Escape s) b ≡ Ok (with_leaf (n.Byte b) no_marks true s)
unfolding step
step_escaped s b e = rw e refl

-- what takes one byte
runs_byte : (s : State) (b : ℕ) (w : List ℕ) → s.mode ≡ mode.Plain
    → ((w ≡ b ∷ []) × (is_ordinary b ≡ true)) ⊎ ((w ≡ 92 ∷ b ∷ []) × (is_special b ≡ true)) → Runs s w (Repeatable s (atom (byte b)))
runs_byte s b w m (inl h) = (
  with_leaf (n.Byte b) no_marks true s,
  ap (run s) h.0 ∙ run_one s _ b [] (step_plain s b m ∙ ap (plain_step s b) (ordinary_sign b h.1)),
  (passed_leaf s (n.Byte b) no_marks true (byte b) refl, refl),
)
runs_byte s b w m (inr h) =
    let u = at_mode mode.Escape s in (
      with_leaf (n.Byte b) no_marks true s,
      ap (run s) h.0 ∙ (run_one s u 92 (b ∷ []) (step_plain s 92 m) ∙ run_one u _ b [] (step_escaped s b h.1)),
      (passed_leaf s (n.Byte b) no_marks true (byte b) refl, refl),
    )

runs_one : (x : Atom) (w : List ℕ) (s : State) → s.mode ≡ mode.Plain → IsOneByte w x → Runs s w (Repeatable s (atom x))
runs_one (byte b) w s m h = runs_byte s b w m h
runs_one any w s m h =
    (with_leaf n.Any no_marks true s, ap (run s) h ∙ run_one s _ 46 [] (step_plain s 46 m), (passed_leaf s n.Any no_marks true any refl, refl))
runs_one (set negated bytes) w s m (is, e, h) =
    let r = runs_bracket s w negated is m h in (
      with_leaf (n.Set negated) r.0 true s,
      r.1,
      (
        passed_leaf s (n.Set negated) r.0 true (set negated bytes) (ap (λ bs. atom (set negated bs)) (r.2 ∙ sym e)),
        refl,
      ),
    )
runs_one start w s m h = absurd h
runs_one end w s m h = absurd h

passed_then : (s t u : State) (a : Tree) (ts : Trees) → Passed s t (more a none) → Passed t u ts → Passed s u (more a ts)
unfolding onto
passed_then s t u a ts p q = record {
  stack = q.stack ∙ ap (onto ts) p.stack;
  frames = q.frames ∙ p.frames;
  number = q.number ∙ p.number;
  branches = q.branches ∙ p.branches;
  pieces = omega (arith, p.pieces, q.pieces);
  opened = omega (arith, p.opened, q.opened);
  mode = q.mode;
}

passed_none : (s : State) → s.mode ≡ mode.Plain → Passed s s none
unfolding onto
passed_none s m = record {
  stack = refl;
  frames = refl;
  number = refl;
  branches = refl;
  pieces = omega arith;
  opened = omega arith;
  mode = m;
}

passed_repeat : (s t : State) (a : Tree) (m : ℕ) (u : Option ℕ) → Repeatable s a t → Repeatable s (rep m u a) (with_repeat m u t)
unfolding onto
passed_repeat s t a m u (p, r) = (
  record {
    stack = ap (put (n.Rep m u) no_marks 1) p.stack;
    frames = p.frames;
    number = p.number;
    branches = p.branches;
    pieces = p.pieces;
    opened = p.opened;
    mode = refl;
  },
  r,
)

-- the state after a group
abbrev after_group : State → State → State
after_group s t = record t {
  stack = put (n.Group t.top.number) no_marks 1 (ended t);
  nodes = t.nodes + 3;
  frames = s.frames;
  top = record s.top { pieces = s.top.pieces + 1; repeatable = true };
}

step_close : (s t : State) → t.mode ≡ mode.Plain → t.frames ≡ s.top ∷ s.frames → step t 41 ≡ Ok (after_group s t)
step_close s t m f = step_plain t 41 m ∙ ap (machine.closed t) f

passed_group : (s t : State) (g : ℕ) (e : Tree) → g ≡ s.opened + 1 → Read (with_group s) t e → Repeatable s (group g e) (after_group s t)
unfolding onto
passed_group s t g e h r = (
  record {
    stack = ap (put (n.Group t.top.number) no_marks 1) r.end ∙ ap (λ k. group k e ∷ s.stack) (r.number ∙ sym h);
    frames = refl;
    number = refl;
    branches = refl;
    pieces = omega arith;
    opened = omega (arith, r.opened);
    mode = r.mode;
  },
  refl,
)

branched : (s t : State) (ts : Trees) → s.top.pieces ≡ 0 → Passed s t ts → Branched s t s.stack (more (branch ts) none) 0
unfolding onto
branched s t ts z p = record {
  rows = put-onto n.Branch ts s.stack t.stack t.top.pieces (omega (arith, p.pieces)) p.stack;
  frames = p.frames;
  number = p.number;
  branches = omega (arith, p.branches);
  opened = omega (arith, p.opened);
  mode = p.mode;
}

branched_none : (s : State) → s.mode ≡ mode.Plain → Branched s s (row_ended s) none 0
unfolding onto
branched_none s m = record {
  rows = refl;
  frames = refl;
  number = refl;
  branches = omega arith;
  opened = omega arith;
  mode = m;
}

branched_then : (s t u : State) (old : List Tree) (b : Tree) (ts : Trees) (j k : ℕ) → Branched s t old (more b none) j → Branched t u (row_ended t) ts k
    → Branched s u old (more b ts) (j + k)
unfolding onto
branched_then s t u old b ts j k p q = record {
  rows = q.rows ∙ ap (onto ts) p.rows;
  frames = q.frames ∙ p.frames;
  number = q.number ∙ p.number;
  branches = omega (arith, p.branches, q.branches);
  opened = omega (arith, p.opened, q.opened);
  mode = q.mode;
}

read_alt : (s t : State) (ts : Trees) (k : ℕ) → s.top.branches ≡ 0 → k + 1 ≡ count_of ts → Branched s t s.stack ts k → Read s t (alt ts)
read_alt s t ts k z e p = record {
  end = put-onto n.Alt ts s.stack (row_ended t) (t.top.branches + 1) (omega (arith, p.branches)) p.rows;
  frames = p.frames;
  number = p.number;
  opened = p.opened;
  mode = p.mode;
}

-- a further branch begins
branched_bar : (s t : State) (b : Tree) → Branched (with_branch s) t (row_ended s) (more b none) 0 → Branched s t (row_ended s) (more b none) 1
branched_bar s t b p = record {
  rows = p.rows;
  frames = p.frames;
  number = p.number;
  branches = omega (arith, p.branches);
  opened = p.opened;
  mode = p.mode;
}

mutual
  pub runs_expression : (t : Tree) (k : ℕ) (w : List ℕ) (s : State) → s.mode ≡ mode.Plain → s.opened ≡ k → s.top.pieces ≡ 0 → s.top.branches ≡ 0
      → IsExpression k w t → Runs s w (λ u. Read s u t)
  runs_expression (alt (more b ts)) k w s m o p z (u, v, e, h, r) =
      let f = runs_branch b k u s m o p h in
      let g = runs_further ts (k + groups b) v f.0 f.2.mode (omega (arith, f.2.opened)) r in (
        g.0,
        ap (run s) e ∙ (run_on s f.0 u v f.1 ∙ g.1),
        read_alt s g.0 (more b ts) (0 + count_of ts) z (omega arith) (branched_then s f.0 g.0 s.stack b ts 0 (count_of ts) f.2 g.2),
      )
  runs_expression (alt none) k w s m o p z h = absurd h
  runs_expression (atom x) k w s m o p z h = absurd h
  runs_expression (branch ts) k w s m o p z h = absurd h
  runs_expression (group g t) k w s m o p z h = absurd h
  runs_expression (rep a b t) k w s m o p z h = absurd h

  pub runs_further : (ts : Trees) (k : ℕ) (w : List ℕ) (s : State) → s.mode ≡ mode.Plain → s.opened ≡ k → AreFurtherBranches k w ts
      → Runs s w (λ t. Branched s t (row_ended s) ts (count_of ts))
  runs_further none k w s m o h = (s, ap (run s) h, branched_none s m)
  runs_further (more b ts) k w s m o (u, v, e, h, r) =
      let s1 = with_branch s in
      let f = runs_branch b k u s1 m o refl h in
      let g = runs_further ts (k + groups b) v f.0 f.2.mode (omega (arith, f.2.opened)) r in
      let j : 1 + count_of ts ≡ suc (count_of ts) = omega arith in (
        g.0,
        ap (run s) e ∙ (run_one s s1 124 (u ++ v) (step_plain s 124 m) ∙ (run_on s1 f.0 u v f.1 ∙ g.1)),
        subst (λ x. Branched s g.0 (row_ended s) (more b ts) x) j (branched_then s f.0 g.0 (row_ended s) b ts 1 (count_of ts) (branched_bar s f.0 b f.2) g.2),
      )

  pub runs_branch : (t : Tree) (k : ℕ) (w : List ℕ) (s : State) → s.mode ≡ mode.Plain → s.opened ≡ k → s.top.pieces ≡ 0 → IsBranch k w t
      → Runs s w (λ u. Branched s u s.stack (more t none) 0)
  runs_branch (branch ts) k w s m o p h = let r = runs_pieces ts k w s m o h in (r.0, r.1, branched s r.0 ts p r.2)
  runs_branch (atom x) k w s m o p h = absurd h
  runs_branch (alt ts) k w s m o p h = absurd h
  runs_branch (group g t) k w s m o p h = absurd h
  runs_branch (rep a b t) k w s m o p h = absurd h

  pub runs_pieces : (ts : Trees) (k : ℕ) (w : List ℕ) (s : State) → s.mode ≡ mode.Plain → s.opened ≡ k → ArePieces k w ts → Runs s w (λ t. Passed s t ts)
  runs_pieces none k w s m o h = (s, ap (run s) h, passed_none s m)
  runs_pieces (more t ts) k w s m o (u, v, e, h, r) =
      let f : Runs s u (λ x. Passed s x (more t none)) = elim h [
        | inl a ↦ runs_anchor t u s m a
        | inr a ↦ (let q = runs_repeated t k u s m o a in (q.0, q.1, q.2.0))
      ] in
      let g = runs_pieces ts (k + groups t) v f.0 f.2.mode (omega (arith, f.2.opened)) r in
      (g.0, ap (run s) e ∙ (run_on s f.0 u v f.1 ∙ g.1), passed_then s f.0 g.0 t ts f.2 g.2)

  pub runs_repeated : (t : Tree) (k : ℕ) (w : List ℕ) (s : State) → s.mode ≡ mode.Plain → s.opened ≡ k → IsRepeated k w t → Runs s w (Repeatable s t)
  runs_repeated (atom x) k w s m o h = runs_one x w s m h
  runs_repeated (group g t) k w s m o (u, e, f, h) =
      let s1 = with_group s in
      let r = runs_expression t (suc k) u s1 m (omega arith) refl refl h in (
        after_group s r.0,
        ap (run s) f ∙ (run_one s s1 40 (u ++ 41 ∷ []) (step_plain s 40 m)
            ∙ (run_on s1 r.0 u (41 ∷ []) r.1 ∙ run_one r.0 _ 41 [] (step_close s r.0 r.2.mode r.2.frames))),
        passed_group s r.0 g t (omega arith) r.2,
      )
  runs_repeated (rep a b t) k w s m o (u, v, e, h, r) =
      let f = runs_repeated t k u s m o h in
      (with_repeat a b f.0, ap (run s) e ∙ (run_on s f.0 u v f.1 ∙ runs_repeat f.0 v a b f.2.0.mode f.2.1 r), passed_repeat s f.0 t a b f.2)
  runs_repeated (alt ts) k w s m o h = absurd h
  runs_repeated (branch ts) k w s m o h = absurd h
