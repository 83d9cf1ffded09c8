-- The greatest parse rebuilt: its groups, part by part.
use Rattle.std.proofs.Common.{◌≡◌, ℕ, zero, suc, ◌+◌, ◌<◌, ◌≤◌, ◌⊎◌, inl, inr, refl, sym, ◌∙◌, subst, ap, arith, Bool}
use Rattle.std.proofs.Common.{List, [], ◌∷◌, ◌++◌, length, Option, Some, None}
use Rattle.posix_ere.specs.Tree.{Tree, Trees, branch, none, more}
use Rattle.posix_ere.specs.Parts.{count_of, part, parts_of}
use Rattle.posix_ere.specs.Nodes.{node_of}
use Rattle.posix_ere.specs.declared.node.Node.TheVariants.{Alt, Branch, Group, Rep}
use Rattle.submatch.specs.declared.spans.Span.{Span}
use Rattle.submatch.specs.Parses.{Parses, no_more, next, IsParse, IsAlone, ArePieces, IsBranch, AreIterations}
use Rattle.submatch.specs.Greater.{IsGreater, AreGreatest, IsGreatestParse, IsPartAtLeast}
use Rattle.submatch.specs.Groups.{Taken, groups_of, groups_of_first, groups_of_pieces, groups_of_branch, with_group, with_groups}
use Rattle.submatch.specs.Ends.{Reaches, RowReaches, IsHeadEnd, IsLongest, TellsLongest, LeavesGroupsOf, AddsGroups, IsFirst, parts_from}
use Rattle.submatch.proofs.EndsLemmas.{parse_within}
use Rattle.submatch.proofs.GreedyLemmas.{greedy_of_greatest, alone_of_greatest, settled}
use Rattle.submatch.proofs.TurningLemmas.{head_is_longest}
use Rattle.submatch.proofs.EndsOfRowsLemmas.{parts_split, parts_end}
use Rattle.submatch.proofs.EndsOfNodesLemmas.{branch_to, branch_from, branch_counted, alone_to, is_alt, is_branch, is_group, is_rep}

pub not_zero : (n : ℕ) → (n ≡ 0 → ⊥) → 0 < n
not_zero zero other = absurd (other refl)
not_zero (suc n) other = omega arith

-- groups taken in turn, in two parts
pub with_groups-append : (spans : List (Option Span)) (xs ys : List Taken) → with_groups spans (xs ++ ys) ≡ with_groups (with_groups spans xs) ys
with_groups-append spans [] ys = refl
with_groups-append spans (x ∷ xs) ys = with_groups-append (with_group spans x) xs ys

module _ (fold : Bool) (w : List ℕ) (ts : Trees) (from to : ℕ) where
  -- the groups of the greatest pieces ps are those written so far and those of what is left of them
  pub record AreLeft (k place : ℕ) (old now : List (Option Span)) (ps : Parses) : Type 0 where
    pub rest : Parses
    pub greatest : AreGreatest (ArePieces fold w (parts_from k ts) place to) rest
    pub written : with_groups old (groups_of_pieces ts from ps) ≡ with_groups now (groups_of_pieces (parts_from k ts) place rest)

  -- the loop over pieces has come to this place after the first k
  pub record HaveCome (k place : ℕ) (old now : List (Option Span)) : Type 0 where
    pub inside : place ≤ length w
    pub reached : RowReaches (ArePieces fold w (parts_from k ts)) place to
    pub left : (ps : Parses) → AreGreatest (ArePieces fold w ts from to) ps → AreLeft k place old now ps

  pub have_begun : (old : List (Option Span)) → from ≤ length w → RowReaches (ArePieces fold w ts) from to → HaveCome 0 from old old
  have_begun old within reached = record { inside = within; reached = reached; left = λ ps g. record { rest = ps; greatest = g; written = refl } }

  -- the groups of one piece more
  Rebuilds : Tree → ℕ → ℕ → List (Option Span) → List (Option Span) → Type 0
  Rebuilds t i j old new = (c : ℕ) (a : Parses) → IsGreatestParse (IsParse fold w t i j) c a → new ≡ with_groups old (groups_of t i j c a)

  step_pieces : (t : Tree) (others : Trees) (place e : ℕ) (now new : List (Option Span)) (qs : Parses) →
      IsLongest (IsHeadEnd (IsParse fold w t) (ArePieces fold w others) place to) e → Rebuilds t place e now new →
      AreGreatest (ArePieces fold w (more t others) place to) qs →
      (rest : Parses) × AreGreatest (ArePieces fold w others e to) rest ×
      (with_groups now (groups_of_pieces (more t others) place qs) ≡ with_groups new (groups_of_pieces others e rest))
  unfolding Rebuilds
  step_pieces t others place e now new no_more longest rebuilt g = absurd g.holds
  step_pieces t others place e now new (next f c a rest) longest rebuilt g =
      let greedy = greedy_of_greatest (IsParse fold w t) (ArePieces fold w others) place to f c a rest g in
      let same : e ≡ f = head_is_longest (IsParse fold w t) (ArePieces fold w others) place to f e c a rest greedy longest in
      let written : new ≡ with_groups now (groups_of t place f c a) =
      subst (λ x. new ≡ with_groups now (groups_of t place x c a)) same
      (rebuilt c a (subst (λ x. IsGreatestParse (IsParse fold w t place x) c a) (sym same) greedy.first)) in (
        rest,
        subst (λ x. AreGreatest (ArePieces fold w others x to) rest) (sym same) greedy.others,
        with_groups-append now (groups_of t place f c a) (groups_of_pieces others f rest) ∙
            ap (λ x. with_groups x (groups_of_pieces others f rest)) (sym written) ∙
            ap (λ x. with_groups new (groups_of_pieces others x rest)) (sym same),
      )

  pub have_gone_on : (k place e : ℕ) (old now new : List (Option Span)) → k < count_of ts →
      IsLongest (IsHeadEnd (IsParse fold w (part ts k)) (ArePieces fold w (parts_from (k + 1) ts)) place to) e →
      ((c : ℕ) (a : Parses) → IsGreatestParse (IsParse fold w (part ts k) place e) c a → new ≡ with_groups now (groups_of (part ts k) place e c a)) →
      HaveCome k place old now → HaveCome (k + 1) e old new
  unfolding Rebuilds
  have_gone_on k place e old now new less longest rebuilt so_far =
      let next_k : k + 1 ≡ suc k = omega arith in
      let longest' : IsLongest (IsHeadEnd (IsParse fold w (part ts k)) (ArePieces fold w (parts_from (suc k) ts)) place to) e =
      subst (λ x. IsLongest (IsHeadEnd (IsParse fold w (part ts k)) (ArePieces fold w (parts_from x ts)) place to) e) next_k longest in
      record {
        inside = (parse_within fold w (part ts k) place e longest.holds.0.0 longest.holds.0.1 longest.holds.0.2).inside so_far.inside;
        reached = longest.holds.1;
        left = λ ps g.
            let l : AreLeft k place old now ps = so_far.left ps g in
            let split : parts_from k ts ≡ more (part ts k) (parts_from (suc k) ts) = parts_split k ts less in
            let s = step_pieces (part ts k) (parts_from (suc k) ts) place e now new l.rest longest' rebuilt
            (subst (λ x. AreGreatest (ArePieces fold w x place to) l.rest) split l.greatest) in
            subst (λ x. AreLeft x e old new ps) (sym next_k) (record {
              rest = s.0;
              greatest = s.1;
              written = l.written ∙ ap (λ x. with_groups now (groups_of_pieces x place l.rest)) split ∙ s.2;
            });
      }

  -- at the end all groups are written
  pub have_ended : (k place : ℕ) (old now : List (Option Span)) → k ≡ count_of ts → HaveCome k place old now →
      (ps : Parses) → AreGreatest (ArePieces fold w ts from to) ps → now ≡ with_groups old (groups_of_pieces ts from ps)
  have_ended k place old now e so_far ps g =
      let l : AreLeft k place old now ps = so_far.left ps g in
      let end : parts_from k ts ≡ none = subst (λ x. parts_from x ts ≡ none) (sym e) (parts_end ts) in
      sym (l.written ∙ ap (λ x. with_groups now (groups_of_pieces x place l.rest)) end)

  row_head : (t : Tree) (others : Trees) (place : ℕ) (ps : Parses) → ArePieces fold w (more t others) place to ps →
      (e : ℕ) × IsHeadEnd (IsParse fold w t) (ArePieces fold w others) place to e
  row_head t others place no_more h = absurd h
  row_head t others place (next e c a rest) h = (e, ((c, a, h.0), (rest, h.1)))

  -- a further piece is there
  head_there : (k place : ℕ) (old now : List (Option Span)) → k < count_of ts → HaveCome k place old now →
      (e : ℕ) × IsHeadEnd (IsParse fold w (part ts k)) (ArePieces fold w (parts_from (suc k) ts)) place to e
  head_there k place old now less so_far = row_head (part ts k) (parts_from (suc k) ts) place so_far.reached.0
      (subst (λ x. ArePieces fold w x place to so_far.reached.0) (parts_split k ts less) so_far.reached.1)

  pub have_not_stopped : (k place : ℕ) (old now : List (Option Span)) → k < count_of ts →
      TellsLongest (IsHeadEnd (IsParse fold w (part ts k)) (ArePieces fold w (parts_from (k + 1) ts)) place to) None →
      HaveCome k place old now → ⊥
  have_not_stopped k place old now less never so_far =
      let next_k : k + 1 ≡ suc k = omega arith in
      let h = head_there k place old now less so_far in
      never h.0 (subst (λ x. IsHeadEnd (IsParse fold w (part ts k)) (ArePieces fold w (parts_from x ts)) place to h.0) (sym next_k) h.1)

  -- what the last piece takes is what is left
  pub last_reached : (k place : ℕ) → suc k ≡ count_of ts → RowReaches (ArePieces fold w (parts_from k ts)) place to
      → Reaches (IsParse fold w (part ts k)) place to
  last_reached k place last left =
      let end : parts_from (suc k) ts ≡ none = subst (λ x. parts_from x ts ≡ none) (sym last) (parts_end ts) in
      let h = row_head (part ts k) (parts_from (suc k) ts) place left.0
      (subst (λ x. ArePieces fold w x place to left.0) (parts_split k ts (omega arith)) left.1) in
      let head : IsHeadEnd (IsParse fold w (part ts k)) (ArePieces fold w none) place to h.0 =
      subst (λ x. IsHeadEnd (IsParse fold w (part ts k)) (ArePieces fold w x) place to h.0) end h.1 in
      subst (λ x. Reaches (IsParse fold w (part ts k)) place x) head.1.1.0 head.0

  -- the last piece takes what is left
  pub last_takes : (k place : ℕ) → suc k ≡ count_of ts → RowReaches (ArePieces fold w (parts_from k ts)) place to →
      IsLongest (IsHeadEnd (IsParse fold w (part ts k)) (ArePieces fold w (parts_from (k + 1) ts)) place to) to
  last_takes k place last left =
      let next_k : k + 1 ≡ suc k = omega arith in
      let end : parts_from (k + 1) ts ≡ none = subst (λ x. parts_from x ts ≡ none) (sym (next_k ∙ last)) (parts_end ts) in
      subst (λ x. IsLongest (IsHeadEnd (IsParse fold w (part ts k)) (ArePieces fold w x) place to) to) (sym end) (record {
        holds = (last_reached k place last left, (no_more, (refl, refl)));
        most = λ f g. let same : f ≡ to = g.1.1.0 in omega arith;
      })

  -- with the last piece all groups are written
  pub have_taken_all : (k place : ℕ) (old now new : List (Option Span)) → suc k ≡ count_of ts →
      ((c : ℕ) (a : Parses) → IsGreatestParse (IsParse fold w (part ts k) place to) c a → new ≡ with_groups now (groups_of (part ts k) place to c a)) →
      HaveCome k place old now → (ps : Parses) → AreGreatest (ArePieces fold w ts from to) ps → new ≡ with_groups old (groups_of_pieces ts from ps)
  have_taken_all k place old now new last rebuilt so_far =
      let next_k : k + 1 ≡ suc k = omega arith in
      have_ended (k + 1) to old new (next_k ∙ last)
      (have_gone_on k place to old now new (omega arith) (last_takes k place last so_far.reached) rebuilt so_far)

  -- the groups of a branch are those of its tree
  groups_of_branch_is : (us : Trees) (k i : ℕ) (ps : Parses) → k < count_of us → groups_of_branch us k i ps ≡ groups_of_first (groups_of (part us k)) i ps
  groups_of_branch_is none k i ps less = absurd (omega arith)
  groups_of_branch_is (more t us) zero i ps less = refl
  groups_of_branch_is (more t us) (suc k) i ps less = groups_of_branch_is us k i ps (omega arith)

  -- a greatest row of one has the groups of its parse
  pub alone_groups : (t : Tree) (old new : List (Option Span)) (ps : Parses) → AreGreatest (IsAlone (IsParse fold w t) from to) ps →
      ((c : ℕ) (a : Parses) → IsGreatestParse (IsParse fold w t from to) c a → new ≡ with_groups old (groups_of t from to c a)) →
      new ≡ with_groups old (groups_of_first (groups_of t) from ps)
  alone_groups t old new no_more g rebuilt = absurd g.holds
  alone_groups t old new (next e c a rest) g rebuilt =
      let h = alone_of_greatest (IsParse fold w t) from to e c a rest g in
      rebuilt c a h.2 ∙ ap (λ x. with_groups old (groups_of t from x c a)) (sym h.0)

  -- the greatest parse of alternatives is of the first branch that reaches the end
  pub branch_rebuilt : (k : ℕ) (old new : List (Option Span)) (c : ℕ) (a : Parses) → k < count_of ts →
      ((d : ℕ) (b : Parses) → d < k → IsBranch fold w ts d from to b → ⊥) → Reaches (IsParse fold w (part ts k)) from to →
      ((d : ℕ) (b : Parses) → IsGreatestParse (IsParse fold w (part ts k) from to) d b → new ≡ with_groups old (groups_of (part ts k) from to d b)) →
      IsGreatestParse (λ d b. IsBranch fold w ts d from to b) c a → new ≡ with_groups old (groups_of_branch ts c from a)
  branch_rebuilt k old new c a less earlier reaches rebuilt g =
      let here : IsBranch fold w ts k from to (next to reaches.0 reaches.1 no_more) =
      branch_from fold w ts k from to (next to reaches.0 reaches.1 no_more) less (reaches.2, (refl, refl)) in
      let same : c ≡ k = number_is k c a (next to reaches.0 reaches.1 no_more) (λ d. earlier c a d g.holds)
      (g.most k (next to reaches.0 reaches.1 no_more) here) in
      let in_k : AreGreatest (IsAlone (IsParse fold w (part ts k)) from to) a = record {
        holds = branch_to fold w ts k from to a (subst (λ x. IsBranch fold w ts x from to a) same g.holds);
        most = λ b h. same_number c a b (subst (λ x. IsPartAtLeast c a x b) (sym same) (g.most k b (branch_from fold w ts k from to b less h)));
      } in
      alone_groups (part ts k) old new a in_k rebuilt ∙
      ap (λ x. with_groups old x) (sym (groups_of_branch_is ts k from a less)) ∙
      ap (λ x. with_groups old (groups_of_branch ts x from a)) (sym same)
    where
      number_is : (k c : ℕ) (a b : Parses) → (c < k → ⊥) → IsPartAtLeast c a k b → c ≡ k
      number_is k c a b not_less (inl less) = absurd (not_less less)
      number_is k c a b not_less (inr h) = h.0

      same_number : (c : ℕ) (a b : Parses) → IsPartAtLeast c a c b → (a ≡ b) ⊎ IsGreater a b
      same_number c a b (inl less) = absurd (omega arith)
      same_number c a b (inr h) = h.1

  -- where no earlier branch reaches the end, the last one does
  pub last_reaches : (last : ℕ) → last + 1 ≡ count_of ts → ((d : ℕ) (b : Parses) → d < last → IsBranch fold w ts d from to b → ⊥) →
      (c : ℕ) (a : Parses) → IsBranch fold w ts c from to a → Reaches (IsParse fold w (part ts last)) from to
  last_reaches last e earlier c a h = elim (before_or_last c (branch_counted fold w ts c from to a h)) [
    | inl before ↦ absurd (earlier c a before h)
    | inr same ↦ alone_to fold w (part ts last) from to (a, branch_to fold w ts last from to a (subst (λ x. IsBranch fold w ts x from to a) same h))
  ]
    where
      before_or_last : (c : ℕ) → c < count_of ts → (c < last) ⊎ (c ≡ last)
      before_or_last c less = split c last (omega arith)
        where
          split : (c last : ℕ) → c < last + 1 → (c < last) ⊎ (c ≡ last)
          split c last h = grind arith

-- a branch that does not reach the end, after those before it
pub not_this_branch : (fold : Bool) (w : List ℕ) (ts : Trees) (from to k : ℕ) → (Reaches (IsParse fold w (part ts k)) from to → ⊥) →
    ((d : ℕ) (b : Parses) → d < k → IsBranch fold w ts d from to b → ⊥) →
    (d : ℕ) (b : Parses) → d < k + 1 → IsBranch fold w ts d from to b → ⊥
not_this_branch fold w ts from to k here earlier d b less h = elim (before_or_at d k less) [
  | inl before ↦ earlier d b before h
  | inr same ↦ here (alone_to fold w (part ts k) from to (b, branch_to fold w ts k from to b (subst (λ x. IsBranch fold w ts x from to b) same h)))
]
  where
    before_or_at : (d k : ℕ) → d < k + 1 → (d < k) ⊎ (d ≡ k)
    before_or_at d k h = grind arith

module _ (fold : Bool) (w : List ℕ) (from to : ℕ) (old new : List (Option Span)) where
  -- the groups of the greatest parse of a part over this stretch were written
  abbrev pub IsRebuilt : List (Option Span) → Tree → Type 0
  IsRebuilt spans t = (c : ℕ) (a : Parses) → IsGreatestParse (IsParse fold w t from to) c a → new ≡ with_groups spans (groups_of t from to c a)

  pub alt_rebuilt : (t : Tree) → node_of t ≡ Alt →
      ((c : ℕ) (a : Parses) → IsGreatestParse (λ d b. IsBranch fold w (parts_of t) d from to b) c a
      → new ≡ with_groups old (groups_of_branch (parts_of t) c from a)) →
      IsRebuilt old t
  alt_rebuilt t e h = subst (λ x. IsRebuilt old x) (sym (is_alt t e)) h

  pub branch_is_rebuilt : (t : Tree) → node_of t ≡ Branch →
      ((ps : Parses) → AreGreatest (ArePieces fold w (parts_of t) from to) ps → new ≡ with_groups old (groups_of_pieces (parts_of t) from ps)) →
      IsRebuilt old t
  branch_is_rebuilt t e h = subst (λ x. IsRebuilt old x) (sym (is_branch t e)) (λ c a g. h a ((settled (ArePieces fold w (parts_of t) from to) c a).0 g).1)

  pub group_rebuilt : (t : Tree) (g : ℕ) → node_of t ≡ Group g →
      IsRebuilt (with_group old (record { number = g; span = record { from = from; to = to } })) (part (parts_of t) 0) → IsRebuilt old t
  group_rebuilt t g e h = subst (λ x. IsRebuilt old x) (sym (is_group t g e)) (λ c a greatest.
      alone_groups fold w none from to (part (parts_of t) 0) (with_group old (record { number = g; span = record { from = from; to = to } })) new a
      ((settled (IsAlone (IsParse fold w (part (parts_of t) 0)) from to) c a).0 greatest).1 h)

  pub rep_rebuilt : (t : Tree) (m : ℕ) (n : Option ℕ) (s : Span) → node_of t ≡ Rep m n →
      ((ps : Parses) → AreGreatest (AreIterations (IsParse fold w (part (parts_of t) 0)) m n 0 from to) ps
      → LeavesGroupsOf fold w (part (parts_of t) 0) from ps (Some s)) →
      ((c : ℕ) (a : Parses) → IsGreatestParse (IsParse fold w (part (parts_of t) 0) s.from s.to) c a
      → new ≡ with_groups old (groups_of (part (parts_of t) 0) s.from s.to c a)) →
      IsRebuilt old t
  rep_rebuilt t m n s e leaves h = subst (λ x. IsRebuilt old x) (sym (is_rep t m n e)) (λ c a greatest.
      let l = leaves a ((settled (AreIterations (IsParse fold w (part (parts_of t) 0)) m n 0 from to) c a).0 greatest).1 in
      h l.0 l.1 l.2 ∙ ap (λ x. with_groups old x) (sym l.3))

  pub rep_empty : (t : Tree) (m : ℕ) (n : Option ℕ) → node_of t ≡ Rep m n →
      ((ps : Parses) → AreGreatest (AreIterations (IsParse fold w (part (parts_of t) 0)) m n 0 from to) ps
      → LeavesGroupsOf fold w (part (parts_of t) 0) from ps None) →
      new ≡ old → IsRebuilt old t
  rep_empty t m n e leaves same = subst (λ x. IsRebuilt old x) (sym (is_rep t m n e)) (λ c a greatest.
      let l = leaves a ((settled (AreIterations (IsParse fold w (part (parts_of t) 0)) m n 0 from to) c a).0 greatest).1 in
      same ∙ ap (λ x. with_groups old x) (sym l))

-- the groups of the earliest alternative
pub earliest_rebuilt : (fold : Bool) (w : List ℕ) (t u : Tree) (s : Span) (old new : List (Option Span)) → node_of t ≡ Alt → IsFirst fold w (parts_of t) s u →
    Reaches (IsParse fold w u) s.from s.to → AddsGroups fold w u s old new → AddsGroups fold w t s old new
earliest_rebuilt fold w t u s old new e first reached rebuilt = alt_rebuilt fold w s.from s.to old new t e
    (λ c a. branch_rebuilt fold w (parts_of t) s.from s.to first.number old new c a first.among first.earlier
    (subst (λ x. Reaches (IsParse fold w x) s.from s.to) first.is reached)
    (subst (λ x. AddsGroups fold w x s old new) first.is rebuilt))

-- what a part reaches, the parts inside it do
module _ (fold : Bool) (w : List ℕ) (t : Tree) (i j : ℕ) where
  pub alt_reaches : node_of t ≡ Alt → Reaches (IsParse fold w t) i j → (c : ℕ) × (a : Parses) × IsBranch fold w (parts_of t) c i j a
  alt_reaches e h = subst (λ x. Reaches (IsParse fold w x) i j) (is_alt t e) h

  pub branch_reaches : node_of t ≡ Branch → Reaches (IsParse fold w t) i j → RowReaches (ArePieces fold w (parts_of t)) i j
  branch_reaches e h =
      let r : Reaches (IsParse fold w (branch (parts_of t))) i j = subst (λ x. Reaches (IsParse fold w x) i j) (is_branch t e) h in (r.1, r.2.1)

  pub reaches_inside : i ≤ length w → Reaches (IsParse fold w t) i j → j ≤ length w
  reaches_inside within h = (parse_within fold w t i j h.0 h.1 h.2).inside within

  pub some_branch : node_of t ≡ Alt → Reaches (IsParse fold w t) i j → 1 ≤ count_of (parts_of t)
  some_branch e h = let b = alt_reaches e h in
      let less : b.0 < count_of (parts_of t) = branch_counted fold w (parts_of t) b.0 i j b.1 b.2 in omega arith
