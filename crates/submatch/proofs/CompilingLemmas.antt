-- The children of a node compiled one after another.
use Rattle.std.proofs.Common.{◌≡◌, ℕ, zero, suc, ◌+◌, ◌*◌, ◌<◌, ◌≤◌, ◌⊎◌, inl, inr, refl, sym, ◌∙◌, subst, ap, arith}
use Rattle.std.proofs.Common.{Bool, List, [], ◌∷◌, ◌++◌, length, length-append, get_or, slice_index, Option, Some, None}
use Rattle.std.proofs.Math.ListN.{get_or-append}
use Rattle.std.proofs.Math.Seq.{get_or-append_seam}
use Rattle.std.proofs.Math.Nat.{add-mul}
use Rattle.std.proofs.lemmas.Nat.{mul-le}
use Rattle.posix_ere.specs.Tree.{Tree, atom, alt, branch, group, rep, Trees, none, more}
use Rattle.posix_ere.specs.Parts.{count_of, part, parts_of, times, weight, weights}
use Rattle.posix_ere.specs.Nodes.{tree_at}
use Rattle.submatch.specs.Table.{TableValue, PartValue, column_at, part_at, AreInside, AreParts, Grows, IsAlive, AreAlive, IsShare}
use Rattle.submatch.proofs.GrowingLemmas.{grows_same, grows_along}

-- the weight of the first k trees
pub weights_to : ℕ → Trees → ℕ
weights_to zero ts = 0
weights_to (suc k) none = 0
weights_to (suc k) (more t ts) = weight t + weights_to k ts

pub weights_next : (k : ℕ) (ts : Trees) → k < count_of ts → weights_to (suc k) ts ≡ weights_to k ts + weight (part ts k)
unfolding weights_to
weights_next k none less = absurd (omega arith)
weights_next zero (more t ts) less = omega arith
weights_next (suc k) (more t ts) less = let e : weights_to (suc k) ts ≡ weights_to k ts + weight (part ts k) = weights_next k ts (omega arith) in omega arith

pub weights_within : (k : ℕ) (ts : Trees) → weights_to k ts ≤ weights ts
unfolding weights_to
weights_within zero ts = omega arith
weights_within (suc k) none = omega arith
weights_within (suc k) (more t ts) = let e : weights_to k ts ≤ weights ts = weights_within k ts in omega arith

pub weights_all : (ts : Trees) → weights_to (count_of ts) ts ≡ weights ts
unfolding weights_to
weights_all none = refl
weights_all (more t ts) = ap (λ x. weight t + x) (weights_all ts)

-- what is inside a tree weighs no more than it
pub inside_weighs : (t : Tree) → weights (parts_of t) ≤ weight t
inside_weighs (atom x) = omega arith
inside_weighs (alt ts) = omega arith
inside_weighs (branch none) = omega arith
inside_weighs (branch (more t ts)) = omega arith
inside_weighs (group g t) = omega arith
inside_weighs (rep m o t) =
    let a : 1 * weight t ≤ times m o * weight t = mul-le 1 (weight t) (times m o) (weight t) (some m o) (omega arith) in
    let b : 1 * weight t ≡ weight t = omega arith in omega arith
  where
    some : (m : ℕ) (o : Option ℕ) → 1 ≤ times m o
    some m None = omega arith
    some m (Some n) = omega arith

pub share_within : (t : Tree) (q s s' : ℕ) → s' ≤ s + 4 * (weights (parts_of t) * q) → s' ≤ s + 4 * (weight t * q)
share_within t q s s' h = let a : weights (parts_of t) * q ≤ weight t * q =
    mul-le (weights (parts_of t)) q (weight t) q (inside_weighs t) (omega arith) in omega arith

module _ (fold : Bool) (w : List ℕ) (trees : List Tree) (ts : Trees) (q : ℕ) where
  -- the first k children are compiled
  pub record AreCompiled (old now : TableValue) (inside : List ℕ) (k from to : ℕ) : Type 0 where
    pub parts : AreParts fold w trees now
    pub grows : Grows old now
    pub long : length inside ≡ k
    pub before : (j : ℕ) → j < k → slice_index inside j < length now.parts
    pub trees_are : (j : ℕ) → j < k → tree_at trees (part_at now (slice_index inside j)).at ≡ part ts j
    pub share : IsShare ((j : ℕ) → j < k → IsAlive now (slice_index inside j)) k (weights_to k ts) q from to

  pub compiled_none : (T : TableValue) (inside : List ℕ) (s : ℕ) → inside ≡ [] → AreParts fold w trees T → AreCompiled T T inside 0 s s
  unfolding weights_to
  compiled_none T inside s e parts = subst (λ xs. AreCompiled T T xs 0 s s) (sym e) (record {
    parts = parts;
    grows = grows_same T;
    long = refl;
    before = λ j less. absurd (omega arith);
    trees_are = λ j less. absurd (omega arith);
    share = let z : 0 * q ≡ 0 = omega arith in record { most = omega arith; saved = λ a. omega arith; heavy = λ a. omega arith };
  })

  below_or_at : (j k : ℕ) → j < k + 1 → (j < k) ⊎ (j ≡ k)
  below_or_at j k h = grind arith

  -- alive in the table that grew, alive before
  alive_before : (mid now : TableValue) (x : ℕ) → AreParts fold w trees mid → Grows mid now → x < length mid.parts → IsAlive now x → IsAlive mid x
  alive_before mid now x parts grows less alive =
      subst (λ rows. 0 < length rows)
      (ap (λ (p : PartValue). column_at now p.own) ((grows.parts x less).1) ∙ (grows.columns (part_at mid x).own ((parts x less).own.there)).1) alive

  pub compiled_next : (old mid now : TableValue) (inside new : List ℕ) (k x child from s to : ℕ) → k < count_of ts → AreParts fold w trees now → Grows mid now →
      x < length now.parts → (part_at now x).at ≡ child → tree_at trees child ≡ part ts k → new ≡ inside ++ x ∷ [] →
      IsShare (IsAlive now x) 1 (weight (tree_at trees child)) q s to → AreCompiled old mid inside k from s → AreCompiled old now new (k + 1) from to
  compiled_next old mid now inside new k x child from s to less parts grows there number is e one so_far =
      let longer : length (inside ++ x ∷ []) ≡ length inside + 1 = length-append inside (x ∷ []) in
      let long : length inside ≡ k = so_far.long in
      let last : slice_index (inside ++ x ∷ []) k ≡ x = subst (λ n. get_or (inside ++ x ∷ []) n 0 ≡ x) long (get_or-append_seam inside x [] 0) in
      let earlier : (j : ℕ) → j < k → slice_index (inside ++ x ∷ []) j ≡ slice_index inside j =
      λ j before. get_or-append inside (x ∷ []) 0 j (omega arith) in
      subst (λ xs. AreCompiled old now xs (k + 1) from to) (sym e) (record {
        parts = parts;
        grows = grows_along old mid now so_far.grows grows;
        long = omega arith;
        before = λ j below. elim (below_or_at j k below) [
          | inl before ↦ subst (λ y. y < length now.parts) (sym (earlier j before)) ((grows.parts (slice_index inside j) (so_far.before j before)).0)
          | inr same ↦ subst (λ i. slice_index (inside ++ x ∷ []) i < length now.parts) (sym same) (subst (λ y. y < length now.parts) (sym last) there)
        ];
        trees_are = λ j below. elim (below_or_at j k below) [
          | inl before ↦ subst (λ y. tree_at trees (part_at now y).at ≡ part ts j) (sym (earlier j before))
              (ap (λ (p : PartValue). tree_at trees p.at) ((grows.parts (slice_index inside j) (so_far.before j before)).1) ∙ so_far.trees_are j before)
          | inr same ↦ subst (λ i. tree_at trees (part_at now (slice_index (inside ++ x ∷ []) i)).at ≡ part ts i) (sym same)
              (subst (λ y. tree_at trees (part_at now y).at ≡ part ts k) (sym last) (ap (λ a. tree_at trees a) number ∙ is))
        ];
        share = added (λ alive j before. alive_before mid now (slice_index inside j) so_far.parts grows (so_far.before j before)
            (subst (λ y. IsAlive now y) (earlier j before) (alive j (omega arith))))
            (λ alive. subst (λ y. IsAlive now y) last (alive k (omega arith)));
      })
    where
      added : {All : Type 0} → (All → (j : ℕ) → j < k → IsAlive mid (slice_index inside j)) → (All → IsAlive now x) →
          IsShare All (k + 1) (weights_to (k + 1) ts) q from to
      added first alone =
          let next_k : k + 1 ≡ suc k = omega arith in
          let sum : weights_to (k + 1) ts ≡ weights_to k ts + weight (part ts k) =
          subst (λ n. weights_to n ts ≡ weights_to k ts + weight (part ts k)) (sym next_k)
          (weights_next k ts less) in
          let whole : weights_to (k + 1) ts * q ≡ (weights_to k ts + weight (part ts k)) * q = ap (λ n. n * q) sum in
          let split : (weights_to k ts + weight (part ts k)) * q ≡ weights_to k ts * q + weight (part ts k) * q =
          add-mul (weights_to k ts) (weight (part ts k)) q in
          let counts : (k + 1) * q ≡ k * q + 1 * q = add-mul k 1 q in
          let same : weight (tree_at trees child) ≡ weight (part ts k) = ap weight is in
          let here : IsShare (IsAlive now x) 1 (weight (part ts k)) q s to = subst (λ n. IsShare (IsAlive now x) 1 n q s to) same one in
          let up : to ≤ s + 4 * (weight (part ts k) * q) = here.most in
          let so : s ≤ from + 4 * (weights_to k ts * q) = so_far.share.most in
          record {
            most = omega arith;
            saved = λ a.
                let l : to + 2 * (1 * q) ≤ s + 4 * (weight (part ts k) * q) = here.saved (alone a) in
                let b : s + 2 * (k * q) ≤ from + 4 * (weights_to k ts * q) = so_far.share.saved (first a) in omega arith;
            heavy = λ a.
                let l : 1 ≤ weight (part ts k) = here.heavy (alone a) in
                let b : k ≤ weights_to k ts = so_far.share.heavy (first a) in omega arith;
          }

  -- what was spent, also where the next child fails
  pub spent_so_far : (k child from s to : ℕ) → k < count_of ts → tree_at trees child ≡ part ts k → s ≤ from + 4 * (weights_to k ts * q) →
      to ≤ s + 4 * (weight (tree_at trees child) * q) → to ≤ from + 4 * (weights ts * q)
  spent_so_far k child from s to less is so h =
      let sum : weights_to (suc k) ts ≡ weights_to k ts + weight (part ts k) = weights_next k ts less in
      let whole : weights_to (suc k) ts * q ≡ (weights_to k ts + weight (part ts k)) * q = ap (λ n. n * q) sum in
      let split : (weights_to k ts + weight (part ts k)) * q ≡ weights_to k ts * q + weight (part ts k) * q =
      add-mul (weights_to k ts) (weight (part ts k)) q in
      let same : weight (tree_at trees child) * q ≡ weight (part ts k) * q = ap (λ t. weight t * q) is in
      let up : weights_to (suc k) ts * q ≤ weights ts * q =
      mul-le (weights_to (suc k) ts) q (weights ts) q (weights_within (suc k) ts) (omega arith) in omega arith

  pub all_inside : (old now : TableValue) (inside : List ℕ) (k from to : ℕ) → k ≡ count_of ts → AreCompiled old now inside k from to →
      AreInside trees now (length now.parts) inside ts
  all_inside old now inside k from to e h = record {
    count = h.long ∙ e;
    before = λ j less. h.before j (subst (λ n. j < n) (sym e) less);
    trees_are = λ j less. h.trees_are j (subst (λ n. j < n) (sym e) less);
  }

  pub all_shared : (old now : TableValue) (inside : List ℕ) (k from to : ℕ) → k ≡ count_of ts → AreCompiled old now inside k from to →
      IsShare (AreAlive now inside) (count_of ts) (weights ts) q from to
  all_shared old now inside k from to e h =
      let s : IsShare ((j : ℕ) → j < k → IsAlive now (slice_index inside j)) (count_of ts) (weights ts) q from to =
      subst (λ n. IsShare ((j : ℕ) → j < k → IsAlive now (slice_index inside j)) (count_of ts) n q from to) (weights_all ts)
      (subst (λ n. IsShare ((j : ℕ) → j < k → IsAlive now (slice_index inside j)) n (weights_to n ts) q from to) e h.share) in
      let alive : AreAlive now inside → (j : ℕ) → j < k → IsAlive now (slice_index inside j) = λ a j less. a j (subst (λ n. j < n) (sym h.long) less) in
      record { most = s.most; saved = λ a. s.saved (alive a); heavy = λ a. s.heavy (alive a) }
