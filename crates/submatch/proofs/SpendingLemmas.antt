-- Rebuilding each kind of part keeps its share of look-ups.
use Rattle.std.proofs.Common.{◌≡◌, ℕ, zero, suc, ◌+◌, ◌-◌, ◌*◌, ◌<◌, ◌≤◌, refl, sym, ◌∙◌, subst, ap, arith, Bool, List, Option, Some, None, ◌⊎◌, inl, inr}
use Rattle.std.proofs.Math.Nat.{add-mul, mul-add}
use Rattle.std.proofs.lemmas.Nat.{mul-le}
use Rattle.posix_ere.specs.Tree.{Tree, atom, alt, branch, group, rep, Trees, none, more}
use Rattle.posix_ere.specs.Parts.{count_of, part, parts_of, times, weight, weights}
use Rattle.posix_ere.specs.Nodes.{node_of}
use Rattle.posix_ere.specs.declared.node.Node.TheVariants.{Alt, Branch, Rep}
use Rattle.submatch.specs.Parses.{Parses, no_more, next, IsParse, ArePieces, IsBranch}
use Rattle.submatch.specs.Ends.{IsLeaf}
use Rattle.submatch.specs.Table.{last_count}
use Rattle.submatch.proofs.EndsOfNodesLemmas.{is_alt, is_branch, is_rep}
use Rattle.submatch.proofs.CompilingLemmas.{weights_to, weights_next, weights_all}

one_times : (q : ℕ) → 1 * q ≡ q
one_times q = omega arith

-- one look-up for each place, and one more, are at most two for each pair of places
pub places_within : (n : ℕ) → n + 1 ≤ (n + 1) * (n + 1)
places_within n =
    let a : 1 * (n + 1) ≤ (n + 1) * (n + 1) = mul-le 1 (n + 1) (n + 1) (n + 1) (omega arith) (omega arith) in
    let o : 1 * (n + 1) ≡ n + 1 = one_times (n + 1) in omega arith

pub turn_within : (n : ℕ) → n + 2 ≤ 2 * ((n + 1) * (n + 1))
turn_within n = let a : n + 1 ≤ (n + 1) * (n + 1) = places_within n in omega arith

-- what can match weighs something
mutual
  pub weighs : (fold : Bool) (w : List ℕ) (t : Tree) (i j c : ℕ) (a : Parses) → IsParse fold w t i j c a → 1 ≤ weight t
  weighs fold w (atom x) i j c a h = omega arith
  weighs fold w (alt ts) i j c a h = let b : 1 ≤ weights ts = branch_weighs fold w ts c i j a h in omega arith
  weighs fold w (branch none) i j c a h = omega arith
  weighs fold w (branch (more t ts)) i j c a h = let b : 1 ≤ weights (more t ts) = pieces_weigh fold w (more t ts) i j a (omega arith) h.1 in omega arith
  weighs fold w (group g t) i j c a h = omega arith
  weighs fold w (rep m n t) i j c a h = omega arith

  pieces_weigh : (fold : Bool) (w : List ℕ) (ts : Trees) (i j : ℕ) (ps : Parses) → 0 < count_of ts → ArePieces fold w ts i j ps → 1 ≤ weights ts
  pieces_weigh fold w none i j ps some h = absurd (omega arith)
  pieces_weigh fold w (more t ts) i j no_more some h = absurd h
  pieces_weigh fold w (more t ts) i j (next e c a rest) some h = let b : 1 ≤ weight t = weighs fold w t i e c a h.0 in omega arith

  branch_weighs : (fold : Bool) (w : List ℕ) (ts : Trees) (c i j : ℕ) (ps : Parses) → IsBranch fold w ts c i j ps → 1 ≤ weights ts
  branch_weighs fold w none c i j ps h = absurd h
  branch_weighs fold w (more t ts) zero i j no_more h = absurd h
  branch_weighs fold w (more t ts) zero i j (next e c a rest) h = let b : 1 ≤ weight t = weighs fold w t i e c a h.0 in omega arith
  branch_weighs fold w (more t ts) (suc c) i j ps h = let b : 1 ≤ weights ts = branch_weighs fold w ts c i j ps h in omega arith

part_weighs : (k : ℕ) (ts : Trees) → k < count_of ts → weight (part ts k) ≤ weights ts
part_weighs k none less = absurd (omega arith)
part_weighs zero (more t ts) less = omega arith
part_weighs (suc k) (more t ts) less = let a : weight (part ts k) ≤ weights ts = part_weighs k ts (omega arith) in omega arith

pub spent_leaf : (t : Tree) (q s : ℕ) → IsLeaf (node_of t) → s + 2 * q ≤ s + 4 * (weight t * q)
spent_leaf (atom x) q s leaf = let o : 1 * q ≡ q = one_times q in omega arith
spent_leaf (alt ts) q s leaf = absurd leaf
spent_leaf (branch ts) q s leaf = absurd leaf
spent_leaf (group g t) q s leaf = absurd leaf
spent_leaf (rep m n t) q s leaf = absurd leaf

-- one look-up for each alternative but the last
pub spent_alt : (t : Tree) (k looked q s mid to : ℕ) → node_of t ≡ Alt → k < count_of (parts_of t) → looked + 1 ≤ count_of (parts_of t) → 1 ≤ q →
    mid ≤ s + looked → to + 2 * q ≤ mid + 4 * (weight (part (parts_of t) k) * q) → to + 2 * q ≤ s + 4 * (weight t * q)
spent_alt t k looked q s mid to e less few some before h =
    let ts : Trees = parts_of t in
    let is : weight t ≡ weights ts + (count_of ts - 1) = subst (λ x. weight x ≡ weights (parts_of x) + (count_of (parts_of x) - 1)) (sym (is_alt t e)) refl in
    let whole : weight t * q ≡ (weights ts + (count_of ts - 1)) * q = ap (λ x. x * q) is in
    let sum : (weights ts + (count_of ts - 1)) * q ≡ weights ts * q + (count_of ts - 1) * q = add-mul (weights ts) (count_of ts - 1) q in
    let one : weight (part ts k) * q ≤ weights ts * q = mul-le (weight (part ts k)) q (weights ts) q (part_weighs k ts less) (omega arith) in
    let looks : looked * 1 ≤ (count_of ts - 1) * q = mul-le looked 1 (count_of ts - 1) q (omega arith) some in
    let same : looked * 1 ≡ looked = omega arith in omega arith

-- the pieces before this one are done
pub spent_piece : (ts : Trees) (k n s mid turn to : ℕ) → k < count_of ts → mid ≤ s + 4 * (weights_to k ts * ((n + 1) * (n + 1))) → turn ≤ mid + (n + 2) →
    to + 2 * ((n + 1) * (n + 1)) ≤ turn + 4 * (weight (part ts k) * ((n + 1) * (n + 1))) →
    to ≤ s + 4 * (weights_to (k + 1) ts * ((n + 1) * (n + 1)))
spent_piece ts k n s mid turn to less before found h =
    let q : ℕ = (n + 1) * (n + 1) in
    let next_k : k + 1 ≡ suc k = omega arith in
    let sum : weights_to (k + 1) ts ≡ weights_to k ts + weight (part ts k) =
    subst (λ x. weights_to x ts ≡ weights_to k ts + weight (part ts k)) (sym next_k) (weights_next k ts less) in
    let whole : weights_to (k + 1) ts * q ≡ (weights_to k ts + weight (part ts k)) * q = ap (λ x. x * q) sum in
    let split : (weights_to k ts + weight (part ts k)) * q ≡ weights_to k ts * q + weight (part ts k) * q = add-mul (weights_to k ts) (weight (part ts k)) q in
    let turn_is : n + 2 ≤ 2 * q = turn_within n in omega arith

pub spent_last : (t : Tree) (last q s mid to : ℕ) → node_of t ≡ Branch → last + 1 ≡ count_of (parts_of t) → mid ≤ s + 4 * (weights_to last (parts_of t) * q) →
    to + 2 * q ≤ mid + 4 * (weight (part (parts_of t) last) * q) → to + 2 * q ≤ s + 4 * (weight t * q)
spent_last t last q s mid to e count before h =
    let ts : Trees = parts_of t in
    let next_last : last + 1 ≡ suc last = omega arith in
    let sum : weights_to (suc last) ts ≡ weights_to last ts + weight (part ts last) = weights_next last ts (omega arith) in
    let all : weights_to (suc last) ts ≡ weights ts = subst (λ x. weights_to x ts ≡ weights ts) (sym count ∙ next_last) (weights_all ts) in
    let whole : weights ts * q ≡ (weights_to last ts + weight (part ts last)) * q = ap (λ x. x * q) (sym all ∙ sum) in
    let split : (weights_to last ts + weight (part ts last)) * q ≡ weights_to last ts * q + weight (part ts last) * q =
    add-mul (weights_to last ts) (weight (part ts last)) q in
    let heavier : weights ts ≤ weight t = subst (λ x. weights (parts_of x) ≤ weight x) (sym (is_branch t e)) (of_parts ts) in
    let up : weights ts * q ≤ weight t * q = mul-le (weights ts) q (weight t) q heavier (omega arith) in omega arith
  where
    of_parts : (ts : Trees) → weights ts ≤ weight (branch ts)
    of_parts none = omega arith
    of_parts (more t ts) = omega arith

pub spent_empty : (t : Tree) (q s : ℕ) → node_of t ≡ Branch → count_of (parts_of t) ≡ 0 → s + 2 * q ≤ s + 4 * (weight t * q)
spent_empty t q s e nothing = subst (λ x. s + 2 * q ≤ s + 4 * (weight x * q)) (sym (is_branch t e)) (shared (parts_of t) nothing)
  where
    shared : (ts : Trees) → count_of ts ≡ 0 → s + 2 * q ≤ s + 4 * (weight (branch ts) * q)
    shared none nothing = let o : 1 * q ≡ q = one_times q in omega arith
    shared (more u ts) nothing = absurd (omega arith)

doubled : (a b : ℕ) → a * (2 * b) ≡ 2 * (a * b)
doubled a b = let e : 2 * b ≡ b + b = omega arith in rw e (let f : a * (b + b) ≡ a * b + a * b = mul-add a b b in omega arith)

turned : (a b c : ℕ) → a * b * c ≡ a * (b * c)
turned a b c = grind arith

some_times : (m : ℕ) (o : Option ℕ) → 1 ≤ times m o
some_times m None = omega arith
some_times m (Some n) = omega arith

last_within : (m : ℕ) (o : Option ℕ) → last_count m o ≤ times m o
last_within m None = omega arith
last_within m (Some n) = omega arith

rep_weighs : (t : Tree) (m : ℕ) (o : Option ℕ) → node_of t ≡ Rep m o → weight t ≡ 1 + times m o * weight (part (parts_of t) 0)
rep_weighs t m o e = subst (λ x. weight x ≡ 1 + times m o * weight (part (parts_of x) 0)) (sym (is_rep t m o e)) refl

-- no iteration
pub spent_no_turn : (t : Tree) (m : ℕ) (o : Option ℕ) (n s to : ℕ) → node_of t ≡ Rep m o → to ≤ s + (n + 2) →
    to + 2 * ((n + 1) * (n + 1)) ≤ s + 4 * (weight t * ((n + 1) * (n + 1)))
spent_no_turn t m o n s to e h =
    let q : ℕ = (n + 1) * (n + 1) in
    let is : weight t ≡ 1 + times m o * weight (part (parts_of t) 0) = rep_weighs t m o e in
    let a : 1 * q ≤ weight t * q = mul-le 1 q (weight t) q (omega arith) (omega arith) in
    let o : 1 * q ≡ q = one_times q in
    let turn_is : n + 2 ≤ 2 * q = turn_within n in omega arith

-- all iterations, and then the last
pub spent_turns : (t : Tree) (m : ℕ) (o : Option ℕ) (n s mid to : ℕ) → node_of t ≡ Rep m o → 1 ≤ weight (part (parts_of t) 0) →
    mid ≤ s + (last_count m o + n + 1) * (n + 2) →
    to + 2 * ((n + 1) * (n + 1)) ≤ mid + 4 * (weight (part (parts_of t) 0) * ((n + 1) * (n + 1))) →
    to + 2 * ((n + 1) * (n + 1)) ≤ s + 4 * (weight t * ((n + 1) * (n + 1)))
spent_turns t m o n s mid to e heavy looked h =
    counted (times m o) (last_count m o) (weight (part (parts_of t) 0)) (weight t) (some_times m o) (last_within m o) heavy (rep_weighs t m o e) looked h
  where
    counted : (many last inside weighs : ℕ) → 1 ≤ many → last ≤ many → 1 ≤ inside → weighs ≡ 1 + many * inside →
        mid ≤ s + (last + n + 1) * (n + 2) → to + 2 * ((n + 1) * (n + 1)) ≤ mid + 4 * (inside * ((n + 1) * (n + 1))) →
        to + 2 * ((n + 1) * (n + 1)) ≤ s + 4 * (weighs * ((n + 1) * (n + 1)))
    counted many last inside weighs some within heavy is looked h =
        let q : ℕ = (n + 1) * (n + 1) in
        let regroup : last + n + 1 ≡ last + (n + 1) = omega arith in
        let turns : (last + n + 1) * (n + 2) ≡ (last + (n + 1)) * (n + 2) = ap (λ x. x * (n + 2)) regroup in
        let turns_split : (last + (n + 1)) * (n + 2) ≡ last * (n + 2) + (n + 1) * (n + 2) = add-mul last (n + 1) (n + 2) in
        let first : last * (n + 2) ≤ many * (2 * q) = mul-le last (n + 2) many (2 * q) within (turn_within n) in
        let first_is : many * (2 * q) ≡ 2 * (many * q) = doubled many q in
        let others : (n + 1) * (n + 2) ≤ (n + 1) * (2 * (n + 1)) = mul-le (n + 1) (n + 2) (n + 1) (2 * (n + 1)) (omega arith) (omega arith) in
        let others_is : (n + 1) * (2 * (n + 1)) ≡ 2 * q = doubled (n + 1) (n + 1) in
        let back : many ≡ (many - 1) + 1 = omega arith in
        let many_q : many * q ≡ ((many - 1) + 1) * q = ap (λ x. x * q) back in
        let many_q_split : ((many - 1) + 1) * q ≡ (many - 1) * q + 1 * q = add-mul (many - 1) 1 q in
        let single_q : 1 * q ≡ q = one_times q in
        let whole : weighs * q ≡ (1 + many * inside) * q = ap (λ x. x * q) is in
        let sum : (1 + many * inside) * q ≡ 1 * q + many * inside * q = add-mul 1 (many * inside) q in
        let assoc : many * inside * q ≡ many * (inside * q) = turned many inside q in
        let counts : many * (inside * q) ≡ ((many - 1) + 1) * (inside * q) = ap (λ x. x * (inside * q)) back in
        let split : ((many - 1) + 1) * (inside * q) ≡ (many - 1) * (inside * q) + 1 * (inside * q) = add-mul (many - 1) 1 (inside * q) in
        let single : 1 * (inside * q) ≡ inside * q = one_times (inside * q) in
        let base : 1 * q ≤ inside * q = mul-le 1 q inside q heavy (omega arith) in
        let each : (many - 1) * q ≤ (many - 1) * (inside * q) = mul-le (many - 1) q (many - 1) (inside * q) (omega arith) (omega arith) in
        omega arith

-- from every start nothing was found
pub spent_nothing : (Alive : Type 0) (weighs n s to : ℕ) → Alive ⊎ (Alive → ⊥) → (Alive → 1 ≤ weighs) → to ≤ s + (n + 1) → ((Alive → ⊥) → to ≡ s) →
    to ≤ s + 4 * (weighs * ((n + 1) * (n + 1)))
spent_nothing Alive weighs n s to (inl alive) heavy all idle =
    let q : ℕ = (n + 1) * (n + 1) in
    let a : 1 * q ≤ weighs * q = mul-le 1 q weighs q (heavy alive) (omega arith) in
    let o : 1 * q ≡ q = one_times q in
    let p : n + 1 ≤ q = places_within n in omega arith
spent_nothing Alive weighs n s to (inr dead) heavy all idle = let e : to ≡ s = idle dead in omega arith

-- at one start something was
pub spent_found : (weighs n k s mid to : ℕ) → k ≤ n → mid ≤ s + k → to + 2 * ((n + 1) * (n + 1)) ≤ mid + 1 + 4 * (weighs * ((n + 1) * (n + 1))) →
    to ≤ s + 4 * (weighs * ((n + 1) * (n + 1)))
spent_found weighs n k s mid to within before h = let p : n + 1 ≤ (n + 1) * (n + 1) = places_within n in omega arith

-- compiling and rebuilding together
pub spent_in_all : (heavy n s mid to : ℕ) → mid ≤ s + 4 * (heavy * ((n + 1) * (n + 1))) → to ≤ mid + 4 * (heavy * ((n + 1) * (n + 1))) →
    to ≤ s + 8 * heavy * ((n + 1) * (n + 1))
spent_in_all heavy n s mid to first second =
    let e : 8 * heavy * ((n + 1) * (n + 1)) ≡ 8 * (heavy * ((n + 1) * (n + 1))) = turned 8 heavy ((n + 1) * (n + 1)) in omega arith

pub some_or_none : (n : ℕ) → (0 < n) ⊎ (0 < n → ⊥)
some_or_none zero = inr (λ h. omega arith)
some_or_none (suc n) = inl (omega arith)

pub no_rows : (n : ℕ) → (0 < n → ⊥) → n ≡ 0
no_rows zero dead = refl
no_rows (suc n) dead = absurd (dead (omega arith))
