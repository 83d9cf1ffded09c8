-- Each kind of part keeps its share of look-ups.
use Rattle.std.proofs.Common.{◌≡◌, ℕ, ◌+◌, ◌-◌, ◌*◌, ◌≤◌, refl, sym, subst, ap, arith, Option, Some, None, ◌⊎◌, inl, inr}
use Rattle.std.proofs.Math.Nat.{add-mul, mul-add}
use Rattle.std.proofs.lemmas.Nat.{mul-le}
use Rattle.posix_ere.specs.Tree.{Tree, atom, alt, branch, group, rep, Trees, none, more}
use Rattle.posix_ere.specs.Parts.{count_of, part, parts_of, times, weight, weights}
use Rattle.posix_ere.specs.Nodes.{node_of}
use Rattle.posix_ere.specs.declared.node.Node.TheVariants.{Alt, Branch, Group, Rep}
use Rattle.submatch.specs.Ends.{IsLeaf}
use Rattle.submatch.specs.Table.{IsShare, last_count}
use Rattle.submatch.proofs.EndsOfNodesLemmas.{is_alt, is_branch, is_group, is_rep}

one_times : (q : ℕ) → 1 * q ≡ q
one_times q = omega arith

zero_times : (q : ℕ) → 0 * q ≡ 0
zero_times q = omega arith

-- what was spent on nothing inside
pub share_leaf : (Alive Own : Type 0) (t : Tree) (q from to : ℕ) → IsLeaf (node_of t) →
    IsShare Alive (count_of (parts_of t)) (weights (parts_of t)) q from to → IsShare Own 1 (weight t) q from to
share_leaf Alive Own (atom x) q from to leaf h =
    let spent : to ≤ from + 4 * (0 * q) = h.most in
    let z : 0 * q ≡ 0 = zero_times q in let o : 1 * q ≡ q = one_times q in
    record { most = omega arith; saved = λ a. omega arith; heavy = λ a. omega arith }
share_leaf Alive Own (alt ts) q from to leaf h = absurd leaf
share_leaf Alive Own (branch ts) q from to leaf h = absurd leaf
share_leaf Alive Own (group g t) q from to leaf h = absurd leaf
share_leaf Alive Own (rep m n t) q from to leaf h = absurd leaf

-- a part that weighs at least what is inside it, and is alive only where that is, over one part
pub share_same : (Alive Own : Type 0) (count inside weighs q from to : ℕ) → (Own → Alive) → (Own → 1 ≤ count) → inside ≤ weighs →
    IsShare Alive count inside q from to → IsShare Own 1 weighs q from to
share_same Alive Own count inside weighs q from to alive some heavier h =
    let more : inside * q ≤ weighs * q = mul-le inside q weighs q heavier (omega arith) in
    let spent : to ≤ from + 4 * (inside * q) = h.most in
    record {
      most = omega arith;
      saved = λ a.
          let s : to + 2 * (count * q) ≤ from + 4 * (inside * q) = h.saved (alive a) in
          let one : 1 * q ≤ count * q = mul-le 1 q count q (some a) (omega arith) in omega arith;
      heavy = λ a. let c : count ≤ inside = h.heavy (alive a) in let s : 1 ≤ count = some a in omega arith;
    }

pub share_group : (Alive Own : Type 0) (t : Tree) (g q from to : ℕ) → node_of t ≡ Group g → (Own → Alive) →
    IsShare Alive (count_of (parts_of t)) (weights (parts_of t)) q from to → IsShare Own 1 (weight t) q from to
share_group Alive Own t g q from to e alive h =
    share_same Alive Own (count_of (parts_of t)) (weights (parts_of t)) (weight t) q from to alive
    (λ a. subst (λ x. 1 ≤ count_of (parts_of x)) (sym (is_group t g e)) (omega arith))
    (subst (λ x. weights (parts_of x) ≤ weight x) (sym (is_group t g e)) (omega arith)) h

-- several alternatives: one look-up for each at each place
pub share_several : (Alive Own : Type 0) (t : Tree) (n from mid to : ℕ) → node_of t ≡ Alt → 2 ≤ count_of (parts_of t) →
    to ≤ mid + count_of (parts_of t) * (n + 1) →
    IsShare Alive (count_of (parts_of t)) (weights (parts_of t)) ((n + 1) * (n + 1)) from mid → IsShare Own 1 (weight t) ((n + 1) * (n + 1)) from to
share_several Alive Own t n from mid to e several spent h = shared (count_of (parts_of t)) (weights (parts_of t)) (weight t) several
    (subst (λ x. weight x ≡ weights (parts_of x) + (count_of (parts_of x) - 1)) (sym (is_alt t e)) refl) spent h
  where
    shared : (count inside weighs : ℕ) → 2 ≤ count → weighs ≡ inside + (count - 1) → to ≤ mid + count * (n + 1) →
        IsShare Alive count inside ((n + 1) * (n + 1)) from mid → IsShare Own 1 weighs ((n + 1) * (n + 1)) from to
    shared count inside weighs two e looked_up h =
        let q : ℕ = (n + 1) * (n + 1) in
        let a : count * (n + 1) ≤ count * q =
        mul-le count (n + 1) count q (omega arith)
        (subst (λ x. x ≤ q) (one_times (n + 1)) (mul-le 1 (n + 1) (n + 1) (n + 1) (omega arith) (omega arith))) in
        let sum : (inside + (count - 1)) * q ≡ inside * q + (count - 1) * q = add-mul inside (count - 1) q in
        let whole : weighs * q ≡ (inside + (count - 1)) * q = ap (λ x. x * q) e in
        let back : count ≡ (count - 1) + 1 = omega arith in
        let parts : count * q ≡ ((count - 1) + 1) * q = ap (λ x. x * q) back in
        let split : ((count - 1) + 1) * q ≡ (count - 1) * q + 1 * q = add-mul (count - 1) 1 q in
        let one : 1 * q ≡ q = one_times q in
        let some : 1 * q ≤ (count - 1) * q = mul-le 1 q (count - 1) q (omega arith) (omega arith) in
        let spent : mid ≤ from + 4 * (inside * q) = h.most in
        record { most = omega arith; saved = λ a. omega arith; heavy = λ a. omega arith }

pub share_dead : (Alive Own : Type 0) (count inside weighs q from to : ℕ) → (Own → ⊥) → inside ≤ weighs →
    IsShare Alive count inside q from to → IsShare Own 1 weighs q from to
share_dead Alive Own count inside weighs q from to never heavier h =
    share_same Alive Own count inside weighs q from to (λ a. absurd (never a)) (λ a. absurd (never a)) heavier h

-- a branch weighs what its pieces do, and one without pieces weighs 1
pub branch_weighs : (t : Tree) → node_of t ≡ Branch → weights (parts_of t) ≤ weight t
branch_weighs t e = subst (λ x. weights (parts_of x) ≤ weight x) (sym (is_branch t e)) (of_parts (parts_of t))
  where
    of_parts : (ts : Trees) → weights ts ≤ weight (branch ts)
    of_parts none = omega arith
    of_parts (more t ts) = omega arith

pub share_empty : (Alive Own : Type 0) (t : Tree) (q from to : ℕ) → node_of t ≡ Branch → count_of (parts_of t) ≡ 0 →
    IsShare Alive (count_of (parts_of t)) (weights (parts_of t)) q from to → IsShare Own 1 (weight t) q from to
share_empty Alive Own t q from to e nothing h = shared (parts_of t) nothing (is_branch t e) h
  where
    shared : (ts : Trees) → count_of ts ≡ 0 → t ≡ branch ts → IsShare Alive (count_of ts) (weights ts) q from to → IsShare Own 1 (weight t) q from to
    shared none nothing is h = subst (λ x. IsShare Own 1 (weight x) q from to) (sym is)
        (let spent : to ≤ from + 4 * (0 * q) = h.most in
        let z : 0 * q ≡ 0 = zero_times q in let o : 1 * q ≡ q = one_times q in
        record { most = omega arith; saved = λ a. omega arith; heavy = λ a. omega arith })
    shared (more u ts) nothing is h = absurd (omega arith)

-- pieces one before another: two look-ups for each piece but the last, at each pair of places
pub share_pieces : (Alive Own : Type 0) (count inside weighs q from mid to : ℕ) → Alive → 1 ≤ count → inside ≤ weighs →
    to ≤ mid + (count - 1) * (2 * q) → IsShare Alive count inside q from mid → IsShare Own 1 weighs q from to
share_pieces Alive Own count inside weighs q from mid to alive some heavier spent h =
    let more : inside * q ≤ weighs * q = mul-le inside q weighs q heavier (omega arith) in
    let s : mid + 2 * (count * q) ≤ from + 4 * (inside * q) = h.saved alive in
    let c : count ≤ inside = h.heavy alive in
    let back : count ≡ (count - 1) + 1 = omega arith in
    let parts : count * q ≡ ((count - 1) + 1) * q = ap (λ x. x * q) back in
    let split : ((count - 1) + 1) * q ≡ (count - 1) * q + 1 * q = add-mul (count - 1) 1 q in
    let twice : (count - 1) * (2 * q) ≡ 2 * ((count - 1) * q) = turned (count - 1) q in
    record { most = omega arith; saved = λ a. omega arith; heavy = λ a. omega arith }
  where
    turned : (a b : ℕ) → a * (2 * b) ≡ 2 * (a * b)
    turned a b = let e : 2 * b ≡ b + b = omega arith in rw e (let f : a * (b + b) ≡ a * b + a * b = mul-add a b b in omega arith)

-- iterations one before another: two look-ups for each count and for the loop
pub share_iterations : (Alive Own : Type 0) (many inside weighs q from mid to : ℕ) → 1 ≤ many → weighs ≡ 1 + many * inside →
    (Alive → to ≤ mid + (many + 1) * (2 * q)) → ((Alive → ⊥) → to ≡ mid) → (Alive ⊎ (Alive → ⊥)) →
    IsShare Alive 1 inside q from mid → IsShare Own 1 weighs q from to
share_iterations Alive Own many inside weighs q from mid to some e spent idle (inl alive) h =
    let s : mid + 2 * (1 * q) ≤ from + 4 * (inside * q) = h.saved alive in
    let heavy : 1 ≤ inside = h.heavy alive in
    let up : to ≤ mid + (many + 1) * (2 * q) = spent alive in
    let one : 1 * q ≡ q = one_times q in
    let whole : weighs * q ≡ (1 + many * inside) * q = ap (λ x. x * q) e in
    let sum : (1 + many * inside) * q ≡ 1 * q + many * inside * q = add-mul 1 (many * inside) q in
    let assoc : many * inside * q ≡ many * (inside * q) = turned many inside q in
    let back : many ≡ (many - 1) + 1 = omega arith in
    let counts : many * (inside * q) ≡ ((many - 1) + 1) * (inside * q) = ap (λ x. x * (inside * q)) back in
    let split : ((many - 1) + 1) * (inside * q) ≡ (many - 1) * (inside * q) + 1 * (inside * q) = add-mul (many - 1) 1 (inside * q) in
    let single : 1 * (inside * q) ≡ inside * q = one_times (inside * q) in
    let base : 1 * q ≤ inside * q = mul-le 1 q inside q heavy (omega arith) in
    let each : (many - 1) * q ≤ (many - 1) * (inside * q) = mul-le (many - 1) q (many - 1) (inside * q) (omega arith) (omega arith) in
    let turns : (many + 1) * (2 * q) ≡ ((many - 1) + 2) * (2 * q) = ap (λ x. x * (2 * q)) (let b : many + 1 ≡ (many - 1) + 2 = omega arith in b) in
    let turns_split : ((many - 1) + 2) * (2 * q) ≡ (many - 1) * (2 * q) + 2 * (2 * q) = add-mul (many - 1) 2 (2 * q) in
    let turns_twice : (many - 1) * (2 * q) ≡ 2 * ((many - 1) * q) = doubled (many - 1) q in
    record { most = omega arith; saved = λ a. omega arith; heavy = λ a. omega arith }
  where
    turned : (a b c : ℕ) → a * b * c ≡ a * (b * c)
    turned a b c = grind arith

    doubled : (a b : ℕ) → a * (2 * b) ≡ 2 * (a * b)
    doubled a b = let e : 2 * b ≡ b + b = omega arith in rw e (let f : a * (b + b) ≡ a * b + a * b = mul-add a b b in omega arith)
share_iterations Alive Own many inside weighs q from mid to some e spent idle (inr dead) h =
    let same : to ≡ mid = idle dead in
    let m : mid ≤ from + 4 * (inside * q) = h.most in
    let one : 1 * q ≡ q = one_times q in
    let whole : weighs * q ≡ (1 + many * inside) * q = ap (λ x. x * q) e in
    let sum : (1 + many * inside) * q ≡ 1 * q + many * inside * q = add-mul 1 (many * inside) q in
    let assoc : many * inside * q ≡ many * (inside * q) = turned many inside q in
    let least : 1 * (inside * q) ≤ many * (inside * q) = mul-le 1 (inside * q) many (inside * q) some (omega arith) in
    let single : 1 * (inside * q) ≡ inside * q = one_times (inside * q) in
    record { most = omega arith; saved = λ a. omega arith; heavy = λ a. omega arith }
  where
    turned : (a b c : ℕ) → a * b * c ≡ a * (b * c)
    turned a b c = grind arith

pub alt_weighs : (t : Tree) → node_of t ≡ Alt → weights (parts_of t) ≤ weight t
alt_weighs t e = subst (λ x. weights (parts_of x) ≤ weight x) (sym (is_alt t e)) (omega arith)

pub share_rep : (Alive Own : Type 0) (t : Tree) (m : ℕ) (o : Option ℕ) (q from mid to : ℕ) → node_of t ≡ Rep m o →
    to ≤ mid + 2 * q + last_count m o * (2 * q) → ((Alive → ⊥) → to ≡ mid) → (Alive ⊎ (Alive → ⊥)) →
    IsShare Alive (count_of (parts_of t)) (weights (parts_of t)) q from mid → IsShare Own 1 (weight t) q from to
share_rep Alive Own t m o q from mid to e spent idle decided h =
    share_iterations Alive Own (times m o) (weights (parts_of t)) (weight t) q from mid to (some_times m o)
    (subst (λ x. weight x ≡ 1 + times m o * weights (parts_of x)) (sym (is_rep t m o e)) (plus_zero (times m o) (part (parts_of t) 0)))
    (λ a. within) idle decided
    (subst (λ n. IsShare Alive n (weights (parts_of t)) q from mid) (subst (λ x. count_of (parts_of x) ≡ 1) (sym (is_rep t m o e)) refl) h)
  where
    some_times : (m : ℕ) (o : Option ℕ) → 1 ≤ times m o
    some_times m None = omega arith
    some_times m (Some n) = omega arith

    last_within : (m : ℕ) (o : Option ℕ) → last_count m o ≤ times m o
    last_within m None = omega arith
    last_within m (Some n) = omega arith

    plus_zero : (k : ℕ) (u : Tree) → weight (rep m o u) ≡ 1 + times m o * weights (more u none)
    plus_zero k u = let z : weights (more u none) ≡ weight u = omega arith in ap (λ x. 1 + times m o * x) (sym z)

    within : to ≤ mid + (times m o + 1) * (2 * q)
    within =
        let a : last_count m o * (2 * q) ≤ times m o * (2 * q) = mul-le (last_count m o) (2 * q) (times m o) (2 * q) (last_within m o) (omega arith) in
        let b : (times m o + 1) * (2 * q) ≡ times m o * (2 * q) + 1 * (2 * q) = add-mul (times m o) 1 (2 * q) in
        let d : 1 * (2 * q) ≡ 2 * q = one_times (2 * q) in omega arith
