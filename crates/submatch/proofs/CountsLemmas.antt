-- Sums and products of look-ups.
use Rattle.std.proofs.Common.{◌≡◌, ℕ, ◌+◌, ◌*◌, ◌≤◌, refl, arith}
use Rattle.std.proofs.Math.Nat.{add-mul, mul-add}
use Rattle.std.proofs.lemmas.Nat.{mul-le}

pub row_more : (s t u k m : ℕ) → t ≤ s + k * m → u ≤ t + m → u ≤ s + (k + 1) * m
row_more s t u k m h g = let e : (k + 1) * m ≡ k * m + 1 * m = add-mul k 1 m in let f : 1 * m ≡ m = omega arith in omega arith

pub row_less : (t u f m b : ℕ) → t + (f + 1) * m ≤ b → u ≤ t + m → u + f * m ≤ b
row_less t u f m b h g = let e : (f + 1) * m ≡ f * m + 1 * m = add-mul f 1 m in let o : 1 * m ≡ m = omega arith in omega arith

-- k rows of 2 n look-ups are at most the column's
pub rows_within : (s t k n : ℕ) → k ≤ n → t ≤ s + k * (2 * n) → t ≤ s + 2 * (n * n)
rows_within s t k n less h =
    let a : k * (2 * n) ≤ n * (2 * n) = mul-le k (2 * n) n (2 * n) less (omega arith) in
    let b : n * (n + n) ≡ n * n + n * n = mul-add n n n in
    let c : n * (2 * n) ≡ n * (n + n) = twice n n in
    omega arith
  where
    twice : (a b : ℕ) → a * (2 * b) ≡ a * (b + b)
    twice a b = let e : 2 * b ≡ b + b = omega arith in rw e refl

-- of so many rows all were found, or some
pub rows_done : (s t f m n : ℕ) → t + f * m ≤ s + n * m → t ≤ s + n * m
rows_done s t f m n h = omega arith
