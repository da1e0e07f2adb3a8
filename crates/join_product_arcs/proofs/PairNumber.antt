-- PairNumber: the number of a pair of states, i * n + j, is below the number of pairs.
use Prim.Native.Nat.{ℕ, suc, ◌+◌, ◌*◌, ◌<◌, ◌≤◌}
use native.Mathlib.Nat.{mul-le-mul_right, suc-mul}
use native.Mathlib.Omega.{arith}

-- all pairs with state i
pub row_below : (i m n limit : ℕ) → i < m → m * n ≤ limit → i * n + n ≤ limit
row_below i m n limit h k = omega (arith, mul-le-mul_right {m = suc i} {n = m} n h, suc-mul i n)

pub Pair-below : (i m j n : ℕ) → i < m → j < n → i * n + j < m * n
Pair-below i m j n h k = omega (arith, mul-le-mul_right {m = suc i} {n = m} n h, suc-mul i n)
