-- A match on a number that has an arm for each below n, and one behind them.
use mathlib.Core.Path.{◌≡◌}
use Prim.Native.Nat.{ℕ, zero, suc, ◌≤◌, ◌<◌}
use native.Mathlib.Omega.{arith}

-- k is none of the first n numbers
abbrev Apart : ℕ → ℕ → Type 0
Apart zero k = Unit
Apart (suc n) k = Apart n k × (k ≡ n → ⊥)

past : (n k : ℕ) → Apart n k → n ≤ k
past zero k a = omega arith
past (suc n) k a = let h = past n k a.0 in omega (arith, a.1)

-- the arm behind them is number n's, if there are no more
pub last_arm : (n k : ℕ) → Apart n k → k < suc n → k ≡ n
last_arm n k a h = let g = past n k a in omega arith
