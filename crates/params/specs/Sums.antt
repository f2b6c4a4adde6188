-- Sums over a range, and a test as a number.
use Rattle.std.specs.Prelude.{ℕ, zero, suc, ◌+◌, Bool, cond}

-- F 0 + .. + F (n - 1)
unfoldable pub sum : ℕ → (ℕ → ℕ) → ℕ
sum zero F = 0
sum (suc n) F = sum n F + F n

-- 1 for a test that passes, else 0
abbrev pub bit : Bool → ℕ
bit b = cond b 1 0
