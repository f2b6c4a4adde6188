-- Whole numbers that are congruent modulo m.
use Rattle.std.specs.Prelude.{◌≡◌, ℕ, ◌*◌, ℤ, pos, ◌+ℤ◌}

-- x and y have the same remainder modulo m: some multiple of m added to each makes them equal
pub record Congruent (m : ℕ) (x y : ℤ) : Type 0 where
  pub j : ℕ
  pub k : ℕ
  pub level : x +ℤ pos (j * m) ≡ y +ℤ pos (k * m)
