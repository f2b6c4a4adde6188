-- A product worked through: n = 10, the polynomial 3, 1 and then zeros, the secret +1 at 0 and -1 at 9.
use Rattle.std.specs.Prelude.{◌≡◌, ℕ, [], ◌∷◌, ℤ, pos, negsuc}
use Rattle.ring.specs.Lists.{listed, whole}
use Rattle.ring.specs.Cyclic.{cyclic, reduced}

abbrev pub worked_cyclic : ℕ → ℤ
worked_cyclic = cyclic 11 (whole (3 ∷ 1 ∷ 0 ∷ 0 ∷ 0 ∷ 0 ∷ 0 ∷ 0 ∷ 0 ∷ 0 ∷ [])) (0 ∷ 9 ∷ [])

pub record Worked : Type 0 where
  -- 3, 1, seven zeros, -3, -1
  pub all : listed 11 worked_cyclic ≡ pos 3 ∷ pos 1 ∷ pos 0 ∷ pos 0 ∷ pos 0 ∷ pos 0 ∷ pos 0 ∷ pos 0 ∷ pos 0 ∷ negsuc 2 ∷ negsuc 0 ∷ []
  -- 4, 2, seven ones, -2
  pub less : listed 10 (reduced 10 worked_cyclic) ≡ pos 4 ∷ pos 2 ∷ pos 1 ∷ pos 1 ∷ pos 1 ∷ pos 1 ∷ pos 1 ∷ pos 1 ∷ pos 1 ∷ negsuc 1 ∷ []
