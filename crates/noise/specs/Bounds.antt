-- The bound on noise and the line, where secrets have at most h positions.
use Rattle.std.specs.Prelude.{ℕ, ◌+◌, ◌*◌, ◌/◌, ◌<◌}
use Rattle.params.specs.Sizes.{q, p, t}
use Rattle.params.specs.declared.moduli.Moduli.{Moduli}

-- no noise is larger in size
abbrev pub noise_bound : Moduli → ℕ → ℕ
noise_bound M h = q M / (2 * t M) + h * (q M / p M)

-- h is small enough that no noise leaves the band
abbrev pub Below : Moduli → ℕ → Type 0
Below M h = 2 * p M + 4 * (h * t M) < p M * t M
