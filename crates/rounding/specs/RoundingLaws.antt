-- What rounding and its slips are to one another.
use Rattle.std.specs.Prelude.{ℕ, ◌*◌, ◌/◌, ◌≤◌, pos, ◌+ℤ◌, unsigned_abs}
use Rattle.params.specs.Sizes.{q, p}
use Rattle.params.specs.declared.moduli.Moduli.{Moduli}
use Rattle.ring.specs.Congruence.{Congruent}
use Rattle.rounding.specs.Rounding.{h1, rounded, slip}

pub record Rounds (M : Moduli) : Type 0 where
  -- the slip is the error of rounding: q/p times the rounded residue is the residue and its slip, modulo q
  pub error : (x : ℕ) → Congruent (q M) (pos (q M / p M * rounded M x)) (pos x +ℤ slip M x)
  -- and is no larger than h1 in size
  pub small : (x : ℕ) → unsigned_abs (slip M x) ≤ h1 M
