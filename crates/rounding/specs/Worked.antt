-- Rounding worked through, for q = 256, p = 64 and t = 8.
use Rattle.std.specs.Prelude.{◌≡◌}
use Rattle.params.specs.declared.moduli.Moduli.{Moduli}
use Rattle.std.proofs.Common.{lit<, lit≤}
use Rattle.rounding.specs.Rounding.{h1, h2, rounded}

abbrev pub worked_moduli : Moduli
worked_moduli = record { qb = 8; pb = 6; tb = 3; some = lit≤ tt; symbols = lit< tt; rounds = lit< tt; words = lit≤ tt; balance = lit≤ tt }

pub record Worked : Type 0 where
  pub first : h1 worked_moduli ≡ 2
  pub second : h2 worked_moduli ≡ 18
  pub one : rounded worked_moduli 1 ≡ 0
  pub two : rounded worked_moduli 2 ≡ 1
  pub high : rounded worked_moduli 253 ≡ 63
  pub highest : rounded worked_moduli 254 ≡ 0
