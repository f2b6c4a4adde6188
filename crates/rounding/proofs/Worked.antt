-- The rounding that is worked through, by computing.
use Rattle.std.proofs.Common.{refl}
use Rattle.rounding.specs.Rounding.{rounded}
use Rattle.rounding.specs.Worked.{Worked}

pub worked : Worked
unfolding rounded
worked = record { first = refl; second = refl; one = refl; two = refl; high = refl; highest = refl }
