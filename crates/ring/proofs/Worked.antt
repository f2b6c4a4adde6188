-- The product that is worked through, by computing.
use Rattle.std.proofs.Common.{refl}
use Rattle.ring.specs.Lists.{listed}
use Rattle.ring.specs.Cyclic.{cyclic_in}
use Rattle.ring.specs.Worked.{Worked}

pub worked : Worked
unfolding listed cyclic_in
worked = record { all = refl; less = refl }
