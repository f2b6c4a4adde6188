use Rattle.std.proofs.Common.{refl, arith}
use Rattle.sampler.proofs.Table.{marked_none}
use Rattle.sampler.proofs.Chosen.none.Goals as goal

pub invariant_of-result : goal.invariant_of-result
invariant_of-result c = record { size = refl; within = omega arith; marked = marked_none }
