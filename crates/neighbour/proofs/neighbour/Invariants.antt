use Rattle.std.proofs.Common.{◌<◌}
use Rattle.neighbour.specs.Cost.{Good, Finds}
use Rattle.neighbour.proofs.neighbour.Given as goal

abbrev pub invariant-loop-pb : goal.invariant-loop-pb
invariant-loop-pb l = Good l.set l.best × Finds l.set l.best (λ m. m.pb < l.pb)
