use Rattle.std.proofs.Common.{◌≡◌, cond, map, take}
use Rattle.ring.specs.Cyclic.{along}
use Rattle.ring.proofs.sparse.run.Given as goal

abbrev pub invariant-loop-i : goal.invariant-loop-i
invariant-loop-i g l = l.dst ≡ along (cond l.subtract g.T.Word.Group.minus g.T.Word.Group.plus) l.initial.dst (take l.i (map g.T.Term.bare l.src))
