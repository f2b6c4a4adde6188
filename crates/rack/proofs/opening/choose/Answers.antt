use Rattle.std.proofs.Common.{eqb, arith}
use Rattle.rack.proofs.Bytes.{chosen_all}
use Rattle.rack.proofs.opening.choose.Goals as goal

pub returns : goal.returns
returns c =
    chosen_all (eqb c.args.difference 0) c.loop-i.l c.args.l.now c.args.z.now (omega arith) (omega arith) (λ k h. c.loop-i.invariant.1 k (omega arith))
