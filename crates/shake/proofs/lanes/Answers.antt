use Rattle.std.proofs.Common.{arith}
use Rattle.std.proofs.lemmas.List.FromFn.{fill_by_all}
use Rattle.shake.specs.Shake.{lane_at, lanes_of}
use Rattle.shake.proofs.lanes.Goals as goal

pub returns : goal.returns
unfolding lanes_of
returns c = fill_by_all (lane_at c.args.bytes.now) _ 25 0 c.loop-k.invariant.0 (λ j h. c.loop-k.invariant.1 j (omega arith))
