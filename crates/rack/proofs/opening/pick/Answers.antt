use Rattle.std.proofs.Common.{arith}
use Rattle.rack.proofs.Bytes.{picked}
use Rattle.rack.proofs.opening.pick.Goals as goal

pub returns : goal.returns
returns c = picked c.args.mask c.args.first c.args.second (omega arith) (omega arith)
