use Rattle.std.proofs.Common.{refl, add-one, arith}
use Rattle.keccak.specs.Keccak.{rounds, round}
use Rattle.keccak.proofs.Tables.{constant_at}
use Rattle.keccak.proofs.permute.Goals as goal

pub loop-constant-init : goal.loop-constant-init
unfolding rounds
loop-constant-init c = refl

pub loop-constant-preserved : goal.loop-constant-preserved
unfolding rounds round
loop-constant-preserved c =
    let i = c.loop-constant.constant-index in
    let e = constant_at i (omega arith) in
    rw add-one (cc)
