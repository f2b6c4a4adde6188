use Rattle.std.proofs.Common.{◌≡◌}
use Rattle.keccak.specs.Keccak.{rounds}
use Rattle.keccak.proofs.permute.Given as goal

abbrev pub invariant-loop-constant : goal.invariant-loop-constant
invariant-loop-constant l = l.state ≡ rounds l.constant-index l.initial.state
