use Rattle.std.proofs.Common.{◌≡◌, ℕ, List, ◌++◌, length}
use Rattle.shake.specs.Meaning.{filled}
use Rattle.shake.proofs.state.Absorbing.absorb.Given as goal

-- what is left gives what the whole gives
abbrev pub invariant-loop-rest : goal.invariant-loop-rest
invariant-loop-rest l = (m : List ℕ) → filled l.self (l.rest ++ m) ≡ filled l.initial.self (l.bytes ++ m)

abbrev pub decreases-loop-rest : goal.decreases-loop-rest
decreases-loop-rest l = length l.rest
