use Rattle.std.proofs.Common.{◌≡◌, ℕ, ◌<◌, length, get_or}
use Rattle.shake.specs.Shake.{lane_at}
use Rattle.shake.proofs.lanes.Given as goal

abbrev pub invariant-loop-k : goal.invariant-loop-k
invariant-loop-k l = (length l.place-items ≡ 25) × ((j : ℕ) → j < l.k → get_or l.place-items j 0 ≡ lane_at l.bytes j)
