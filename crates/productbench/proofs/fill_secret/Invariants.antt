use Rattle.std.proofs.Common.{◌≡◌, ℕ, ◌<◌, length, get_or}
use Rattle.productbench.proofs.fill_secret.Given as goal

abbrev pub invariant-loop-p : goal.invariant-loop-p
invariant-loop-p l = (length l.secret ≡ 254) × ((k : ℕ) → k < l.p-index → get_or l.secret k 0 < 1018)
