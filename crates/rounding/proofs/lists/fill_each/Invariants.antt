use Rattle.std.proofs.Common.{ℕ, ◌<◌, slice_index_or}
use Rattle.rounding.proofs.lists.fill_each.Given as goal

abbrev pub invariant-loop-i : goal.invariant-loop-i
invariant-loop-i g l = (k : ℕ) (d : _) → k < l.i → goal.F-post g l.f k (slice_index_or l.out k d)
