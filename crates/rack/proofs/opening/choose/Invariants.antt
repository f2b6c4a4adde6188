use Rattle.std.proofs.Common.{◌≡◌, ℕ, ◌<◌, ◌≤◌, cond, eqb, length, get_or}
use Rattle.rack.proofs.opening.choose.Given as goal

abbrev pub invariant-loop-i : goal.invariant-loop-i
invariant-loop-i l =
    (length l.l ≡ 32)
    × ((k : ℕ) → k < l.i → get_or l.l k 0 ≡ cond (eqb l.difference 0) (get_or l.initial.l k 0) (get_or l.z k 0))
    × ((k : ℕ) → l.i ≤ k → get_or l.l k 0 ≡ get_or l.initial.l k 0)
