use Rattle.std.proofs.Common.{◌≡◌, ℕ, ◌<◌}
use Rattle.neighbour.specs.Cost.{Beats, Good, Finds}
use Rattle.neighbour.proofs.best_at.Given as goal

abbrev pub invariant-loop-tb : goal.invariant-loop-tb
invariant-loop-tb l =
    (Good l.set l.initial.best → Good l.set l.best) ×
    ((c : ℕ) → Beats l.initial.best c → Beats l.best c) ×
    Finds l.set l.best (λ m. (m.pb ≡ l.pb) × (m.tb < l.tb))
