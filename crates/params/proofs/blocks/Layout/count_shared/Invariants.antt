use Rattle.std.proofs.Common.{◌≡◌, ◌≤◌}
use Rattle.params.specs.Checks.{shared_with_first}
use Rattle.params.proofs.blocks.Layout.count_shared.Given as goal

abbrev pub invariant-loop-j : goal.invariant-loop-j
invariant-loop-j l = (l.count ≤ l.j) × (l.count ≡ shared_with_first l.self.shape l.d l.j)
