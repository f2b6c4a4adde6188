use Rattle.std.proofs.Common.{◌≡◌, ℕ, ◌+◌, ◌-◌, ◌≤◌, take, drop}
use Rattle.shake.specs.Meaning.{coming}
use Rattle.shake.proofs.state.Squeezing.squeeze.Given as goal

abbrev pub invariant-loop-done : goal.invariant-loop-done
invariant-loop-done l =
    (l.done ≤ l.n)
    × (take l.done l.out ≡ coming l.initial.self l.done)
    × ((k : ℕ) → coming l.self k ≡ drop l.done (coming l.initial.self (l.done + k)))

abbrev pub decreases-loop-done : goal.decreases-loop-done
decreases-loop-done l = l.n - l.done
