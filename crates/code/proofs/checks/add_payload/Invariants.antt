use Rattle.std.proofs.Common.{◌≡◌, ℕ, ◌≤◌, get_or}
use Rattle.code.specs.Words.{check_offset, PayloadAdded}
use Rattle.code.proofs.checks.add_payload.Given as goal

abbrev pub invariant-loop-j : goal.invariant-loop-j
invariant-loop-j l = record {
  at : l.from ≡ check_offset l.code.shape l.j;
  added : PayloadAdded l.code.shape l.j l.payload l.initial.checks l.checks;
  rest : (i : ℕ) → check_offset l.code.shape l.j ≤ i → get_or l.checks i 0 ≡ get_or l.initial.checks i 0;
}
