use Rattle.std.proofs.Common.{◌≡◌, ℕ, ◌+◌, ◌<◌, ◌≤◌, get_or}
use Rattle.params.specs.Checks.{check_length, place_of}
use Rattle.code.specs.Words.{Agree}
use Rattle.code.proofs.Steps.{tally}
use Rattle.code.proofs.walk.Check.add_payload.Given as goal

abbrev pub invariant-loop-k : goal.invariant-loop-k
invariant-loop-k l =
    let s = l.self.code.now.shape in
    let from = l.self.from in
    record {
      place : l.place ≡ place_of s l.self.j l.k;
      before : Agree from l.checks l.initial.checks;
      after : (p : ℕ) → from + check_length s l.self.j ≤ p → get_or l.checks p 0 ≡ get_or l.initial.checks p 0;
      check : (q : ℕ) → q < check_length s l.self.j → get_or l.checks (from + q) 0 ≡ tally s l.payload l.initial.checks from l.self.j q l.k;
    }
