use Rattle.std.proofs.Common.{◌≡◌, ℕ, ◌+◌, ◌<◌, ◌≤◌, get_or}
use Rattle.params.specs.Checks.{place_of}
use Rattle.params.specs.Sums.{sum}
use Rattle.code.specs.Words.{check_offset}
use Rattle.code.proofs.decide.ComparedWord.add_votes.Given as goal

abbrev pub invariant-loop-j : goal.invariant-loop-j
invariant-loop-j l =
    let s = l.self.code.now.shape in
    record {
      at : l.from ≡ check_offset s l.j;
      few : (k : ℕ) → k < s.kappa → get_or l.counts k 0 ≤ l.j;
      counted : (k : ℕ) → k < s.kappa → get_or l.counts k 0 ≡ sum l.j (λ i. get_or l.self.checks.now (check_offset s i + place_of s i k) 0);
    }
