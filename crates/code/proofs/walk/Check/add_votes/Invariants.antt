use Rattle.std.proofs.Common.{◌≡◌, ℕ, ◌+◌, ◌<◌, ◌≤◌, get_or}
use Rattle.params.specs.Checks.{place_of}
use Rattle.code.proofs.walk.Check.add_votes.Given as goal

abbrev pub invariant-loop-k : goal.invariant-loop-k
invariant-loop-k l =
    let s = l.self.code.now.shape in
    record {
      place : l.place ≡ place_of s l.self.j l.k;
      counted : (q : ℕ) → q < l.k → get_or l.votes q 0 ≡ get_or l.initial.votes q 0 + get_or l.checks (l.self.from + place_of s l.self.j q) 0;
      others : (q : ℕ) → l.k ≤ q → get_or l.votes q 0 ≡ get_or l.initial.votes q 0;
    }
