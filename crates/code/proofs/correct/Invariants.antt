use Rattle.std.proofs.Common.{◌≡◌, ℕ, ◌<◌, get_or}
use Rattle.code.specs.Correcting.{byte_of}
use Rattle.code.specs.Compared.{decided_bit}
use Rattle.code.proofs.correct.Given as goal

abbrev pub invariant-loop-i : goal.invariant-loop-i
invariant-loop-i l =
    let word = l.votes.word.now in
    (n : ℕ) → n < l.i → get_or l.message n 0 ≡ byte_of (decided_bit word.code.now.shape word.payload.now word.checks.now) n
