use Rattle.std.proofs.Common.{◌≡◌, ℕ, ◌+◌, ◌*◌, get_or, ap, ◌∙◌, arith}
use Rattle.params.specs.Checks.{check_length, place_of}
use Rattle.params.specs.Sums.{sum}
use Rattle.params.proofs.Sums.{sum_more}
use Rattle.code.specs.Words.{check_offset}
use Rattle.code.proofs.Words.{check_within}
use Rattle.code.proofs.Places.{bit_inside}
use Rattle.code.proofs.decide.ComparedWord.add_votes.Goals as goal

pub overflow_add-from : goal.overflow_add-from
overflow_add-from c =
    let code = c.args.self.now.code.now in
    let s = code.shape in
    omega (arith, c.loop-j.invariant.at, check_within s c.loop-j.j (2 * s.f) (omega arith), code.count)

pub loop-j-preserved : goal.loop-j-preserved
loop-j-preserved c =
    let word = c.args.self.now in
    let s = word.code.now.shape in
    let j = c.loop-j.j in
    let i = c.loop-j.invariant in
    let begins : c.of.result.from ≡ check_offset s j = rw (c.of.ensures.code, c.of.ensures.number) at c.of.result.begins in
    let voted = rw (c.of.ensures.code, c.of.ensures.number) at c.add_votes.ensures in
    let vote : ℕ → ℕ → ℕ = λ k i. get_or word.checks.now (check_offset s i + place_of s i k) 0 in
    let here = λ (k : ℕ). ap (λ x. get_or word.checks.now (x + place_of s j k) 0) begins in
    record {
      at = let more = sum_more j (check_length s) in omega (arith, i.at);
      few = λ k h. omega (arith, voted k h, here k, word.check_bits (check_offset s j + place_of s j k) (bit_inside word.code.now j k (omega arith) h), i.few k h);
      counted = λ k h. omega (arith, voted k h, here k, i.counted k h, sum_more j (vote k));
    }

pub returns : goal.returns
returns c =
    let word = c.args.self.now in
    let s = word.code.now.shape in
    let i = c.loop-j.invariant in
    let all : c.loop-j.j ≡ 2 * s.f = omega arith in
    record {
      votes_of = λ k h. i.counted k h ∙ ap (λ n. sum n (λ x. get_or word.checks.now (check_offset s x + place_of s x k) 0)) all;
      few = λ k h. omega (arith, i.few k h);
    }
