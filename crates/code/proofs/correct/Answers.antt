use Rattle.std.proofs.Common.{◌≡◌, ℕ, ◌+◌, ◌*◌, List, sym, ◌∙◌, subst, arith}
use Rattle.code.specs.Correcting.{corrected_message, Mends}
use Rattle.code.proofs.Numbers.{number_same}
use Rattle.code.proofs.Compared.{decided}
use Rattle.code.proofs.Mending.{corrected_only, mends}
use Rattle.code.proofs.correct.Goals as goal

pub returns : goal.returns
returns c =
    let code = c.args.code.now in
    let s = code.shape in
    let v = c.args.received.now in
    let word = c.of-word.result in
    let made = rw (c.count_votes-votes.ensures, c.of-word.ensures.code) at c.loop-i.invariant in
    let value : c.loop-i.message ≡ corrected_message s v = corrected_only s v c.loop-i.message (omega arith) (λ i h.
    made i (omega arith)
    ∙ number_same 8 _ _ (λ q lt. decided s code.lengths code.mark v word.payload.now word.checks.now c.of-word.ensures.compared (8 * i + q) (omega arith))) in
    record { value = value; mends = subst (λ (r : List ℕ). Mends s v r) (sym value) (mends code v c.requires.long c.requires.bits) }
