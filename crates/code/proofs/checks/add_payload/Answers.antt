use Rattle.std.proofs.Common.{◌≡◌, ◌+◌, ◌*◌, ◌∙◌, sym, refl, arith}
use Rattle.params.proofs.Sums.{sum_none, sum_more}
use Rattle.params.specs.Checks.{check_length}
use Rattle.code.specs.Words.{check_offset}
use Rattle.code.proofs.Words.{check_within}
use Rattle.code.proofs.Steps.{checks_more}
use Rattle.code.proofs.checks.add_payload.Goals as goal

pub loop-j-init : goal.loop-j-init
loop-j-init c = record { at = sym (sum_none (check_length c.args.code.now.shape)); added = λ j l h k. absurd (omega arith); rest = λ i h. refl }

pub overflow_add-from : goal.overflow_add-from
overflow_add-from c =
    let s = c.args.code.now.shape in
    omega (arith, c.loop-j.invariant.at, check_within s c.loop-j.j (2 * s.f) (omega arith), c.requires.room)

pub add_payload-requires : goal.add_payload-requires
add_payload-requires c =
    let s = c.args.code.now.shape in
    let j = c.loop-j.j in
    let begins = rw (c.of.ensures.code, c.of.ensures.number) at c.of.result.begins in
    let room = check_within s j (2 * s.f) (omega arith) in
    rw (c.of.ensures.code, c.of.ensures.number) (record {
      whole = c.requires.whole;
      payload = c.requires.payload;
      room = omega arith;
      check = λ l h. omega (arith, c.loop-j.invariant.rest (c.of.result.from + l) (omega arith), c.requires.bits (c.of.result.from + l) (omega arith));
    })

pub loop-j-preserved : goal.loop-j-preserved
loop-j-preserved c =
    let s = c.args.code.now.shape in
    let j = c.loop-j.j in
    let i = c.loop-j.invariant in
    let e = c.add_payload.ensures in
    let begins : c.of.result.from ≡ check_offset s j = rw (c.of.ensures.code, c.of.ensures.number) at c.of.result.begins in
    let after = rw (c.of.ensures.code, c.of.ensures.number) at e.after in
    let here = rw (c.of.ensures.code, c.of.ensures.number) at e.check in
    record {
      at = let more = sum_more j (check_length s) in omega (arith, i.at);
      added = checks_more s c.args.payload.now c.args.checks.now c.loop-j.checks c.add_payload.new.checks j c.of.result.from begins (λ p h. i.rest p (omega arith)) e.before here i.added;
      rest = λ p h. let more = sum_more j (check_length s) in after p (omega arith) ∙ i.rest p (omega arith);
    }
