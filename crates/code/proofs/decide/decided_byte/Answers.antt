use Rattle.std.proofs.Common.{◌≡◌, ℕ, ◌+◌, ◌-◌, ◌^◌, [], ◌∷◌, ◌++◌, cond, leb, length, get_or, ap, ap₂, ◌∙◌, arith, pow-add, length-append}
use Rattle.std.proofs.lemmas.Slice.Zip.{zip_turn}
use Rattle.code.specs.Correcting.{number}
use Rattle.code.proofs.Numbers.{number_more}
use Rattle.code.proofs.decide.decided_byte.Goals as goal

pub loop-bit-preserved : goal.loop-bit-preserved
loop-bit-preserved c =
    let v = c.args.received.now in
    let d = c.args.differing.now in
    let n = length c.loop-bit.yielded in
    let F : ℕ → ℕ = λ q. cond (leb (c.args.f + 1) (get_or d q 0)) (1 - get_or v q 0) (get_or v q 0) in
    let turn = zip_turn v d c.loop-bit.yielded c.into_iter-bit-iterator.result c.loop-bit.bit-iterator c.next.new.self c.next.result (grind arith) (grind arith)
    c.loop-bit.yielded_by (c.in-Some.bit, c.in-Some.count) c.in-Some.is c.next.ensures.steps in
    let bit : c.decided.result ≡ F n = c.decided.ensures.value ∙ ap₂ (λ x y. cond (leb (c.args.f + 1) y) (1 - x) x) (turn.2 0) (turn.3 0) in
    let long : length (c.loop-bit.yielded ++ ((c.in-Some.bit, c.in-Some.count) ∷ [])) ≡ n + 1 = length-append c.loop-bit.yielded _ in
    record {
      small = omega (arith, ap (λ k. 2 ^ k) long, pow-add 2 n 1, c.decided.ensures.small, c.loop-bit.invariant.small);
      number = omega (arith, ap (λ k. number k F) long, number_more n F, bit, c.loop-bit.invariant.number);
    }
