use Rattle.std.proofs.Common.{◌≡◌, ℕ, List, get_or, ap, ◌∙◌, arith}
use Rattle.std.proofs.lemmas.List.{length-append}
use Rattle.code.proofs.Bits.{zeros}
use Rattle.code.proofs.Compared.{encoded}
use Rattle.code.proofs.encode.Goals as goal

pub returns : goal.returns
returns c =
    let clear : (i : ℕ) → get_or c.fill.new.self i 0 ≡ 0 = λ i. ap (λ (xs : List ℕ). get_or xs i 0) (c.fill.ensures.after (λ y e. e)) ∙ zeros _ i in
    encoded c.args.code.now c.args.message.now c.write_payload.new.payload c.fill.new.self c.add_payload.new.checks (omega arith) (simp length-append (omega arith)) (λ i h. c.write_payload.ensures i (omega arith)) clear c.add_payload.ensures
