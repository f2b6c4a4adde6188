use Rattle.std.proofs.Common.{ℕ, List, length, get_or, ap, ◌∙◌, arith}
use Rattle.std.proofs.lemmas.List.{get_or_append_left}
use Rattle.code.specs.Compared.{Compared}
use Rattle.code.proofs.Compared.{compared, compared_bits}
use Rattle.code.proofs.decide.ComparedWord.of.Goals as goal
use Rattle.code.proofs.decide.ComparedWord.of.Goals.{After-add_payload}

is_compared : (c : After-add_payload) → Compared c.args.code.now.shape c.args.received.now c.split_at.result.0.now c.add_payload.new.checks
is_compared c =
    let cut = c.split_at.ensures in
    let same = c.copy_from_slice.ensures.after in
    compared c.args.code.now c.args.received.now c.split_at.result.0.now _ c.add_payload.new.checks c.requires.long c.requires.bits
    (λ i h. cut.by_index.1 i 0 h)
    (λ i h. get_or_append_left c.copy_from_slice.new.self _ 0 i (omega (arith, ap length same)) ∙ ap (λ (xs : List ℕ). get_or xs i 0) same ∙ cut.by_index.2 i 0)
    c.add_payload.ensures

pub invariant_of-result : goal.invariant_of-result
invariant_of-result c =
    let is = is_compared (goal.at.invariant_of-result c).After-add_payload in
    record {
      whole = c.split_at.ensures.front_len;
      payload_bits = λ i h. omega (arith, is.payload i h, c.requires.bits i (omega (arith, c.args.code.now.count)));
      room = omega arith;
      check_bits = compared_bits c.args.code.now.shape _ _ _ is;
    }

pub returns-clause-compared : goal.returns-clause-compared
returns-clause-compared c = is_compared (goal.at.returns-clause-compared c).After-add_payload
