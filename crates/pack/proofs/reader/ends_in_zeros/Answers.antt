use Rattle.std.proofs.Common.{◌-◌, ◌*◌, ◌%◌, eqb, length, get_or, sym, ap, ◌∙◌, arith, eq-eqb}
use Rattle.std.proofs.lemmas.Nat.{one_shl}
use Rattle.pack.proofs.Fills.{fill_none, fill_last}
use Rattle.pack.proofs.reader.ends_in_zeros.Goals as goal

pub returns-in-empty : goal.returns-in-empty
returns-in-empty c = sym (eq-eqb _ 0 (fill_none _ c.args.bytes.now (omega arith)))

pub returns-in-len1-up : goal.returns-in-len1-up
returns-in-len1-up c =
    let bs = c.args.bytes.now in
    let s = c.args.spare in
    ap (λ x. eqb x 0) (ap (λ k. get_or bs (length bs - 1) 0 % k) (one_shl s 8 (omega arith)) ∙ sym (fill_last (length bs * 8 - s) s bs (omega arith) (omega arith) (omega arith)))
