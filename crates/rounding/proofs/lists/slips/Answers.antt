use Rattle.std.proofs.Common.{length, pos, inl, inr, arith, rules}
use Rattle.std.proofs.lemmas.Bool.{cases_lt}
use Rattle.std.proofs.lemmas.List.{get_or_past}
use Rattle.rounding.specs.Rounding.{slip}
use Rattle.rounding.specs.Symbols.{slips}
use Rattle.rounding.proofs.Listed.{reduced_list}
use Rattle.rounding.proofs.Sizes.{slip_near}
use Rattle.rounding.proofs.lists.slips.Goals as goal

pub returns-clause-value : goal.returns-clause-value
unfolding slips
returns-clause-value c n a s e =
    reduced_list c.args.moduli n a s c.args.product.now e (slip c.args.moduli) c.fill_reduced.new.out (pos 0) (length c.fill_reduced.new.out) (omega arith) (omega arith)
    (λ k lt. let h = c.fill_reduced.ensures k (pos 0) (omega arith) in search rules)

pub returns-clause-near : goal.returns-clause-near
returns-clause-near c k = elim (cases_lt k (length c.fill_reduced.new.out)) [
  | inl lt ↦ let h = c.fill_reduced.ensures k (pos 0) lt in search (rules, slip_near)
  | inr le ↦ rw get_or_past (omega arith)
]
