use Rattle.std.proofs.Common.{◌∙◌, length, get_or, arith, rules}
use Rattle.std.proofs.lemmas.List.{length-map}
use Rattle.std.proofs.Math.ListN.{get_or-map}
use Rattle.ring.specs.declared.sorts.Symbol.{Symbol}
use Rattle.ring.specs.Lists.{words_t}
use Rattle.rounding.specs.Rounding.{symbol}
use Rattle.rounding.specs.Symbols.{symbols}
use Rattle.rounding.proofs.Listed.{crossed_list}
use Rattle.rounding.proofs.lists.symbols.Goals as goal

pub returns : goal.returns
unfolding symbols
returns c n b r e =
    crossed_list c.args.moduli n b r c.args.product.now e (λ k x. symbol c.args.moduli x (get_or c.args.bits.now k 0)) (words_t c.fill_each.new.out) 0 (length c.args.bits.now) (simp length-map (omega arith)) (omega arith)
    (λ k lt. let h = c.fill_each.ensures k (record { 0 = 0 }) (omega arith) in get_or-map (λ (x : Symbol). x.0) c.fill_each.new.out k (record { 0 = 0 }) ∙ (search rules))
