use Rattle.std.proofs.Common.{◌∙◌, length, arith, rules}
use Rattle.std.proofs.lemmas.List.{length-map}
use Rattle.std.proofs.Math.ListN.{get_or-map}
use Rattle.ring.specs.declared.sorts.Rounded.{Rounded}
use Rattle.ring.specs.Lists.{words_p}
use Rattle.rounding.specs.Rounding.{rounded}
use Rattle.rounding.specs.Symbols.{rounded_product}
use Rattle.rounding.proofs.Listed.{reduced_list}
use Rattle.rounding.proofs.lists.round_product.Goals as goal

pub returns : goal.returns
unfolding rounded_product
returns c n a s e =
    reduced_list c.args.moduli n a s c.args.product.now e (rounded c.args.moduli) (words_p c.fill_reduced.new.out) 0 (length c.fill_reduced.new.out) (simp length-map (omega arith)) (omega arith)
    (λ k lt. let h = c.fill_reduced.ensures k (record { 0 = 0 }) (omega arith) in get_or-map (λ (x : Rounded). x.0) c.fill_reduced.new.out k (record { 0 = 0 }) ∙ (search rules))
