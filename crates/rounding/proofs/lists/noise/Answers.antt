use Rattle.std.proofs.Common.{length, pos, ◌-ℤ◌, arith, rules}
use Rattle.ring.specs.Lists.{signed}
use Rattle.rounding.specs.Rounding.{noise}
use Rattle.rounding.specs.Symbols.{noises}
use Rattle.rounding.proofs.Listed.{crossed_list}
use Rattle.rounding.proofs.lists.noise.Goals as goal

pub returns : goal.returns
unfolding noises
returns c n b r e =
    crossed_list c.args.moduli n b r c.args.product.now e (λ k x. noise c.args.moduli (signed c.args.first.now k -ℤ signed c.args.second.now k) x) c.fill_each.new.out (pos 0) (length c.args.out.now) (omega arith) (omega arith)
    (λ k lt. let h = c.fill_each.ensures k (pos 0) (omega arith) in search rules)
