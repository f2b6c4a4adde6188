use Rattle.std.proofs.Common.{◌-◌, ap, ◌∙◌, arith}
use lib.Bits.{bit_and}
use Rattle.std.proofs.lemmas.Nat.{one_shl, and_mask}
use Rattle.rounding.proofs.elements.low_bits.Goals as goal

pub returns : goal.returns
returns c = ap (λ m. bit_and c.args.x (m - 1)) (one_shl c.args.bits 32 (omega arith)) ∙ and_mask c.args.x c.args.bits
