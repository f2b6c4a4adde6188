use Rattle.rounding.proofs.Cuts.{noise_sum_fits}
use Rattle.rounding.proofs.elements.to_noise.Goals as goal

pub overflow_sub-result-2 : goal.overflow_sub-result-2
overflow_sub-result-2 c = noise_sum_fits c.args.moduli c.args.x.0 _ _ c.first_constant.ensures c.low_bits-rest.ensures c.args.first c.args.second c.requires.first_near c.requires.second_near
