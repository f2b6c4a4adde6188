-- antt computes the definition.
use Rattle.std.proofs.Common.{refl}
use Rattle.keccak.specs.Keccak.{theta, rho, pi, chi, round_constant, iota, round, rounds}
use Rattle.shake.specs.Shake.{lane_at, lanes_of, bytes_of, permuted, padded, absorbed, ended, permuted_by, output_byte, output, shake256}
use Rattle.shake.proofs.known.two_blocks.Goals as goal

pub returns : goal.returns
unfolding theta rho pi chi round_constant iota round rounds lane_at lanes_of bytes_of permuted padded absorbed ended permuted_by output_byte output shake256
returns c = refl
