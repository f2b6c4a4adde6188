-- The exchange that is worked through, by computing.
use Rattle.std.proofs.Common.{refl}
use Rattle.ring.specs.Lists.{listed}
use Rattle.ring.specs.Cyclic.{cyclic_in, cyclic_signed}
use Rattle.rounding.specs.Rounding.{rounded, symbol, raw_bit, slip, noise, in_band}
use Rattle.rounding.specs.Symbols.{rounded_product, slips, cross_product, symbols, raw_bits, noises, out_of_band}
use Rattle.noise.specs.Worked.{Worked}

pub worked : Worked
unfolding listed cyclic_in cyclic_signed rounded symbol raw_bit slip noise in_band rounded_product slips cross_product symbols raw_bits noises out_of_band
worked = record {
  till_public = refl;
  station_public = refl;
  at_station = refl;
  at_till = refl;
  hidden = refl;
  read = refl;
  noise = refl;
  none = refl;
  bound = refl;
  lowest = refl;
  beyond = refl;
}
