-- An exchange worked through, for q = 256, p = 64, t = 8 and n = 10.
use Rattle.std.specs.Prelude.{◌≡◌, ℕ, true, false, List, [], ◌∷◌, ℤ, pos, negsuc}
use Rattle.rounding.specs.Worked.{worked_moduli}
use Rattle.rounding.specs.Rounding.{in_band}
use Rattle.rounding.specs.Symbols.{rounded_product, symbols, out_of_band}
use Rattle.noise.specs.Bounds.{noise_bound}
use Rattle.noise.specs.Ends.{station_cross, till_cross, raw_read, symbol_noise}

-- 3, 1, then zeros
abbrev pub worked_polynomial : List ℕ
worked_polynomial = 3 ∷ 1 ∷ 0 ∷ 0 ∷ 0 ∷ 0 ∷ 0 ∷ 0 ∷ 0 ∷ 0 ∷ []

-- the till's secret, the station's, and the bits of the byte A5
abbrev pub worked_till : List ℕ
worked_till = 0 ∷ 9 ∷ []

abbrev pub worked_station : List ℕ
worked_station = 1 ∷ 2 ∷ []

abbrev pub worked_bits : List ℕ
worked_bits = 1 ∷ 0 ∷ 1 ∷ 0 ∷ 0 ∷ 1 ∷ 0 ∷ 1 ∷ []

abbrev pub worked_noise : List ℤ
worked_noise = symbol_noise worked_moduli 10 worked_polynomial worked_till worked_station 8

pub record Worked : Type 0 where
  pub till_public : rounded_product worked_moduli 10 worked_polynomial worked_till ≡ 1 ∷ 1 ∷ 0 ∷ 0 ∷ 0 ∷ 0 ∷ 0 ∷ 0 ∷ 0 ∷ 0 ∷ []
  pub station_public : rounded_product worked_moduli 10 worked_polynomial worked_station ≡ 0 ∷ 1 ∷ 0 ∷ 0 ∷ 0 ∷ 0 ∷ 0 ∷ 0 ∷ 0 ∷ 0 ∷ []
  pub at_station : station_cross worked_moduli 10 worked_polynomial worked_till worked_station ≡ 0 ∷ 1 ∷ 0 ∷ 63 ∷ 0 ∷ 0 ∷ 0 ∷ 0 ∷ 0 ∷ 0 ∷ 0 ∷ []
  pub at_till : till_cross worked_moduli 10 worked_polynomial worked_till worked_station ≡ 0 ∷ 1 ∷ 0 ∷ 0 ∷ 0 ∷ 0 ∷ 0 ∷ 0 ∷ 0 ∷ 0 ∷ 63 ∷ []
  pub hidden : symbols worked_moduli (station_cross worked_moduli 10 worked_polynomial worked_till worked_station) worked_bits ≡ 4 ∷ 0 ∷ 4 ∷ 0 ∷ 0 ∷ 4 ∷ 0 ∷ 4 ∷ []
  pub read : raw_read worked_moduli 10 worked_polynomial worked_till worked_station worked_bits ≡ worked_bits
  pub noise : worked_noise ≡ pos 8 ∷ pos 4 ∷ pos 8 ∷ pos 8 ∷ pos 8 ∷ pos 8 ∷ pos 8 ∷ pos 8 ∷ []
  pub none : out_of_band worked_moduli worked_noise ≡ 0
  pub bound : noise_bound worked_moduli 2 ≡ 24
  -- the ends of the band: -q/4 is in it, q/4 is not
  pub lowest : in_band worked_moduli (negsuc 63) ≡ true
  pub beyond : in_band worked_moduli (pos 64) ≡ false
