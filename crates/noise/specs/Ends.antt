-- What the two ends compute from the public polynomial a: s is the till's secret, r the station's.
use Rattle.std.specs.Prelude.{ℕ, Bool, List, ℤ}
use Rattle.params.specs.declared.moduli.Moduli.{Moduli}
use Rattle.ring.specs.Lists.{signed}
use Rattle.ring.specs.Cyclic.{cyclic_signed}
use Rattle.rounding.specs.Rounding.{in_band}
use Rattle.rounding.specs.Symbols.{rounded_product, slips, cross_product, symbols, raw_bits, noises}

module _ (M : Moduli) (n : ℕ) (a s r : List ℕ) where
  -- at the station: the till's rounded product, times r
  abbrev pub station_cross : List ℕ
  station_cross = cross_product M n (rounded_product M n a s) r

  -- at the till: the station's rounded product, times s
  abbrev pub till_cross : List ℕ
  till_cross = cross_product M n (rounded_product M n a r) s

  -- the raw bits: what the till reads where the station has hidden these code bits
  abbrev pub raw_read : List ℕ → List ℕ
  raw_read bits = raw_bits M (symbols M station_cross bits) till_cross

  -- the noise of the first mu symbols
  abbrev pub symbol_noise : ℕ → List ℤ
  symbol_noise mu = noises M mu (cyclic_signed n (slips M n a s) r) (cyclic_signed n (slips M n a r) s) station_cross

  -- whether the noise of symbol i is in band
  abbrev pub symbol_in_band : ℕ → ℕ → Bool
  symbol_in_band mu i = in_band M (signed (symbol_noise mu) i)
