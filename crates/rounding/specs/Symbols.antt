-- The same over whole lists: a is a polynomial of n coefficients modulo q, b one of n coefficients modulo p, s and r are the positions of secrets.
use Rattle.std.specs.Prelude.{ℕ, ◌+◌, not, List, length, ℤ, ◌-ℤ◌, count_by, slice_index}
use Rattle.params.specs.Sizes.{q, p}
use Rattle.params.specs.declared.moduli.Moduli.{Moduli}
use Rattle.ring.specs.Lists.{listed, whole, signed}
use Rattle.ring.specs.Cyclic.{cyclic, reduced, mod_z}
use Rattle.rounding.specs.Rounding.{rounded, symbol, raw_bit, slip, noise, in_band}

-- coefficient i of the reduced product of a and s, modulo q
abbrev pub residue : Moduli → ℕ → List ℕ → List ℕ → ℕ → ℕ
residue M n a s i = mod_z (q M) (reduced n (cyclic (n + 1) (whole a) s) i)

-- the n coefficients of the reduced product, rounded
unfoldable pub rounded_product : Moduli → ℕ → List ℕ → List ℕ → List ℕ
rounded_product M n a s = listed n (λ i. rounded M (residue M n a s i))

-- the slips of that rounding
unfoldable pub slips : Moduli → ℕ → List ℕ → List ℕ → List ℤ
slips M n a s = listed n (λ i. slip M (residue M n a s i))

-- the n + 1 coefficients of the cyclic product of b and r, modulo p
unfoldable pub cross_product : Moduli → ℕ → List ℕ → List ℕ → List ℕ
cross_product M n b r = listed (n + 1) (λ i. mod_z (p M) (cyclic (n + 1) (whole b) r i))

-- a symbol for each code bit, under the residues xs
unfoldable pub symbols : Moduli → List ℕ → List ℕ → List ℕ
symbols M xs bits = listed (length bits) (λ i. symbol M (slice_index xs i) (slice_index bits i))

-- a raw bit for each symbol, by the residues xs
unfoldable pub raw_bits : Moduli → List ℕ → List ℕ → List ℕ
raw_bits M vs xs = listed (length vs) (λ i. raw_bit M (slice_index vs i) (slice_index xs i))

-- the noise of the first μ symbols, by the two products of slips and the residues xs
unfoldable pub noises : Moduli → ℕ → List ℤ → List ℤ → List ℕ → List ℤ
noises M μ first second xs = listed μ (λ i. noise M (signed first i -ℤ signed second i) (slice_index xs i))

-- how many of these are out of band
unfoldable pub out_of_band : Moduli → List ℤ → ℕ
out_of_band M ws = count_by (λ w. not (in_band M w)) ws
