-- Rounding, symbols, raw bits, slips and noise, of one number.
use Rattle.std.specs.Prelude.{ℕ, ◌+◌, ◌-◌, ◌*◌, ◌/◌, ◌%◌, Bool, cond, ℤ, pos, ◌+ℤ◌, ◌-ℤ◌, nat_le, nat_lt}
use Rattle.params.specs.Sizes.{q, p, t}
use Rattle.params.specs.declared.moduli.Moduli.{Moduli}
use Rattle.ring.specs.Cyclic.{mod_z}

-- the two constants of rounding
abbrev pub h1 : Moduli → ℕ
h1 M = q M / (2 * p M)

abbrev pub h2 : Moduli → ℕ
h2 M = p M / (2 * t M) + p M / 4 - h1 M

-- a residue modulo q, rounded to one modulo p
unfoldable pub rounded : Moduli → ℕ → ℕ
rounded M x = (x + h1 M) * p M / q M % p M

-- the symbol that hides a code bit, 0 or 1, under the residue x modulo p
unfoldable pub symbol : Moduli → ℕ → ℕ → ℕ
symbol M x bit = ((x + h1 M) * t M / p M + t M / 2 * bit) % t M

-- the bit that is read from the symbol v, by the residue x modulo p
unfoldable pub raw_bit : Moduli → ℕ → ℕ → ℕ
raw_bit M v x = cond (nat_le (p M / 2) (mod_z (p M) (pos (p M / t M * v) -ℤ pos x +ℤ pos (h2 M)))) 1 0

-- the slip: the error that the rounding of the residue x modulo q makes
unfoldable pub slip : Moduli → ℕ → ℤ
slip M x = pos (h1 M) -ℤ pos ((x + h1 M) % (q M / p M))

-- the noise at a place, where the slips' products differ by e and x is the residue modulo p that was made a symbol
unfoldable pub noise : Moduli → ℤ → ℕ → ℤ
noise M e x = e +ℤ pos (q M / (2 * t M)) -ℤ pos (q M / p M * ((x + h1 M) % (p M / t M)))

-- whether noise is in band, where it leaves the bit as it was
unfoldable pub in_band : Moduli → ℤ → Bool
in_band M w = nat_lt (mod_z (q M) (w +ℤ pos (q M / 4))) (q M / 2)
