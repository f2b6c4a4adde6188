-- The moduli of a set, its bound and line, and the lengths of its keys and parcels.
use Rattle.std.specs.Prelude.{ℕ, ◌+◌, ◌*◌, ◌/◌, ◌^◌, ◌<◌}
use Rattle.params.specs.declared.moduli.Moduli.{Moduli}
use Rattle.params.specs.declared.set.Set.{Set}

abbrev pub q : Moduli → ℕ
q m = 2 ^ m.qb

abbrev pub p : Moduli → ℕ
p m = 2 ^ m.pb

abbrev pub t : Moduli → ℕ
t m = 2 ^ m.tb

-- the bound on the noise of a symbol
abbrev pub bound : Set → ℕ
bound s = q s.moduli / (2 * t s.moduli) + s.h * (q s.moduli / p s.moduli)

-- the two sides of the line
abbrev pub line_left : Set → ℕ
line_left s = 2 * p s.moduli + 4 * (s.h * t s.moduli)

abbrev pub line_right : Set → ℕ
line_right s = p s.moduli * t s.moduli

-- the set is below the line
abbrev pub BelowLine : Set → Type 0
BelowLine s = line_left s < line_right s

-- bits to whole bytes
abbrev pub bytes_for : ℕ → ℕ
bytes_for bits = (bits + 7) / 8

-- a key: the kind byte, 32 bytes of a seed, n fields of pb bits
abbrev pub key_length : Set → ℕ
key_length s = 33 + bytes_for (s.n * s.moduli.pb)

-- a parcel: the kind byte, n fields of pb bits and one field of tb bits for each symbol, 32 bytes of a tag
abbrev pub parcel_length : Set → ℕ
parcel_length s = 33 + bytes_for (s.n * s.moduli.pb + s.code.mu * s.moduli.tb)
