-- The limits of a set, each stated once.
use Rattle.std.specs.Prelude.{ℕ}

-- the largest number of coefficients
abbrev pub most_n : ℕ
most_n = 1200

-- the largest payload, in bits
abbrev pub most_kappa : ℕ
most_kappa = 256

-- the most symbols that a code mends
abbrev pub most_flips : ℕ
most_flips = 5

-- the most checks that a code has: two for each symbol that it mends
abbrev pub most_checks : ℕ
most_checks = 10

-- the longest check, in bits
abbrev pub longest_check : ℕ
longest_check = 255

-- the bits of a word: no modulus is larger
abbrev pub word_bits : ℕ
word_bits = 16
