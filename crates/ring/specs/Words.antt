-- Sums and differences of words, which wrap.
use Rattle.std.specs.Prelude.{ℕ, ◌+◌, ◌-◌, ◌%◌, ◌^◌, ℤ, ◌+ℤ◌, ◌-ℤ◌}
use Rattle.std.specs.Int.{int_wrap, w32}

-- words of 16 bits
abbrev pub add16 : ℕ → ℕ → ℕ
add16 x y = (x + y) % 2 ^ 16

abbrev pub sub16 : ℕ → ℕ → ℕ
sub16 x y = (x + (2 ^ 16 - y)) % 2 ^ 16

-- signed words of 32 bits
abbrev pub add32 : ℤ → ℤ → ℤ
add32 x y = int_wrap w32 (x +ℤ y)

abbrev pub sub32 : ℤ → ℤ → ℤ
sub32 x y = int_wrap w32 (x -ℤ y)
