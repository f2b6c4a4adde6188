-- Keccak-p[1600, 24] (FIPS 202, section 3). A state is a list of 25 lanes, numbers below 2^64: the lane at column x and row y stands at x + 5 y,
-- and bit z of a lane has the weight 2^z.
use Rattle.std.specs.Prelude.{ℕ, zero, suc, ◌+◌, ◌-◌, ◌*◌, ◌/◌, ◌%◌, ◌^◌, cond, ◌&&◌, List, map, ◌==◌, bit_and, bit_or, bit_xor, nat_lt, slice_index, slice_set}
use Rattle.std.specs.List.{range_with_len}

-- the lane at column x and row y, both modulo 5
abbrev pub lane : List ℕ → ℕ → ℕ → ℕ
lane s x y = slice_index s (x % 5 + 5 * (y % 5))

-- the state whose lane at column x and row y is f x y
abbrev pub lanes : (ℕ → ℕ → ℕ) → List ℕ
lanes f = map (λ i. f (i % 5) (i / 5)) (range_with_len 0 25)

-- a lane rotated by n places: bit z goes to bit z + n modulo 64
abbrev pub rotated : ℕ → ℕ → ℕ
rotated a n = bit_or ((a * 2 ^ (n % 64)) % 2 ^ 64) (a / 2 ^ ((64 - n % 64) % 64))

-- theta: each bit is xored with the parities of the column to its left and of the column to its right, one bit lower
abbrev pub parity : List ℕ → ℕ → ℕ
parity s x = bit_xor (bit_xor (bit_xor (bit_xor (lane s x 0) (lane s x 1)) (lane s x 2)) (lane s x 3)) (lane s x 4)

unfoldable pub theta : List ℕ → List ℕ
theta s = lanes (λ x y. bit_xor (lane s x y) (bit_xor (parity s (x + 4)) (rotated (parity s (x + 1)) 1)))

-- rho: each lane is rotated by its offset. A walk of 24 steps from column 1, row 0 goes from (x, y) to (y, 2 x + 3 y);
-- the lane that step t meets has the offset (t + 1) (t + 2) / 2. The walk never meets the lane at (0, 0), whose offset is 0.
abbrev pub walk : (steps t column row x y : ℕ) → ℕ
walk zero t column row x y = 0
walk (suc n) t column row x y = cond (column == x && row == y) ((t + 1) * (t + 2) / 2 % 64) (walk n (t + 1) row ((2 * column + 3 * row) % 5) x y)

abbrev pub offset : ℕ → ℕ → ℕ
offset x y = walk 24 0 1 0 x y

unfoldable pub rho : List ℕ → List ℕ
rho s = lanes (λ x y. rotated (lane s x y) (offset x y))

-- pi: the lanes change places
unfoldable pub pi : List ℕ → List ℕ
pi s = lanes (λ x y. lane s (x + 3 * y) x)

-- chi: each bit is xored with a product of the next two bits of its row, the first of them inverted
abbrev pub mixed : ℕ → ℕ → ℕ → ℕ
mixed a b c = bit_xor a (bit_and (2 ^ 64 - 1 - b) c)

unfoldable pub chi : List ℕ → List ℕ
chi s = lanes (λ x y. mixed (lane s x y) (lane s (x + 1) y) (lane s (x + 2) y))

-- the shift register of the round constants: eight bits, of which the lowest is the output; a bit that is shifted out comes back at bits 0, 4, 5 and 6
abbrev pub register : ℕ → ℕ
register zero = 1
register (suc t) = cond (nat_lt (2 * register t) 256) (2 * register t) (bit_xor (2 * register t) 0x171)

abbrev pub rc : ℕ → ℕ
rc t = register (t % 255) % 2

-- bit 2^j - 1 of the constant of round i is rc (j + 7 i), for j from 0 to 6; the other bits are 0
abbrev pub constant_bits : (count i : ℕ) → ℕ
constant_bits zero i = 0
constant_bits (suc j) i = constant_bits j i + rc (j + 7 * i) * 2 ^ (2 ^ j - 1)

unfoldable pub round_constant : ℕ → ℕ
round_constant i = constant_bits 7 i

-- iota: the round's constant is xored into the lane at (0, 0)
unfoldable pub iota : ℕ → List ℕ → List ℕ
iota constant s = slice_set s 0 (bit_xor (slice_index s 0) constant)

-- round i of the permutation
unfoldable pub round : ℕ → List ℕ → List ℕ
round i s = iota (round_constant i) (chi (pi (rho (theta s))))

-- the first n rounds
unfoldable pub rounds : ℕ → List ℕ → List ℕ
rounds zero s = s
rounds (suc n) s = round n (rounds n s)

abbrev pub keccak_p : List ℕ → List ℕ
keccak_p s = rounds 24 s
