-- SHAKE256 (FIPS 202) of a message of bytes: the sponge over Keccak-p[1600, 24] with a capacity of 512 bits.
use Rattle.std.specs.Prelude.{ℕ, zero, suc, ◌+◌, ◌-◌, ◌*◌, ◌/◌, ◌%◌, ◌^◌, cond, List, [], ◌∷◌, ◌++◌, map, length, take, drop, replicate, ◌==◌, bit_xor, slice_index}
use Rattle.std.specs.List.{range_with_len, flat_map}
use Rattle.keccak.specs.Keccak.{keccak_p}

-- the rate in bytes: 1600 bits less the capacity
abbrev pub rate : ℕ
rate = 136

-- The state is 200 bytes. Lane k is made of the bytes 8 k to 8 k + 7, the low byte first.
unfoldable pub lane_at : List ℕ → ℕ → ℕ
lane_at bs k =
    slice_index bs (8 * k) + slice_index bs (8 * k + 1) * 256 ^ 1 + slice_index bs (8 * k + 2) * 256 ^ 2 + slice_index bs (8 * k + 3) * 256 ^ 3
    + slice_index bs (8 * k + 4) * 256 ^ 4 + slice_index bs (8 * k + 5) * 256 ^ 5 + slice_index bs (8 * k + 6) * 256 ^ 6 + slice_index bs (8 * k + 7) * 256 ^ 7

unfoldable pub lanes_of : List ℕ → List ℕ
lanes_of bs = map (lane_at bs) (range_with_len 0 25)

abbrev pub lane_bytes : ℕ → List ℕ
lane_bytes a =
    (a % 256) ∷ (a / 256 ^ 1 % 256) ∷ (a / 256 ^ 2 % 256) ∷ (a / 256 ^ 3 % 256) ∷ (a / 256 ^ 4 % 256) ∷ (a / 256 ^ 5 % 256) ∷ (a / 256 ^ 6 % 256)
    ∷ (a / 256 ^ 7 % 256) ∷ []

unfoldable pub bytes_of : List ℕ → List ℕ
bytes_of ls = flat_map lane_bytes ls

-- Keccak-p on the 200 bytes
unfoldable pub permuted : List ℕ → List ℕ
permuted bs = bytes_of (keccak_p (lanes_of bs))

-- The bits 1111, which mark SHAKE, and then 1, as many 0 as are wanted, and 1 fill q bytes, the low bit first: hexadecimal 1f, 00 .. 00, 80, or 9f in one byte.
abbrev pub padding : ℕ → List ℕ
padding q = cond (q == 1) (0x9f ∷ []) (0x1f ∷ (replicate (q - 2) 0 ++ 0x80 ∷ []))

-- the message and its padding: whole blocks
unfoldable pub padded : List ℕ → List ℕ
padded m = m ++ padding (rate - length m % rate)

-- a state with bytes xored into its front
abbrev pub xored : List ℕ → List ℕ → List ℕ
xored [] bs = []
xored (s ∷ ss) [] = s ∷ ss
xored (s ∷ ss) (b ∷ bs) = bit_xor s b ∷ xored ss bs

-- the state s after n blocks of bs: each is xored in, and the state then permuted
unfoldable pub absorbed : ℕ → List ℕ → List ℕ → List ℕ
absorbed zero s bs = s
absorbed (suc n) s bs = absorbed n (permuted (xored s (take rate bs))) (drop rate bs)

-- the state s after the whole message and its padding
unfoldable pub ended : List ℕ → List ℕ → List ℕ
ended s m = absorbed (length (padded m) / rate) s (padded m)

-- the state s after n permutations
unfoldable pub permuted_by : ℕ → List ℕ → List ℕ
permuted_by zero s = s
permuted_by (suc n) s = permuted (permuted_by n s)

-- byte i of the output: each block of it is the front of the state, which is permuted between two blocks
unfoldable pub output_byte : List ℕ → ℕ → ℕ
output_byte s i = slice_index (permuted_by (i / rate) s) (i % rate)

-- n bytes of the output, from byte p on
unfoldable pub output : List ℕ → ℕ → ℕ → List ℕ
output s p n = map (output_byte s) (range_with_len p n)

-- the first n bytes of SHAKE256 of m
unfoldable pub shake256 : List ℕ → ℕ → List ℕ
shake256 m n = output (ended (replicate 200 0) m) 0 n
