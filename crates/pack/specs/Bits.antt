-- Numbers as bits, fields as runs of bits, and runs of bits as bytes.
use Rattle.std.specs.Prelude.{ℕ, zero, suc, ◌+◌, ◌-◌, ◌*◌, ◌/◌, ◌%◌, ◌^◌, ◌<◌, List, [], ◌∷◌, ◌++◌, length, take, drop, replicate}
use Rattle.std.specs.List.{AllByRecursion}
use Rattle.params.specs.Sizes.{bytes_for}

-- the w low bits of x, the most significant first
unfoldable pub bits : ℕ → ℕ → List ℕ
bits zero x = []
bits (suc w) x = x / 2 ^ w % 2 ∷ bits w x

-- the number that bits write
unfoldable pub value : List ℕ → ℕ
value [] = 0
value (b ∷ bs) = b * 2 ^ length bs + value bs

-- fields of w bits, one after another
unfoldable pub run : ℕ → List ℕ → List ℕ
run w [] = []
run w (x ∷ xs) = bits w x ++ run w xs

-- a run of bits cut into n fields of w bits
unfoldable pub cut : ℕ → ℕ → List ℕ → List ℕ
cut zero w bs = []
cut (suc n) w bs = value (take w bs) ∷ cut n w (drop w bs)

-- a run of bits, filled with zero bits to the end of its last byte
abbrev pub filled : List ℕ → List ℕ
filled bs = bs ++ replicate (8 * bytes_for (length bs) - length bs) 0

-- the bytes of a run of bits: fields of 8 bits
abbrev pub bytes : List ℕ → List ℕ
bytes bs = cut (bytes_for (length bs)) 8 (filled bs)

-- each number of the list is below n
abbrev pub Below : ℕ → List ℕ → Type 0
Below n xs = AllByRecursion (λ x. x < n) xs
