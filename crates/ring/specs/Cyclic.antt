-- The product of a polynomial and a sparse secret: over any group, and in whole numbers.
use Rattle.std.specs.Prelude.{ℕ, ◌+◌, ◌-◌, ◌%◌, ◌^◌, ◌<◌, cond, List, [], ◌∷◌, length, ℤ, pos, negsuc, ◌-ℤ◌, nat_lt, slice_index}
use Rattle.ring.specs.Lists.{listed, whole, signed}

-- the exponent to which p is added, modulo m, to make i
abbrev pub back : ℕ → ℕ → ℕ → ℕ
back m i p = (i + (m - p)) % m

-- Coefficient i of the product of the polynomial f and a secret, over a group with the zero none and the difference minus.
-- A secret is the list of its positions, with the signs +, -, +, - by turn: the first position's part less the product of f and the rest.
unfoldable pub cyclic_in : {X : Type 0} → X → (X → X → X) → ℕ → (ℕ → X) → List ℕ → ℕ → X
cyclic_in none minus m f [] i = none
cyclic_in none minus m f (p ∷ ps) i = minus (f (back m i p)) (cyclic_in none minus m f ps i)

-- each position of a secret is below n
abbrev pub Within : ℕ → List ℕ → Type 0
Within n ps = (k : ℕ) → k < length ps → slice_index ps k < n

-- the cyclic product in whole numbers
abbrev pub cyclic : ℕ → (ℕ → ℤ) → List ℕ → ℕ → ℤ
cyclic m f ps i = cyclic_in (pos 0) ◌-ℤ◌ m f ps i

-- the reduced product, from the cyclic one: coefficient n is subtracted from coefficients 0 to n - 1, and there is no other
abbrev pub reduced : ℕ → (ℕ → ℤ) → ℕ → ℤ
reduced n f i = cond (nat_lt i n) (f i -ℤ f n) (pos 0)

-- the remainder modulo m, from 0 to m - 1
abbrev pub mod_z : ℕ → ℤ → ℕ
mod_z m (pos a) = a % m
mod_z m (negsuc a) = m - 1 - a % m

-- what the product area holds after a product of n words and a secret: n + 1 coefficients, modulo 2^16
unfoldable pub cyclic_words : ℕ → List ℕ → List ℕ → List ℕ
cyclic_words n ws ps = listed (n + 1) (λ k. mod_z (2 ^ 16) (cyclic (n + 1) (whole ws) ps k))

-- the n + 1 coefficients of the product of n signed numbers and a secret, in whole numbers
unfoldable pub cyclic_signed : ℕ → List ℤ → List ℕ → List ℤ
cyclic_signed n zs ps = listed (n + 1) (cyclic (n + 1) (signed zs) ps)

-- what one run of additions or subtractions does: op of each element and the one at its place in the second list; where the second ends, the first stays
abbrev pub along : {X : Type 0} → (X → X → X) → List X → List X → List X
along op [] ys = []
along op (x ∷ xs) [] = x ∷ xs
along op (x ∷ xs) (y ∷ ys) = op x y ∷ along op xs ys
