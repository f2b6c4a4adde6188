-- The laws of the product by a secret, in whole numbers. What is proved of the scheme rests on them and on nothing else about the product; another ring brings its own.
use Rattle.std.specs.Prelude.{◌≡◌, ℕ, ◌*◌, ◌%◌, ◌≤◌, List, length, ℤ, pos, ◌+ℤ◌, unsigned_abs}
use Rattle.ring.specs.Cyclic.{mod_z, reduced}

-- a secret with as many signs + as -
abbrev pub Balanced : List ℕ → Type 0
Balanced s = length s % 2 ≡ 0

-- `times f s i` is coefficient i of the product of f and the secret s, for polynomials of n coefficients
pub record Multiplies (n : ℕ) (times : (ℕ → ℤ) → List ℕ → ℕ → ℤ) : Type 0 where
  -- multiplying by a secret is additive
  pub additive : (f g : ℕ → ℤ) (s : List ℕ) (i : ℕ) → times (λ j. f j +ℤ g j) s i ≡ times f s i +ℤ times g s i
  -- remainders modulo q taken before it change no remainder modulo q after it
  pub remainders : (q : ℕ) → 1 ≤ q → (f : ℕ → ℤ) (s : List ℕ) (i : ℕ) → mod_z q (times (λ j. pos (mod_z q (f j))) s i) ≡ mod_z q (times f s i)
  -- no coefficient grows beyond h times the largest, where h positions make the secret
  pub bounded : (f : ℕ → ℤ) (largest : ℕ) → ((j : ℕ) → unsigned_abs (f j) ≤ largest) → (s : List ℕ) (i : ℕ) → unsigned_abs (times f s i) ≤ length s * largest
  -- the reduced product of f and one secret, times the other secret, is the same either way round
  pub exchange : (f : ℕ → ℤ) (s r : List ℕ) → Balanced s → Balanced r → (i : ℕ) → times (reduced n (times f s)) r i ≡ times (reduced n (times f r)) s i
