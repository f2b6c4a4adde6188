-- Bits as numbers, and lists of zeros.
use Rattle.std.proofs.Common.{◌≡◌, ℕ, zero, suc, ◌+◌, ◌-◌, ◌%◌, ◌<◌, Bool, true, false, cond, not, eqb, get_or, replicate, refl, arith}
use lib.Bits.{bit_xor}
use Rattle.std.proofs.lemmas.Grind.{common_steps}
use Rattle.std.proofs.lemmas.Bool.Decides.{nat_tests}
use Rattle.params.specs.Sums.{bit}

-- a test as a bit
pub bit_small : (t : Bool) → bit t < 2
bit_small true = omega arith
bit_small false = omega arith

-- a bit that is flipped or not
pub flip_bit : (x : ℕ) (t : Bool) → x < 2 → bit_xor x (bit t) ≡ cond t (1 - x) x
flip_bit zero true h = refl
flip_bit zero false h = refl
flip_bit (suc zero) true h = refl
flip_bit (suc zero) false h = refl
flip_bit (suc (suc x)) t h = absurd (omega arith)

pub flip_small : (x : ℕ) (t : Bool) → x < 2 → cond t (1 - x) x < 2
flip_small x true h = omega arith
flip_small x false h = omega arith

-- exclusive or of two bits
pub xor_bits : (a b : ℕ) → a < 2 → b < 2 → bit_xor a b ≡ (a + b) % 2
xor_bits zero zero h g = refl
xor_bits zero (suc zero) h g = refl
xor_bits zero (suc (suc b)) h g = absurd (omega arith)
xor_bits (suc zero) zero h g = refl
xor_bits (suc zero) (suc zero) h g = refl
xor_bits (suc zero) (suc (suc b)) h g = absurd (omega arith)
xor_bits (suc (suc a)) b h g = absurd (omega arith)

-- two bits differ where their sum is odd
pub differ_odd : (x y : ℕ) → x < 2 → y < 2 → bit (not (eqb x y)) ≡ (x + y) % 2
differ_odd x y hx hy = grind (arith, nat_tests)

-- zeros everywhere, and past the end
pub zeros : (n i : ℕ) → get_or (replicate {A = ℕ} n 0) i 0 ≡ 0
zeros n i = grind (arith, common_steps)
