-- Inverted bits: the inverse of x in k bits is 2 ^ k - 1 - x.
use Rattle.std.proofs.Common.{◌≡◌, ℕ, zero, suc, ◌+◌, ◌-◌, ◌*◌, ◌/◌, ◌^◌, ◌<◌, ap, ◌∙◌, pow-suc, arith}
use lib.Bits.{bit_and, bit_or, bit_xor, and_step, or_step, or_add_and, xor_add_and, and_le_r}
use Rattle.keccak.specs.Keccak.{mixed}

-- the sum with z inverted is the inverse of the product with y inverted
inverse : (k y z : ℕ) → y < 2 ^ k → z < 2 ^ k → bit_or y (2 ^ k - 1 - z) + bit_and (2 ^ k - 1 - y) z ≡ 2 ^ k - 1
inverse zero y z p q =
    let a : y ≡ 0 = omega arith in
    let b : z ≡ 0 = omega arith in
    ap (λ (i : ℕ). bit_or i (0 - z) + bit_and (0 - i) z) a ∙ ap (λ (i : ℕ). bit_or 0 (0 - i) + bit_and (0 - 0) i) b
inverse (suc k) y z p q =
    let e : 2 ^ suc k ≡ 2 ^ k * 2 = pow-suc 2 k in
    let a : (2 ^ suc k - 1 - z) / 2 ≡ 2 ^ k - 1 - z / 2 = omega arith in
    let b : (2 ^ suc k - 1 - y) / 2 ≡ 2 ^ k - 1 - y / 2 = omega arith in
    let o = or_step y (2 ^ suc k - 1 - z) in
    let n = and_step (2 ^ suc k - 1 - y) z in
    let r = inverse k (y / 2) (z / 2) (omega arith) (omega arith) in
    omega (arith, e, o, n, r, ap (bit_or (y / 2)) a, ap (λ (i : ℕ). bit_and i (z / 2)) b)

both : (k x t : ℕ) → x < 2 ^ k → t < 2 ^ k → bit_xor (2 ^ k - 1 - x) (2 ^ k - 1 - t) ≡ bit_xor x t
both k x t p q =
    let a : 2 ^ k - 1 - (2 ^ k - 1 - t) ≡ t = omega arith in
    let r = inverse k x (2 ^ k - 1 - t) p (omega arith) in
    omega (arith, ap (bit_or x) a, r, or_add_and x t, xor_add_and x t, xor_add_and (2 ^ k - 1 - x) (2 ^ k - 1 - t))

-- a bit of chi by a sum
pub mixed_by_sum : (x y z : ℕ) → x < 2 ^ 64 → y < 2 ^ 64 → z < 2 ^ 64 → bit_xor (2 ^ 64 - 1 - x) (bit_or y (2 ^ 64 - 1 - z)) ≡ mixed x y z
mixed_by_sum x y z p q r =
    let t : ℕ = bit_and (2 ^ 64 - 1 - y) z in
    let l : bit_and (2 ^ 64 - 1 - y) z < 2 ^ 64 = omega (arith, and_le_r (2 ^ 64 - 1 - y) z) in
    let e : bit_or y (2 ^ 64 - 1 - z) ≡ 2 ^ 64 - 1 - bit_and (2 ^ 64 - 1 - y) z = omega (arith, inverse 64 y z q r) in
    ap (bit_xor (2 ^ 64 - 1 - x)) e ∙ both 64 x t p l
