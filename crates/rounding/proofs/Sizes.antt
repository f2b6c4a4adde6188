-- How large the answers are.
use Rattle.std.proofs.Common.{◌≡◌, ℕ, ◌+◌, ◌-◌, ◌*◌, ◌/◌, ◌%◌, ◌^◌, ◌<◌, ◌≤◌, pos, ◌-ℤ◌, nat_abs, ap, ◌∙◌, mod-lt, mod-eq_of_lt, zero-add, arith, pow_pos, pow_mono}
use native.Mathlib.Nat.{div-eq_of_lt}
use Rattle.std.proofs.lemmas.Grind.{common_steps}
use borrow.Author.Differences.{ints}
use Rattle.params.specs.Sizes.{q, p, t}
use Rattle.params.specs.declared.moduli.Moduli.{Moduli}
use Rattle.rounding.specs.Rounding.{h1, rounded, symbol, raw_bit, slip}
use Rattle.rounding.proofs.Errors.{rounds}
use Rattle.rounding.proofs.Powers.{split, over, over_twice, twice_pow}

pub rounded_lt : (M : Moduli) (x : ℕ) → rounded M x < p M
unfolding rounded
rounded_lt M x = mod-lt _ (pow_pos M.pb)

pub symbol_lt : (M : Moduli) (x bit : ℕ) → symbol M x bit < t M
unfolding symbol
symbol_lt M x bit = mod-lt _ (pow_pos M.tb)

pub raw_bit_le : (M : Moduli) (v x : ℕ) → raw_bit M v x ≤ 1
unfolding raw_bit
raw_bit_le M v x = grind (arith, common_steps)

pub slip_near : (M : Moduli) (x : ℕ) → nat_abs (slip M x) ≤ 2 ^ 14
slip_near M x =
    let h-is : h1 M ≡ 2 ^ (M.qb - M.pb - 1) = over_twice M.pb M.qb (omega arith) in
    let h_le : 2 ^ (M.qb - M.pb - 1) ≤ 2 ^ 14 = pow_mono {i = M.qb - M.pb - 1} {j = 14} (omega arith) in
    omega (arith, (rounds M).small x)

-- ---- what becomes of 0
pub rounded_zero : (M : Moduli) → rounded M 0 ≡ 0
unfolding rounded
rounded_zero M =
    let h-is : h1 M ≡ 2 ^ (M.qb - M.pb - 1) = over_twice M.pb M.qb (omega arith) in
    let top : 2 * h1 M * p M ≡ q M = omega (arith, split M.pb M.qb (omega arith), ap (λ n. n * p M) (twice_pow (M.qb - M.pb) (omega arith)), ap (λ n. n * p M) h-is) in
    let lt : (0 + h1 M) * p M < q M = omega (arith, pow_pos M.qb) in
    ap (λ n. n % p M) (div-eq_of_lt lt) ∙ mod-eq_of_lt (pow_pos M.pb)

pub slip_zero : (M : Moduli) → slip M 0 ≡ pos 0
unfolding slip
slip_zero M =
    let d : ℕ = M.qb - M.pb in
    let h-is : h1 M ≡ 2 ^ (d - 1) = over_twice M.pb M.qb (omega arith) in
    let r-is : q M / p M ≡ 2 ^ d = over M.pb M.qb (omega arith) in
    let lt : 0 + h1 M < q M / p M = omega (arith, twice_pow d (omega arith), pow_pos (d - 1)) in
    less (h1 M) ((0 + h1 M) % (q M / p M)) (mod-eq_of_lt lt ∙ zero-add (h1 M))
  where
    less : (h r : ℕ) → r ≡ h → pos h -ℤ pos r ≡ pos 0
    less h r e = omega (arith, ints)
