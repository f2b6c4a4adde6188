-- The laws of rounding.
use Rattle.std.proofs.Common.{◌≡◌, ℕ, ◌+◌, ◌-◌, ◌*◌, ◌/◌, ◌%◌, ◌^◌, ◌<◌, ◌≤◌, pos, ◌+ℤ◌, ◌-ℤ◌, nat_abs, sym, ap, ◌∙◌, subst, mod-lt, arith, pow_pos}
use native.Mathlib.Nat.{mod-add-div', mul-div-mul_right}
use borrow.Author.Differences.{ints}
use Rattle.params.specs.Sizes.{q, p}
use Rattle.params.specs.declared.moduli.Moduli.{Moduli}
use Rattle.ring.specs.Congruence.{Congruent}
use Rattle.ring.proofs.Congruences.{cong_move}
use Rattle.rounding.specs.Rounding.{h1, rounded, slip}
use Rattle.rounding.specs.RoundingLaws.{Rounds}
use Rattle.rounding.proofs.Powers.{split, over, over_twice, twice_pow}

-- y / d modulo m, times d, is y without its remainder by d
parts : (d m y : ℕ) → d * (y / d % m) + y / d / m * (d * m) + y % d ≡ y
parts d m y = omega (arith, mod-add-div' y d, ap (λ n. d * n) (mod-add-div' (y / d) m))

-- d times the quotient by d, modulo d·m: the number less its remainder
pub cut : (d m y : ℕ) → Congruent (d * m) (pos (d * (y / d % m))) (pos y -ℤ pos (y % d))
cut d m y = record { j = y / d / m; k = 0; level = omega (arith, ints, parts d m y) }

regroup : (x h r : ℕ) → pos x +ℤ (pos h -ℤ pos r) ≡ pos (x + h) -ℤ pos r
regroup x h r = omega (arith, ints)

error : (M : Moduli) (x : ℕ) → Congruent (q M) (pos (q M / p M * rounded M x)) (pos x +ℤ slip M x)
unfolding rounded slip
error M x =
    let d : ℕ = q M / p M in
    let q_is : q M ≡ d * p M = split M.pb M.qb (omega arith) ∙ ap (λ n. n * p M) (sym (over M.pb M.qb (omega arith))) in
    let r-is : (x + h1 M) * p M / q M ≡ (x + h1 M) / d = ap (λ n. (x + h1 M) * p M / n) q_is ∙ mul-div-mul_right (x + h1 M) d (pow_pos M.pb) in
    cong_move q_is (ap (λ n. pos (d * (n % p M))) r-is) (regroup x (h1 M) ((x + h1 M) % d)) (cut d (p M) (x + h1 M))

within : (h r : ℕ) → r < 2 * h → nat_abs (pos h -ℤ pos r) ≤ h
within h r lt = omega (arith, ints)

small : (M : Moduli) (x : ℕ) → nat_abs (slip M x) ≤ h1 M
unfolding slip
small M x =
    let d : ℕ = M.qb - M.pb in
    let h-is : h1 M ≡ 2 ^ (d - 1) = over_twice M.pb M.qb (omega arith) in
    let r-is : q M / p M ≡ 2 * h1 M = over M.pb M.qb (omega arith) ∙ twice_pow d (omega arith) ∙ ap (λ n. 2 * n) (sym h-is) in
    let some : 0 < q M / p M = subst (λ n. 0 < n) (sym (over M.pb M.qb (omega arith))) (pow_pos d) in
    within (h1 M) ((x + h1 M) % (q M / p M)) (subst (λ n. (x + h1 M) % (q M / p M) < n) r-is (mod-lt (x + h1 M) some))

pub rounds : (M : Moduli) → Rounds M
rounds M = record { error = error M; small = small M }
