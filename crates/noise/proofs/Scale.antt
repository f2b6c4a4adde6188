-- How the moduli and the two constants of rounding stand to one another.
use Rattle.std.proofs.Common.{◌≡◌, ℕ, ◌+◌, ◌-◌, ◌*◌, ◌/◌, ◌^◌, ◌<◌, ◌≤◌, ap, mul-pos, arith, pow_pos, pow_mono}
use native.Mathlib.Nat.{div-eq_of_eq-mul_left}
use Rattle.params.specs.Sizes.{q, p, t}
use Rattle.params.specs.declared.moduli.Moduli.{Moduli}
use Rattle.params.proofs.Lines.{over, over_twice}
use Rattle.rounding.specs.Rounding.{h1, h2}
use Rattle.rounding.proofs.Powers.{half_pow, over_twice as half_over}

-- each modulus is an even multiple of the next; e is half of p/t, c half of t
pub record Scaled (q p t h1 h2 e c : ℕ) : Type 0 where
  pub some_h : 0 < h1
  pub some_e : 0 < e
  pub some_c : 0 < c
  pub t_is : t ≡ 2 * c
  pub p_is : p ≡ 2 * e * t
  pub q_is : q ≡ 2 * h1 * p
  pub constants : h2 + h1 ≡ e + e * c

module _ {q p t h1 h2 e c : ℕ} (S : Scaled q p t h1 h2 e c) where
  -- no modulus is 0
  pub some_t : 0 < t
  some_t = omega (arith, S.t_is, S.some_c)

  -- p and q by their factors
  p_all : p ≡ 4 * e * c
  p_all = omega (arith, S.p_is, ap (λ n. 2 * e * n) S.t_is)

  pub q_all : q ≡ 8 * h1 * e * c
  q_all = omega (arith, S.q_is, ap (λ n. 2 * h1 * n) p_all)

  pub some_p : 0 < p
  some_p = omega (arith, p_all, mul-pos S.some_e S.some_c)

  pub some_q : 0 < q
  some_q = omega (arith, q_all, mul-pos (mul-pos S.some_h S.some_e) S.some_c)

  -- the quotients of the moduli
  pub q_over_p : q / p ≡ 2 * h1
  q_over_p = div-eq_of_eq-mul_left some_p S.q_is

  pub p_over_t : p / t ≡ 2 * e
  p_over_t = div-eq_of_eq-mul_left some_t S.p_is

  pub q_over_2t : q / (2 * t) ≡ 2 * h1 * e
  q_over_2t = div-eq_of_eq-mul_left (omega (arith, some_t)) (omega (arith, S.q_is, ap (λ n. 2 * h1 * n) S.p_is))

  pub half_t : t / 2 ≡ c
  half_t = div-eq_of_eq-mul_left (omega arith) (omega (arith, S.t_is))

  pub half_p : p / 2 ≡ 2 * e * c
  half_p = div-eq_of_eq-mul_left (omega arith) (omega (arith, p_all))

  pub half_q : q / 2 ≡ 4 * h1 * e * c
  half_q = div-eq_of_eq-mul_left (omega arith) (omega (arith, q_all))

  pub quarter_q : q / 4 ≡ 2 * h1 * e * c
  quarter_q = div-eq_of_eq-mul_left (omega arith) (omega (arith, q_all))

-- the second constant, from which the first is subtracted in full
constants_are : (p t e c h1 : ℕ) → p ≡ 2 * e * t → t ≡ 2 * c → h1 ≤ e → e + p / 4 - h1 + h1 ≡ e + e * c
constants_are p t e c h1 p_is t_is le =
    let quarter : p / 4 ≡ e * c = div-eq_of_eq-mul_left (omega arith) (omega (arith, ap (λ n. 2 * e * n) t_is)) in
    omega arith

-- all moduli stand so
pub scaled : (M : Moduli) → Scaled (q M) (p M) (t M) (h1 M) (h2 M) (p M / (2 * t M)) (t M / 2)
scaled M =
    let first : h1 M ≡ 2 ^ (M.qb - M.pb - 1) = half_over M.pb M.qb M.rounds in
    let upper : p M / (2 * t M) ≡ 2 ^ (M.pb - M.tb - 1) = half_over M.tb M.pb M.symbols in
    let lower : t M / 2 ≡ 2 ^ (M.tb - 1) = half_pow M.tb M.some in
    let order : h1 M ≤ p M / (2 * t M) = omega (arith, first, upper, pow_mono {i = M.qb - M.pb - 1} {j = M.pb - M.tb - 1} (omega (arith, M.balance))) in
    let t_is : t M ≡ 2 * (t M / 2) = omega (arith, over 1 M.tb M.some) in
    let p_is : p M ≡ 2 * (p M / (2 * t M)) * t M = omega (arith, over_twice M.tb M.pb M.symbols) in
    record {
      some_h = omega (arith, first, pow_pos (M.qb - M.pb - 1));
      some_e = omega (arith, upper, pow_pos (M.pb - M.tb - 1));
      some_c = omega (arith, lower, pow_pos (M.tb - 1));
      t_is = t_is;
      p_is = p_is;
      q_is = omega (arith, over_twice M.pb M.qb M.rounds);
      constants = constants_are (p M) (t M) (p M / (2 * t M)) (t M / 2) (h1 M) p_is t_is order;
    }
