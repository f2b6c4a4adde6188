-- Powers of two divided by smaller ones, and the line.
use Rattle.std.proofs.Common.{◌≡◌, ℕ, suc, ◌+◌, ◌-◌, ◌*◌, ◌/◌, ◌^◌, ◌<◌, ◌≤◌, sym, ap, ◌∙◌, lt_of_mul-lt-mul_right, mul-lt-mul_of_pos_right, mul-pos, arith, pow_pos, pow-add}
use native.Mathlib.Nat.{div-eq_of_eq-mul_left, mul-lt-mul_of_pos_left, lt_of_mul-lt-mul_left}
use Rattle.std.proofs.lemmas.Nat.{mul-le}
use Rattle.params.specs.Limits.{most_n, word_bits}
use Rattle.params.specs.Sizes.{q, p, t, bound, BelowLine}
use Rattle.params.specs.declared.set.Set.{Set}

-- 2^b is 2^(b - a) times 2^a
split : (a b : ℕ) → a ≤ b → 2 ^ b ≡ 2 ^ (b - a) * 2 ^ a
split a b le = let whole : b ≡ (b - a) + a = omega arith in ap (λ n. 2 ^ n) whole ∙ pow-add 2 (b - a) a

-- a smaller power of two goes into a larger one
pub over : (a b : ℕ) → a ≤ b → 2 ^ b / 2 ^ a * 2 ^ a ≡ 2 ^ b
over a b le = ap (λ n. n * 2 ^ a) (div-eq_of_eq-mul_left (pow_pos a) (split a b le)) ∙ sym (split a b le)

-- and so does twice a power that is smaller
pub over_twice : (a b : ℕ) → a < b → 2 ^ b / (2 * 2 ^ a) * (2 * 2 ^ a) ≡ 2 ^ b
over_twice a b lt =
    let twice : 2 * 2 ^ a ≡ 2 ^ suc a = omega arith in
    ap (λ n. 2 ^ b / n * n) twice ∙ over (suc a) b lt

-- the line, and the bound below a quarter of q: one is the other times q, over 4·p·t
module _ (q p t h a d f : ℕ) (whole_a : a * (2 * t) ≡ q) (whole_d : d * p ≡ q) (whole_f : f * 4 ≡ q) where
  scaled_bound : (a + h * d) * (4 * p * t) ≡ q * (2 * p + 4 * (h * t))
  scaled_bound = omega (arith, ap (λ n. n * (2 * p)) whole_a, ap (λ n. n * (4 * h * t)) whole_d)

  scaled_quarter : f * (4 * p * t) ≡ q * (p * t)
  scaled_quarter = omega (arith, ap (λ n. n * (p * t)) whole_f)

  pub line_bounds : 0 < q → 2 * p + 4 * (h * t) < p * t → a + h * d < f
  line_bounds some line =
      let scaled : (a + h * d) * (4 * p * t) < f * (4 * p * t) = omega (arith, scaled_bound, scaled_quarter, mul-lt-mul_of_pos_left line some) in
      lt_of_mul-lt-mul_right (4 * p * t) scaled

  pub bound_lines : 0 < p * t → a + h * d < f → 2 * p + 4 * (h * t) < p * t
  bound_lines some below =
      let sized : 0 < 4 * p * t = omega arith in
      let scaled : q * (2 * p + 4 * (h * t)) < q * (p * t) = omega (arith, scaled_bound, scaled_quarter, mul-lt-mul_of_pos_right below sized) in
      lt_of_mul-lt-mul_left q scaled

-- the parts of a set's bound, and a quarter of q, are whole
pub quarter_from_line : (s : Set) → BelowLine s → bound s < q s.moduli / 4
quarter_from_line s line =
    let m = s.moduli in
    line_bounds (q m) (p m) (t m) s.h (q m / (2 * t m)) (q m / p m) (q m / 4)
    (over_twice m.tb m.qb (omega arith)) (over m.pb m.qb (omega arith)) (over 2 m.qb (omega arith)) (pow_pos m.qb) line

pub line_from_quarter : (s : Set) → bound s < q s.moduli / 4 → BelowLine s
line_from_quarter s below =
    let m = s.moduli in
    bound_lines (q m) (p m) (t m) s.h (q m / (2 * t m)) (q m / p m) (q m / 4)
    (over_twice m.tb m.qb (omega arith)) (over m.pb m.qb (omega arith)) (over 2 m.qb (omega arith)) (mul-pos (pow_pos m.pb) (pow_pos m.tb)) below

-- h times a modulus
pub weight_times : (h x : ℕ) → h ≤ most_n → x ≤ 2 ^ word_bits → h * x ≤ most_n * 2 ^ word_bits
weight_times h x few small = mul-le h x most_n (2 ^ word_bits) few small
