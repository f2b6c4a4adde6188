-- How large noise is, and when it is in band.
use Rattle.std.proofs.Common.{◌≡◌, ℕ, ◌+◌, ◌-◌, ◌*◌, ◌/◌, ◌%◌, ◌<◌, ◌≤◌, true, ltb, ℤ, pos, ◌+ℤ◌, ◌-ℤ◌, nat_abs, sym, subst, lt_of_le_of_lt, mod-lt, mul-le-mul_left, arith, pow_pos}
use native.Mathlib.Nat.{mod-le}
use borrow.Author.Differences.{up, down, ints}
use Rattle.std.proofs.lemmas.Bool.{lt-ltb}
use Rattle.params.specs.Sizes.{q, p, t}
use Rattle.params.specs.declared.moduli.Moduli.{Moduli}
use Rattle.params.proofs.Lines.{over, over_twice, line_bounds}
use Rattle.ring.specs.Cyclic.{mod_z}
use Rattle.rounding.specs.Rounding.{h1, noise, in_band}
use Rattle.noise.specs.Bounds.{noise_bound, Below}
use Rattle.noise.proofs.Scale.{Scaled, scaled, q_over_p, p_over_t, q_over_2t, half_q, quarter_q}

-- noise in its four parts
total : (most middle rest : ℕ) (y z : ℤ) → nat_abs y ≤ most → nat_abs z ≤ most → rest ≤ 2 * middle → nat_abs (y -ℤ z +ℤ pos middle -ℤ pos rest) ≤ middle + 2 * most
total most middle rest y z hy hz le = omega (arith, ints)

-- what is smaller than a quarter in size, and a quarter more, lies below half
near_below : (quarter half q : ℕ) (w : ℤ) → nat_abs w < quarter → half ≡ 2 * quarter → mod_z q (w +ℤ pos quarter) < half
near_below quarter half q w near is =
    let k = up w + quarter - down w in
    let sum : w +ℤ pos quarter ≡ pos k = omega (arith, ints) in
    let low : k < half = omega (arith, ints) in
    subst (λ z. mod_z q z < half) (sym sum) (lt_of_le_of_lt (mod-le k q) low)

module _ {q p t h1 h2 e c : ℕ} (S : Scaled q p t h1 h2 e c) where
  -- noise, of two products of at most h slips
  noise_size : (h x : ℕ) (y z : ℤ) → nat_abs y ≤ h * h1 → nat_abs z ≤ h * h1 → nat_abs (y -ℤ z +ℤ pos (q / (2 * t)) -ℤ pos (q / p * ((x + h1) % (p / t)))) ≤ q / (2 * t) + h * (q / p)
  noise_size h x y z hy hz =
      let some : 0 < 2 * e = omega (arith, S.some_e) in
      let rest : 2 * h1 * ((x + h1) % (2 * e)) ≤ 2 * (2 * h1 * e) = omega (arith, mul-le-mul_left (2 * h1) (mod-lt (x + h1) some)) in
      rw (q_over_2t S, q_over_p S, p_over_t S) (omega (arith, total (h * h1) (2 * h1 * e) (2 * h1 * ((x + h1) % (2 * e))) y z hy hz rest))

  -- noise below a quarter of q is in band
  near_band : (w : ℤ) → nat_abs w < q / 4 → ltb (mod_z q (w +ℤ pos (q / 4))) (q / 2) ≡ true
  near_band w near = lt-ltb _ _ (near_below (q / 4) (q / 2) q w near (omega (arith, half_q S, quarter_q S)))

module _ (M : Moduli) where
  -- noise is within the bound where the two products of slips are at most h times the first constant
  pub noise_bounded : (h x : ℕ) (y z : ℤ) → nat_abs y ≤ h * h1 M → nat_abs z ≤ h * h1 M → nat_abs (noise M (y -ℤ z) x) ≤ noise_bound M h
  unfolding noise
  noise_bounded h x y z hy hz = noise_size (scaled M) h x y z hy hz

  -- below the line, noise within the bound is in band
  pub safe_band : (h : ℕ) → Below M h → (w : ℤ) → nat_abs w ≤ noise_bound M h → in_band M w ≡ true
  unfolding in_band
  safe_band h line w size =
      let quarter : noise_bound M h < q M / 4 = line_bounds (q M) (p M) (t M) h (q M / (2 * t M)) (q M / p M) (q M / 4) (over_twice M.tb M.qb (omega arith)) (over M.pb M.qb (omega arith)) (over 2 M.qb (omega arith)) (pow_pos M.qb) line in
      near_band (scaled M) w (omega arith)
