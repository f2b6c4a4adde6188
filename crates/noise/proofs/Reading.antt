-- One bit: what is read from its symbol, by the noise.
use Rattle.std.proofs.Common.{◌≡◌, ℕ, zero, suc, ◌+◌, ◌-◌, ◌*◌, ◌/◌, ◌%◌, ◌<◌, ◌≤◌, cond, ltb, leb, ℤ, pos, ◌+ℤ◌, ◌-ℤ◌, ◌*ℤ◌, sym, refl, ap, ◌∙◌, inl, inr, mul-le-mul_left, arith}
use native.Mathlib.Nat.{add-mul-div_right, add-mul-mod_self_right, mul-div-mul_right, mul-lt-mul_of_pos_left}
use borrow.Author.Differences.{up, down, ints}
use Rattle.std.proofs.lemmas.Grind.{common_steps}
use Rattle.std.proofs.lemmas.Bool.{cases_lt}
use Rattle.params.specs.Sizes.{q, p}
use Rattle.params.specs.Sums.{bit}
use Rattle.params.specs.declared.moduli.Moduli.{Moduli}
use Rattle.ring.specs.Cyclic.{mod_z}
use Rattle.ring.specs.Congruence.{Congruent}
use Rattle.ring.proofs.Congruences.{cong_same, cong_sym, cong_trans, cong_add, cong_sub, cong_move, cong_scale, cong_below, mod_z_lt, mod_z_cong}
use Rattle.rounding.specs.Rounding.{symbol, raw_bit, noise, in_band}
use Rattle.rounding.proofs.Errors.{cut}
use Rattle.noise.proofs.Scale.{Scaled, scaled, some_t, some_p, some_q, q_all, q_over_p, p_over_t, q_over_2t, half_t, half_p, half_q, quarter_q}

-- what is read, where the two constants are e + c together
spread_parts : (x y h1 h2 e c k rest : ℕ) → h2 + h1 ≡ e + c → up (pos (x + h1 + k) -ℤ pos rest -ℤ pos y +ℤ pos h2) + rest + y ≡ down (pos (x + h1 + k) -ℤ pos rest -ℤ pos y +ℤ pos h2) + x + e + c + k
spread_parts x y h1 h2 e c k rest is = omega (arith, ints)

-- the same times d, term by term
spread : (d x y h1 h2 e c k rest : ℕ) → h2 + h1 ≡ e + c → (pos d *ℤ pos x -ℤ pos d *ℤ pos y) +ℤ (pos (d * e) -ℤ pos (d * rest) +ℤ pos (d * c) +ℤ pos (d * k)) ≡ pos d *ℤ (pos (x + h1 + k) -ℤ pos rest -ℤ pos y +ℤ pos h2)
spread d x y h1 h2 e c k rest is = omega (arith, ints, ap (λ n. d * n) (spread_parts x y h1 h2 e c k rest is))

-- the sum that the noise is part of, in another order
ordered : (h1 e c b rest : ℕ) (drift : ℤ) → drift +ℤ pos (2 * h1 * e) -ℤ pos (2 * h1 * rest) +ℤ pos (2 * h1 * e * c) +ℤ pos (4 * h1 * e * c * b) ≡ drift +ℤ (pos (2 * h1 * e) -ℤ pos (2 * h1 * rest) +ℤ pos (2 * h1 * (e * c)) +ℤ pos (2 * h1 * (c * b * (2 * e))))
ordered h1 e c b rest drift = omega (arith, ints)

-- a comparison, both sides times d
leb_times : (d k y : ℕ) → 0 < d → leb k y ≡ leb (d * k) (d * y)
leb_times d k y some = elim (cases_lt y k) [
  | inl lt ↦ let less : d * y < d * k = mul-lt-mul_of_pos_left lt some in grind (arith, common_steps)
  | inr le ↦ let most : d * k ≤ d * y = mul-le-mul_left d le in grind (arith, common_steps)
]

-- a bit b that was added as a half: the upper half tells it where w lies in the lower half, else the other bit
by_halves : (half y w b : ℕ) → y < 2 * half → w < 2 * half → b < 2 → Congruent (2 * half) (pos y) (pos (w + half * b)) → bit (leb half y) ≡ cond (ltb w half) b (1 - b)
by_halves half y w zero hy hw hb g =
    let same : y ≡ w = cong_below hy hw (record { j = g.j; k = g.k; level = omega (arith, ints) }) in
    grind (arith, common_steps)
by_halves half y w (suc zero) hy hw hb g = elim (cases_lt w half) [
  | inl lt ↦
      let same : y ≡ w + half = cong_below hy (omega arith) (record { j = g.j; k = g.k; level = omega (arith, ints) }) in
      grind (arith, common_steps)
  | inr le ↦
      let same : y ≡ w - half = cong_below hy (omega arith) (record { j = g.j; k = suc g.k; level = omega (arith, ints) }) in
      grind (arith, common_steps)
]
by_halves half y w (suc (suc b)) hy hw hb g = absurd (omega arith)

module _ {q p t h1 h2 e c : ℕ} (S : Scaled q p t h1 h2 e c) where
  -- a number times t, over p
  over_p : (x : ℕ) → x * t / p ≡ x / (2 * e)
  over_p x = ap (λ k. x * t / k) S.p_is ∙ mul-div-mul_right x (2 * e) (some_t S)

  -- p/t times a symbol: the number and half of p for the bit, less what the cut leaves out, modulo p
  symbol_cong : (x b : ℕ) → Congruent p (pos (2 * e * (((x + h1) / (2 * e) + c * b) % t))) (pos (x + h1 + c * b * (2 * e)) -ℤ pos ((x + h1) % (2 * e)))
  symbol_cong x b =
      let some : 0 < 2 * e = omega (arith, S.some_e) in
      cong_move S.p_is
      (ap (λ k. pos (2 * e * (k % t))) (sym (add-mul-div_right (x + h1) (c * b) some)))
      (ap (λ k. pos (x + h1 + c * b * (2 * e)) -ℤ pos k) (sym (add-mul-mod_self_right (x + h1) (c * b) (2 * e))))
      (cut (2 * e) t (x + h1 + c * b * (2 * e)))

  -- q/p times what is read: the noise, a quarter of q, and half of q for the bit, modulo q
  read_cong : (x y b : ℕ) (drift : ℤ) → Congruent q (pos (2 * h1) *ℤ pos x -ℤ pos (2 * h1) *ℤ pos y) drift
      → Congruent q (pos (2 * h1) *ℤ (pos (2 * e * (((x + h1) / (2 * e) + c * b) % t)) -ℤ pos y +ℤ pos h2)) (drift +ℤ pos (2 * h1 * e) -ℤ pos (2 * h1 * ((x + h1) % (2 * e))) +ℤ pos (2 * h1 * e * c) +ℤ pos (4 * h1 * e * c * b))
  read_cong x y b drift g =
      let rest = (x + h1) % (2 * e) in
      let read = cong_add (cong_sub (symbol_cong x b) (cong_same {x = pos y} refl)) (cong_same {x = pos h2} refl) in
      cong_trans
      (cong_move S.q_is refl (spread (2 * h1) x y h1 h2 e (e * c) (c * b * (2 * e)) rest S.constants) (cong_scale (2 * h1) read))
      (cong_move refl refl (ordered h1 e c b rest drift) (cong_add g (cong_same refl)))

  -- the bit that is read, by the noise
  reads : (x y b : ℕ) (drift : ℤ) → b < 2 → Congruent q (pos (q / p) *ℤ pos x -ℤ pos (q / p) *ℤ pos y) drift
      → bit (leb (p / 2) (mod_z p (pos (p / t * (((x + h1) * t / p + t / 2 * b) % t)) -ℤ pos y +ℤ pos h2))) ≡ cond (ltb (mod_z q (drift +ℤ pos (q / (2 * t)) -ℤ pos (q / p * ((x + h1) % (p / t))) +ℤ pos (q / 4))) (q / 2)) b (1 - b)
  reads x y b drift low g =
      let z : ℤ = pos (2 * e * (((x + h1) / (2 * e) + c * b) % t)) -ℤ pos y +ℤ pos h2 in
      let w : ℤ = drift +ℤ pos (2 * h1 * e) -ℤ pos (2 * h1 * ((x + h1) % (2 * e))) +ℤ pos (2 * h1 * e * c) in
      let half = 4 * h1 * e * c in
      let some : 0 < 2 * h1 = omega (arith, S.some_h) in
      let q_is : 2 * half ≡ q = omega (arith, q_all S) in
      let half_is : 2 * h1 * (2 * e * c) ≡ half = omega arith in
      let read : Congruent (2 * half) (pos (2 * h1 * mod_z p z)) (pos (2 * h1) *ℤ z) = cong_move (q_is ∙ S.q_is) refl refl (cong_scale (2 * h1) (mod_z_cong p (some_p S) z)) in
      let told : Congruent (2 * half) (pos (2 * h1) *ℤ z) (pos (mod_z q w + half * b)) = cong_move q_is refl refl (cong_trans (read_cong x y b drift (rw (q_over_p S) at g)) (cong_sym (cong_add (mod_z_cong q (some_q S) w) (cong_same {x = pos (half * b)} refl)))) in
      let below : 2 * h1 * mod_z p z < 2 * half = omega (arith, S.q_is, mul-lt-mul_of_pos_left (mod_z_lt p (some_p S) z) some) in
      rw (half_p S, p_over_t S, over_p (x + h1), half_t S, q_over_2t S, q_over_p S, quarter_q S, half_q S)
      (ap bit (leb_times (2 * h1) (2 * e * c) (mod_z p z) some ∙ ap (λ k. leb k (2 * h1 * mod_z p z)) half_is)
      ∙ by_halves half (2 * h1 * mod_z p z) (mod_z q w) b below (omega (arith, mod_z_lt q (some_q S) w)) low (cong_trans read told))

-- where q/p times the two ends' residues differ by the drift, the bit is read as it was exactly if the noise is in band
pub raw_bit_is : (M : Moduli) (x y b : ℕ) (drift : ℤ) → b < 2 → Congruent (q M) (pos (q M / p M) *ℤ pos x -ℤ pos (q M / p M) *ℤ pos y) drift → raw_bit M (symbol M x b) y ≡ cond (in_band M (noise M drift x)) b (1 - b)
unfolding raw_bit symbol in_band noise
raw_bit_is M x y b drift low g = reads (scaled M) x y b drift low g
