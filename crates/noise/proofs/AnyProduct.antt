-- The agreement of the two ends, from the four laws of the product alone.
use Rattle.std.proofs.Common.{◌≡◌, ℕ, ◌*◌, ◌/◌, ◌≤◌, List, length, ℤ, pos, ◌+ℤ◌, ◌-ℤ◌, ◌*ℤ◌, nat_abs, sym, refl, le_trans, mul-le-mul_right, arith, pow_pos}
use borrow.Author.Differences.{ints}
use Rattle.params.specs.Sizes.{q, p}
use Rattle.params.specs.declared.moduli.Moduli.{Moduli}
use Rattle.params.proofs.Lines.{over}
use Rattle.ring.specs.Cyclic.{reduced}
use Rattle.ring.specs.Congruence.{Congruent}
use Rattle.ring.specs.RingLaws.{Balanced, Multiplies}
use Rattle.ring.proofs.Congruences.{cong_same, cong_trans, cong_sub, cong_add, cong_move, cong_scale, mod_z_cong}
use Rattle.ring.proofs.FromLaws.{times_scale, times_cong}
use Rattle.rounding.specs.Rounding.{h1, rounded, slip}
use Rattle.rounding.proofs.Errors.{rounds}
use Rattle.noise.specs.Bounds.{noise_bound}
use Rattle.noise.specs.AnyProduct.{residue_at, cross_at, slips_at, noise_at, read_at, Agreement}
use Rattle.noise.proofs.Reading.{raw_bit_is}
use Rattle.noise.proofs.Sizes.{noise_bounded, safe_band}

-- the same number comes off both sides
same_off : (x y u v : ℤ) → x ≡ y → (x +ℤ u) -ℤ (y +ℤ v) ≡ u -ℤ v
same_off x y u v e = omega (arith, ints)

module _ (M : Moduli) (n : ℕ) (times : (ℕ → ℤ) → List ℕ → ℕ → ℤ) (L : Multiplies n times) (a : ℕ → ℤ) where
  -- q/p times the residue that an end makes: a times both secrets, and the other's slips times its own, modulo q
  cross_cong : (s r : List ℕ) (i : ℕ) → Congruent (q M) (pos (q M / p M) *ℤ pos (cross_at M n times a s r i)) (times (reduced n (times a s)) r i +ℤ slips_at M n times a s r i)
  unfolding cross_at residue_at
  cross_cong s r i =
      let d = q M / p M in
      let some_q = pow_pos M.qb in
      let product : ℕ → ℤ = reduced n (times a s) in
      let public : ℕ → ℤ = λ j. pos (rounded M (residue_at M n times a s j)) in
      let off : ℕ → ℤ = λ j. slip M (residue_at M n times a s j) in
      let place : (j : ℕ) → Congruent (q M) (pos d *ℤ public j) (product j +ℤ off j) = λ j.
      cong_trans ((rounds M).error (residue_at M n times a s j)) (cong_add (mod_z_cong (q M) some_q (product j)) (cong_same {x = off j} refl)) in
      cong_trans
      (cong_move (sym (over M.pb M.qb (omega arith))) refl (times_scale L r i d public) (cong_scale d (mod_z_cong (p M) (pow_pos M.pb) (times public r i))))
      (cong_move refl refl (sym (L.additive product off r i)) (times_cong L r i (q M) some_q (λ j. pos d *ℤ public j) (λ j. product j +ℤ off j) place))

  -- a times both secrets is the same at both ends: what is left of the difference is the slips
  drift_cong : (s r : List ℕ) → Balanced s → Balanced r → (i : ℕ) → Congruent (q M) (pos (q M / p M) *ℤ pos (cross_at M n times a s r i) -ℤ pos (q M / p M) *ℤ pos (cross_at M n times a r s i)) (slips_at M n times a s r i -ℤ slips_at M n times a r s i)
  drift_cong s r es er i =
      cong_move refl refl
      (sym (same_off (times (reduced n (times a s)) r i) (times (reduced n (times a r)) s i) (slips_at M n times a s r i) (slips_at M n times a r s i) (L.exchange a s r es er i)))
      (cong_sub (cross_cong s r i) (cross_cong r s i))

  -- no product of slips is larger than h times the largest
  slips_bound : (h : ℕ) (s r : List ℕ) → length r ≤ h → (i : ℕ) → nat_abs (slips_at M n times a s r i) ≤ h * h1 M
  slips_bound h s r few i =
      le_trans (L.bounded (λ j. slip M (residue_at M n times a s j)) (h1 M) (λ j. (rounds M).small (residue_at M n times a s j)) r i) (mul-le-mul_right (h1 M) few)

  -- noise is within the bound
  noise_near : (h : ℕ) (s r : List ℕ) → length s ≤ h → length r ≤ h → (i : ℕ) → nat_abs (noise_at M n times a s r i) ≤ noise_bound M h
  unfolding noise_at
  noise_near h s r hs hr i =
      noise_bounded M h (cross_at M n times a s r i) (slips_at M n times a s r i) (slips_at M n times a r s i) (slips_bound h s r hr i) (slips_bound h r s hs i)

  -- all three, of any polynomial and secrets
  pub agreement : (s r : List ℕ) → Agreement M n times a s r
  unfolding noise_at read_at
  agreement s r = record {
    exact = λ es er i bit low. raw_bit_is M (cross_at M n times a s r i) (cross_at M n times a r s i) bit (slips_at M n times a s r i -ℤ slips_at M n times a r s i) low (drift_cong s r es er i);
    bounded = λ h hs hr i. noise_near h s r hs hr i;
    safe = λ h hs hr line i. safe_band M h line (noise_at M n times a s r i) (noise_near h s r hs hr i);
  }
