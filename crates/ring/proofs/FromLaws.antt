-- What the laws of a product give of any ring's product.
use Rattle.std.proofs.Common.{◌≡◌, ℕ, zero, suc, ◌≤◌, List, ℤ, pos, ◌+ℤ◌, ◌-ℤ◌, ◌*ℤ◌, sym, ap, ◌∙◌, arith}
use Rattle.std.proofs.Math.IntN.{zero-*ℤ, -ℤ-+ℤ_cancel}
use mathlib.Core.Path.{fun_ext}
use borrow.Author.Differences.{ints}
use Rattle.ring.specs.Cyclic.{mod_z}
use Rattle.ring.specs.Congruence.{Congruent}
use Rattle.ring.specs.RingLaws.{Multiplies}
use Rattle.ring.proofs.Congruences.{cong_same, cong_sym, cong_trans, mod_z_cong, mod_z_same}

less : (x y z : ℤ) → x ≡ y +ℤ z → y ≡ x -ℤ z
less x y z e = omega (arith, ints)

none : (x : ℤ) → x ≡ x +ℤ x → x ≡ pos 0
none x e = omega (arith, ints)

suc_times : (d : ℕ) (x : ℤ) → pos (suc d) *ℤ x ≡ x +ℤ pos d *ℤ x
suc_times d x = omega (arith, ints)

module _ {n : ℕ} {times : (ℕ → ℤ) → List ℕ → ℕ → ℤ} (L : Multiplies n times) (s : List ℕ) (i : ℕ) where
  pub times_same : (f g : ℕ → ℤ) → ((j : ℕ) → f j ≡ g j) → times f s i ≡ times g s i
  times_same f g e = ap (λ h. times h s i) (fun_ext e)

  pub times_sub : (f g : ℕ → ℤ) → times (λ j. f j -ℤ g j) s i ≡ times f s i -ℤ times g s i
  times_sub f g = less (times f s i) (times (λ j. f j -ℤ g j) s i) (times g s i) (times_same f (λ j. (f j -ℤ g j) +ℤ g j) (λ j. sym (-ℤ-+ℤ_cancel (f j) (g j))) ∙ L.additive (λ j. f j -ℤ g j) g s i)

  pub times_zero : times (λ _. pos 0) s i ≡ pos 0
  times_zero = none (times (λ _. pos 0) s i) (L.additive (λ _. pos 0) (λ _. pos 0) s i)

  pub times_scale : (d : ℕ) (f : ℕ → ℤ) → times (λ j. pos d *ℤ f j) s i ≡ pos d *ℤ times f s i
  times_scale zero f = times_same (λ j. pos 0 *ℤ f j) (λ _. pos 0) (λ j. zero-*ℤ (f j)) ∙ times_zero ∙ sym (zero-*ℤ (times f s i))
  times_scale (suc d) f =
      times_same (λ j. pos (suc d) *ℤ f j) (λ j. f j +ℤ pos d *ℤ f j) (λ j. suc_times d (f j))
      ∙ L.additive f (λ j. pos d *ℤ f j) s i
      ∙ ap (λ z. times f s i +ℤ z) (times_scale d f)
      ∙ sym (suc_times d (times f s i))

  pub times_cong : (q : ℕ) → 1 ≤ q → (f g : ℕ → ℤ) → ((j : ℕ) → Congruent q (f j) (g j)) → Congruent q (times f s i) (times g s i)
  times_cong q some f g e =
      let same : mod_z q (times f s i) ≡ mod_z q (times g s i) =
      sym (L.remainders q some f s i) ∙ ap (mod_z q) (times_same (λ j. pos (mod_z q (f j))) (λ j. pos (mod_z q (g j))) (λ j. ap (λ k. pos k) (mod_z_same q some (e j)))) ∙ L.remainders q some g s i in
      cong_trans (cong_sym (mod_z_cong q some (times f s i))) (cong_trans (cong_same (ap (λ k. pos k) same)) (mod_z_cong q some (times g s i)))
