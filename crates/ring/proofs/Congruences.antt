-- The laws of congruence, and of the remainder mod_z.
use Rattle.std.proofs.Common.{◌≡◌, ℕ, suc, ◌+◌, ◌-◌, ◌*◌, ◌/◌, ◌%◌, ◌^◌, ◌<◌, ◌≤◌, ℤ, pos, negsuc, ◌+ℤ◌, ◌-ℤ◌, ◌*ℤ◌, sym, ap, ◌∙◌, subst, mod-lt, mod-eq_of_lt, arith, pow_pos, pow-add}
use native.Mathlib.Nat.{mod-add-div', add-mul-mod_self_right}
use borrow.Author.Differences.{up, down, ints}
use Rattle.ring.specs.Cyclic.{mod_z}
use Rattle.ring.specs.Congruence.{Congruent}

pub cong_same : {m : ℕ} {x y : ℤ} → x ≡ y → Congruent m x y
cong_same e = record { j = 0; k = 0; level = omega (arith, ints) }

pub cong_sym : {m : ℕ} {x y : ℤ} → Congruent m x y → Congruent m y x
cong_sym c = record { j = c.k; k = c.j; level = sym c.level }

pub cong_trans : {m : ℕ} {x y z : ℤ} → Congruent m x y → Congruent m y z → Congruent m x z
cong_trans c d = record { j = c.j + d.j; k = c.k + d.k; level = omega (arith, ints) }

pub cong_sub : {m : ℕ} {x x' y y' : ℤ} → Congruent m x x' → Congruent m y y' → Congruent m (x -ℤ y) (x' -ℤ y')
cong_sub c d = record { j = c.j + d.k; k = c.k + d.j; level = omega (arith, ints) }

pub cong_add : {m : ℕ} {x x' y y' : ℤ} → Congruent m x x' → Congruent m y y' → Congruent m (x +ℤ y) (x' +ℤ y')
cong_add c d = record { j = c.j + d.j; k = c.k + d.k; level = omega (arith, ints) }

-- a congruence between other names of the same numbers
pub cong_move : {m m' : ℕ} {x x' y y' : ℤ} → m ≡ m' → x ≡ x' → y ≡ y' → Congruent m' x' y' → Congruent m x y
cong_move {m} {m'} {x} {x'} {y} {y'} em ex ey g =
    subst (λ k. Congruent k x y) (sym em) (subst (λ z. Congruent m' z y) (sym ex) (subst (λ z. Congruent m' x' z) (sym ey) g))

sides : (m j k : ℕ) (x y : ℤ) → x +ℤ pos (j * m) ≡ y +ℤ pos (k * m) → up x + down y + j * m ≡ up y + down x + k * m
sides m j k x y e = omega (arith, ints)

scale_sides : (d m j k xu xd yu yd : ℕ) → xu + yd + j * m ≡ yu + xd + k * m → d * xu + d * yd + j * (d * m) ≡ d * yu + d * xd + k * (d * m)
scale_sides d m j k xu xd yu yd e = omega (arith, ap (λ n. d * n) e)

-- both sides and the modulus times d
pub cong_scale : (d : ℕ) {m : ℕ} {x y : ℤ} → Congruent m x y → Congruent (d * m) (pos d *ℤ x) (pos d *ℤ y)
cong_scale d {m} {x} {y} c = record {
  j = c.j;
  k = c.k;
  level = omega (arith, ints, scale_sides d m c.j c.k (up x) (down x) (up y) (down y) (sides m c.j c.k x y c.level));
}

-- modulo a multiple of m, and so modulo m
pub cong_part : (c m : ℕ) {x y : ℤ} → Congruent (c * m) x y → Congruent m x y
cong_part c m {x} {y} g = record { j = g.j * c; k = g.k * c; level = omega (arith, ints, sides (c * m) g.j g.k x y g.level) }

pub mod_z_lt : (m : ℕ) → 0 < m → (x : ℤ) → mod_z m x < m
mod_z_lt m h (pos a) = mod-lt a h
mod_z_lt m h (negsuc a) = omega (arith, mod-lt a h)

pub mod_z_cong : (m : ℕ) → 0 < m → (x : ℤ) → Congruent m (pos (mod_z m x)) x
mod_z_cong m h (pos a) = record { j = a / m; k = 0; level = omega (arith, ints, mod-add-div' a m) }
mod_z_cong m h (negsuc a) = record { j = 0; k = suc (a / m); level = omega (arith, ints, mod-add-div' a m, mod-lt a h) }

same_rest : (m a b j k : ℕ) → a < m → b < m → a + j * m ≡ b + k * m → a ≡ b
same_rest m a b j k ha hb e =
    sym (add-mul-mod_self_right a j m ∙ mod-eq_of_lt ha) ∙ ap (λ n. n % m) e ∙ (add-mul-mod_self_right b k m ∙ mod-eq_of_lt hb)

-- congruent numbers below m are equal
pub cong_below : {m a b : ℕ} → a < m → b < m → Congruent m (pos a) (pos b) → a ≡ b
cong_below {m} {a} {b} ha hb c = same_rest m a b c.j c.k ha hb (omega (arith, ints))

-- congruent numbers have the same remainder
pub mod_z_same : (m : ℕ) → 0 < m → {x y : ℤ} → Congruent m x y → mod_z m x ≡ mod_z m y
mod_z_same m h {x} {y} c =
    cong_below (mod_z_lt m h x) (mod_z_lt m h y) (cong_trans (mod_z_cong m h x) (cong_trans c (cong_sym (mod_z_cong m h y))))

-- the remainder of a difference, from the remainders, as words without signs compute it
pub mod_z_sub : (m : ℕ) → 0 < m → (x y : ℤ) → mod_z m (x -ℤ y) ≡ (mod_z m x + (m - mod_z m y)) % m
mod_z_sub m h x y =
    mod_z_same m h (cong_trans (cong_sub (cong_sym (mod_z_cong m h x)) (cong_sym (mod_z_cong m h y))) (above (mod_z m x) (mod_z m y) (mod_z_lt m h y)))
  where
    above : (a b : ℕ) → b < m → Congruent m (pos a -ℤ pos b) (pos (a + (m - b)))
    above a b lt = record { j = 1; k = 0; level = omega (arith, ints) }

-- a remainder modulo 2^w, cut to b bits
pub mod_z_cut : (w b : ℕ) → b ≤ w → (z : ℤ) → mod_z (2 ^ w) z % 2 ^ b ≡ mod_z (2 ^ b) z
mod_z_cut w b le z =
    let e : w - b + b ≡ w = omega arith in
    let w-is : 2 ^ (w - b) * 2 ^ b ≡ 2 ^ w = sym (pow-add 2 (w - b) b) ∙ ap (λ n. 2 ^ n) e in
    mod_z_same (2 ^ b) (pow_pos b) {x = pos (mod_z (2 ^ w) z)} (cong_part (2 ^ (w - b)) (2 ^ b) (subst (λ m. Congruent m (pos (mod_z (2 ^ w) z)) z) (sym w-is) (mod_z_cong (2 ^ w) (pow_pos w) z)))
