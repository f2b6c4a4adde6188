-- Shifts, masks and words that wrap are the quotients and remainders of the definitions.
use Rattle.std.proofs.Common.{◌≡◌, ℕ, ◌+◌, ◌-◌, ◌*◌, ◌/◌, ◌%◌, ◌^◌, ◌<◌, ◌≤◌, cond, ltb, leb, ℤ, pos, negsuc, ◌+ℤ◌, ◌-ℤ◌, nat_abs, sym, refl, ap, ◌∙◌, subst, ap₂, mod-lt, mul_comm, arith, pow_pos, pow_mono, w32, SFits, to_z, of_z}
use native.Mathlib.Nat.{mod-add-mod, add-mod-mod, div-eq_of_lt, div-lt_iff_lt-mul}
use lib.Bits.{bit_and}
use lib.Signed.{lt_z}
use borrow.Author.Differences.{ints}
use Rattle.std.proofs.lemmas.Int.{to_z_pos}
use Rattle.std.proofs.lemmas.Nat.{one_shl, and_mask, div-mul-add, shl_whole, shl_below}
use Rattle.std.proofs.lemmas.Grind.{common_steps}
use Rattle.params.specs.Sizes.{q, p, t}
use Rattle.params.specs.declared.moduli.Moduli.{Moduli}
use Rattle.ring.specs.Words.{add16, sub16}
use Rattle.ring.specs.Cyclic.{mod_z}
use Rattle.ring.specs.Congruence.{Congruent}
use Rattle.ring.proofs.Congruences.{cong_same, cong_sym, cong_trans, cong_sub, cong_add, cong_part, mod_z_lt, mod_z_cong, mod_z_same}
use Rattle.rounding.specs.Rounding.{h1, h2, symbol, raw_bit, slip, noise, in_band}
use Rattle.rounding.proofs.Powers.{split, over, over_twice, half_pow, quarter_pow, twice_pow, mod_mod, cut_is, rest_is}

-- ---- symbols
-- two words added, cut to k bits
sum_is : (a u A k : ℕ) → k ≤ 16 → a % 2 ^ k ≡ A % 2 ^ k → (a + u % 2 ^ 16) % 2 ^ 16 % 2 ^ k ≡ (A + u) % 2 ^ k
sum_is a u A k le e =
    mod_mod (a + u % 2 ^ 16) 16 k le
    ∙ sym (add-mod-mod a (u % 2 ^ 16) (2 ^ k))
    ∙ ap (λ m. (a + m) % 2 ^ k) (mod_mod u 16 k le)
    ∙ add-mod-mod a u (2 ^ k)
    ∙ sym (mod-add-mod a (2 ^ k) u)
    ∙ ap (λ m. (m + u) % 2 ^ k) e
    ∙ mod-add-mod A (2 ^ k) u

pub symbol_is : (M : Moduli) (x bit : ℕ)
    → ((x + h1 M) % 2 ^ 16 / 2 ^ (M.pb - M.tb) + bit * 2 ^ (M.tb - 1) % 2 ^ 16) % 2 ^ 16 % t M ≡ symbol M (x % p M) bit
unfolding symbol
symbol_is M x bit =
    let u : bit * 2 ^ (M.tb - 1) ≡ t M / 2 * bit = mul_comm bit (2 ^ (M.tb - 1)) ∙ ap (λ n. n * bit) (sym (half_pow M.tb M.some)) in
    let cut : ℕ = (x + h1 M) % 2 ^ 16 / 2 ^ (M.pb - M.tb) in
    ap (λ n. (cut + n % 2 ^ 16) % 2 ^ 16 % t M) u
    ∙ sum_is cut (t M / 2 * bit) ((x % p M + h1 M) * t M / p M) M.tb (omega arith) (cut_is x (h1 M) M.tb M.pb (omega arith) (omega arith))

-- ---- raw bits
-- the highest bit
top_bit : (y half : ℕ) → 0 < half → y < 2 * half → y / half ≡ cond (leb half y) 1 0
top_bit y half some lt = grind (arith, common_steps, div-eq_of_lt, div-mul-add)

-- the highest of b low bits, whatever the number
pub top_low : (n b mask : ℕ) → 1 ≤ b → mask ≡ 2 ^ b - 1 → bit_and n mask / 2 ^ (b - 1) < 2
top_low n b mask le em =
    let is : bit_and n mask ≡ n % 2 ^ b = ap (bit_and n) em ∙ and_mask n b in
    (div-lt_iff_lt-mul {x = bit_and n mask} {y = 2} (pow_pos (b - 1))).1 (omega (arith, is, mod-lt n (pow_pos b), twice_pow b le))

-- what is congruent modulo 2^w is so modulo a lower power
cong_low : (w b : ℕ) {x y : ℤ} → b ≤ w → Congruent (2 ^ w) x y → Congruent (2 ^ b) x y
cong_low w b {x} {y} le c = cong_part (2 ^ (w - b)) (2 ^ b) (subst (λ m. Congruent m x y) (split b w le) c)

-- a number and its remainder modulo 2^w are congruent modulo a lower power
low_cong : (w b x : ℕ) → b ≤ w → Congruent (2 ^ b) (pos (x % 2 ^ w)) (pos x)
low_cong w b x le = cong_low w b le (mod_z_cong (2 ^ w) (pow_pos w) (pos x))

-- x subtracted from a, where words wrap
less_cong : (w b a x : ℕ) → b ≤ w → x < 2 ^ w → Congruent (2 ^ b) (pos ((a + (2 ^ w - x)) % 2 ^ w)) (pos a -ℤ pos x)
less_cong w b a x le lt =
    let wraps : Congruent (2 ^ w) (pos (a + (2 ^ w - x))) (pos a -ℤ pos x) = record { j = 0; k = 1; level = omega (arith, ints) } in
    cong_trans (low_cong w b (a + (2 ^ w - x)) le) (cong_low w b le wraps)

raw_word : (b v x c : ℕ) → b ≤ 16 → x < 2 ^ 16
    → add16 (sub16 (v % 2 ^ 16) x) c % 2 ^ b ≡ mod_z (2 ^ b) (pos v -ℤ pos (x % 2 ^ b) +ℤ pos c)
raw_word b v x c le lt =
    mod_z_same (2 ^ b) (pow_pos b) {x = pos (add16 (sub16 (v % 2 ^ 16) x) c)}
    (cong_trans (low_cong 16 b (sub16 (v % 2 ^ 16) x + c) le)
    (cong_add
    (cong_trans (less_cong 16 b (v % 2 ^ 16) x le lt) (cong_sub (low_cong 16 b v le) (cong_sym (low_cong b b x (omega arith)))))
    (cong_same {x = pos c} refl)))

pub raw_is : (M : Moduli) (v x : ℕ) → x < 2 ^ 16
    → add16 (sub16 (v * 2 ^ (M.pb - M.tb) % 2 ^ 16) x) (h2 M) % p M / 2 ^ (M.pb - 1) ≡ raw_bit M v (x % p M)
unfolding raw_bit
raw_is M v x lt =
    let bit : ℕ → ℕ → ℕ = λ half y. cond (leb half y) 1 0 in
    let Y = mod_z (p M) (pos (p M / t M * v) -ℤ pos (x % p M) +ℤ pos (h2 M)) in
    let times : v * 2 ^ (M.pb - M.tb) ≡ p M / t M * v = mul_comm v (2 ^ (M.pb - M.tb)) ∙ ap (λ n. n * v) (sym (over M.tb M.pb (omega arith))) in
    let small : Y < 2 * 2 ^ (M.pb - 1) = subst (λ n. Y < n) (twice_pow M.pb (omega arith)) (mod_z_lt (p M) (pow_pos M.pb) (pos (p M / t M * v) -ℤ pos (x % p M) +ℤ pos (h2 M))) in
    ap (λ n. n / 2 ^ (M.pb - 1)) (raw_word M.pb (v * 2 ^ (M.pb - M.tb)) x (h2 M) (omega arith) lt ∙ ap (λ n. mod_z (p M) (pos n -ℤ pos (x % p M) +ℤ pos (h2 M))) times)
    ∙ top_bit Y (2 ^ (M.pb - 1)) (pow_pos (M.pb - 1)) small
    ∙ ap (λ n. bit n Y) (sym (half_pow M.pb (omega arith)))

-- ---- slips
pub slip_is : (M : Moduli) (x h r : ℕ) → h ≡ h1 M → r ≡ (x + h) % 2 ^ 16 % 2 ^ (M.qb - M.pb) → h < 2 ^ 16 → r < 2 ^ 16
    → to_z w32 (of_z w32 (to_z w32 h -ℤ to_z w32 r)) ≡ slip M (x % q M)
unfolding slip
slip_is M x h r eh er lh lr =
    let rest = rest_is x (h1 M) (M.qb - M.pb) M.qb (omega arith) (omega arith) in
    let step = over M.pb M.qb (omega arith) in
    let form : to_z w32 (of_z w32 (to_z w32 h -ℤ to_z w32 r)) ≡ pos h -ℤ pos r = omega (arith, ints) in
    cc

-- ---- noise
middle_lt : (M : Moduli) → (1 * 2 ^ (M.qb - M.tb - 1)) % 2 ^ 32 < 2 ^ 16
middle_lt M =
    let e : (1 * 2 ^ (M.qb - M.tb - 1)) % 2 ^ 32 ≡ 2 ^ (M.qb - M.tb - 1) = one_shl (M.qb - M.tb - 1) 32 (omega arith) in
    let le : 2 ^ (M.qb - M.tb - 1) ≤ 2 ^ 14 = pow_mono {i = M.qb - M.tb - 1} {j = 14} (omega arith) in
    omega arith

-- the low bits of x + h, scaled by q/p
module _ (M : Moduli) (x h rest : ℕ) (eh : h ≡ h1 M) (is : rest ≡ (x + h) % 2 ^ 16 % 2 ^ (M.pb - M.tb)) where
  rest_small : rest < 2 ^ (M.pb - M.tb)
  rest_small = subst (λ n. n < 2 ^ (M.pb - M.tb)) (sym is) (mod-lt ((x + h) % 2 ^ 16) (pow_pos (M.pb - M.tb)))

  cut_whole : rest * 2 ^ (M.qb - M.pb) % 2 ^ 32 ≡ rest * 2 ^ (M.qb - M.pb)
  cut_whole = shl_whole rest (M.pb - M.tb) (M.qb - M.pb) 32 rest_small (omega arith)

  cut_lt : rest * 2 ^ (M.qb - M.pb) % 2 ^ 32 < 2 ^ 16
  cut_lt =
      let below = shl_below rest (M.pb - M.tb) (M.qb - M.pb) rest_small in
      let le : 2 ^ (M.pb - M.tb + (M.qb - M.pb)) ≤ 2 ^ 16 = pow_mono {i = M.pb - M.tb + (M.qb - M.pb)} {j = 16} (omega arith) in
      omega (arith, cut_whole)

  cut_value : rest * 2 ^ (M.qb - M.pb) % 2 ^ 32 ≡ q M / p M * ((x % p M + h1 M) % (p M / t M))
  cut_value =
      let low = rest_is x (h1 M) (M.pb - M.tb) M.pb (omega arith) (omega arith) in
      let width = over M.tb M.pb (omega arith) in
      let step = over M.pb M.qb (omega arith) in
      cut_whole ∙ mul_comm rest (2 ^ (M.qb - M.pb)) ∙ (cc)

  module _ (e f : ℤ) (le : nat_abs e ≤ 2 ^ 28) (lf : nat_abs f ≤ 2 ^ 28) where
    pub noise_sum_fits : SFits w32 (to_z w32 (of_z w32 (to_z w32 (of_z w32 (to_z w32 (of_z w32 e) -ℤ to_z w32 (of_z w32 f))) +ℤ to_z w32 ((1 * 2 ^ (M.qb - M.tb - 1)) % 2 ^ 32))) -ℤ to_z w32 (rest * 2 ^ (M.qb - M.pb) % 2 ^ 32))
    noise_sum_fits = let m = middle_lt M in let k = cut_lt in omega (arith, ints)

    pub noise_is : to_z w32 (of_z w32 (to_z w32 (of_z w32 (to_z w32 (of_z w32 (to_z w32 (of_z w32 e) -ℤ to_z w32 (of_z w32 f))) +ℤ to_z w32 ((1 * 2 ^ (M.qb - M.tb - 1)) % 2 ^ 32))) -ℤ to_z w32 (rest * 2 ^ (M.qb - M.pb) % 2 ^ 32)))
        ≡ noise M (e -ℤ f) (x % p M)
    unfolding noise
    noise_is =
        let middle : (1 * 2 ^ (M.qb - M.tb - 1)) % 2 ^ 32 ≡ q M / (2 * t M) = one_shl (M.qb - M.tb - 1) 32 (omega arith) ∙ sym (over_twice M.tb M.qb (omega arith)) in
        let m = middle_lt M in
        let k = cut_lt in
        let form : to_z w32 (of_z w32 (to_z w32 (of_z w32 (to_z w32 (of_z w32 (to_z w32 (of_z w32 e) -ℤ to_z w32 (of_z w32 f))) +ℤ to_z w32 ((1 * 2 ^ (M.qb - M.tb - 1)) % 2 ^ 32))) -ℤ to_z w32 (rest * 2 ^ (M.qb - M.pb) % 2 ^ 32)))
        ≡ (e -ℤ f) +ℤ pos ((1 * 2 ^ (M.qb - M.tb - 1)) % 2 ^ 32) -ℤ pos (rest * 2 ^ (M.qb - M.pb) % 2 ^ 32) = omega (arith, ints) in
        form ∙ ap₂ (λ n m. (e -ℤ f) +ℤ pos n -ℤ pos m) middle cut_value

-- ---- the band
-- the bits of a signed number are congruent to it
bits_cong : (z : ℤ) → SFits w32 z → Congruent (2 ^ 32) (pos (of_z w32 z)) z
bits_cong (pos n) f = cong_same refl
bits_cong (negsuc n) f = record { j = 0; k = 1; level = omega (arith, ints) }

sum_cong : (b : ℕ) → b ≤ 32 → (w : ℤ) → SFits w32 w → (c : ℕ) → (of_z w32 w + c) % 2 ^ 32 % 2 ^ b ≡ mod_z (2 ^ b) (w +ℤ pos c)
sum_cong b le w f c =
    mod_z_same (2 ^ b) (pow_pos b) {x = pos ((of_z w32 w + c) % 2 ^ 32)}
    (cong_trans (low_cong 32 b (of_z w32 w + c) le) (cong_add (cong_low 32 b le (bits_cong w f)) (cong_same {x = pos c} refl)))

mask_form : (n : ℕ) → 0 < n → n ≤ 2 ^ 16 → of_z w32 (to_z w32 n -ℤ pos 1) ≡ n - 1
mask_form n some le = omega (arith, ints)

less_test : (a b : ℕ) → a < 2 ^ 31 → b < 2 ^ 31 → lt_z (to_z w32 a) (to_z w32 b) ≡ ltb a b
less_test a b la lb = ap₂ lt_z (to_z_pos w32 a la) (to_z_pos w32 b lb)

pub band_is : (M : Moduli) (w : ℤ) → SFits w32 w
    → lt_z (to_z w32 (bit_and ((of_z w32 w + (1 * 2 ^ (M.qb - 2)) % 2 ^ 32) % 2 ^ 32) (of_z w32 (to_z w32 ((1 * 2 ^ M.qb) % 2 ^ 32) -ℤ pos 1)))) (to_z w32 ((1 * 2 ^ (M.qb - 1)) % 2 ^ 32))
    ≡ in_band M w
unfolding in_band
band_is M w f =
    let top : q M ≤ 2 ^ 16 = pow_mono {i = M.qb} {j = 16} (omega arith) in
    let c-is : (1 * 2 ^ (M.qb - 2)) % 2 ^ 32 ≡ q M / 4 = one_shl (M.qb - 2) 32 (omega arith) ∙ sym (quarter_pow M.qb (omega arith)) in
    let h-is : (1 * 2 ^ (M.qb - 1)) % 2 ^ 32 ≡ q M / 2 = one_shl (M.qb - 1) 32 (omega arith) ∙ sym (half_pow M.qb (omega arith)) in
    let m-is : of_z w32 (to_z w32 ((1 * 2 ^ M.qb) % 2 ^ 32) -ℤ pos 1) ≡ q M - 1 = ap (λ n. of_z w32 (to_z w32 n -ℤ pos 1)) (one_shl M.qb 32 (omega arith)) ∙ mask_form (q M) (pow_pos M.qb) top in
    let r-is : bit_and ((of_z w32 w + q M / 4) % 2 ^ 32) (q M - 1) ≡ mod_z (q M) (w +ℤ pos (q M / 4)) = and_mask ((of_z w32 w + q M / 4) % 2 ^ 32) M.qb ∙ sum_cong M.qb (omega arith) w f (q M / 4) in
    let r-lt : mod_z (q M) (w +ℤ pos (q M / 4)) < q M = mod_z_lt (q M) (pow_pos M.qb) (w +ℤ pos (q M / 4)) in
    ap₂ (λ a b. lt_z (to_z w32 a) (to_z w32 b)) (ap₂ (λ c m. bit_and ((of_z w32 w + c) % 2 ^ 32) m) c-is m-is ∙ r-is) h-is
    ∙ less_test (mod_z (q M) (w +ℤ pos (q M / 4))) (q M / 2) (omega arith) (omega arith)
