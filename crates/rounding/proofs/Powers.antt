-- Powers of two, and remainders by them.
use Rattle.std.proofs.Common.{◌≡◌, ℕ, suc, ◌+◌, ◌-◌, ◌*◌, ◌/◌, ◌%◌, ◌^◌, ◌<◌, ◌≤◌, sym, ap, ◌∙◌, arith, pow-add, pow_mono}
use native.Mathlib.Nat.{mod-add-mod}
use lib.Pow.{mod-mod-pow}
use Rattle.std.proofs.lemmas.Nat.{one_shl, shl-shr, shr-shr, field_of}

-- 2^b is 2^(b - a) times 2^a
pub split : (a b : ℕ) → a ≤ b → 2 ^ b ≡ 2 ^ (b - a) * 2 ^ a
split a b le =
    let e : b ≡ b - a + a = omega arith in
    ap (λ n. 2 ^ n) e ∙ pow-add 2 (b - a) a

pub over : (a b : ℕ) → a ≤ b → 2 ^ b / 2 ^ a ≡ 2 ^ (b - a)
over a b le = ap (λ n. n / 2 ^ a) (split a b le) ∙ shl-shr (2 ^ (b - a)) a

pub over_twice : (a b : ℕ) → a < b → 2 ^ b / (2 * 2 ^ a) ≡ 2 ^ (b - a - 1)
over_twice a b lt =
    let e : 2 * 2 ^ a ≡ 2 ^ suc a = omega arith in
    let f : b - suc a ≡ b - a - 1 = omega arith in
    ap (λ n. 2 ^ b / n) e ∙ over (suc a) b lt ∙ ap (λ n. 2 ^ n) f

pub half_pow : (b : ℕ) → 1 ≤ b → 2 ^ b / 2 ≡ 2 ^ (b - 1)
half_pow b le = over 1 b le

pub quarter_pow : (b : ℕ) → 2 ≤ b → 2 ^ b / 4 ≡ 2 ^ (b - 2)
quarter_pow b le = over 2 b le

pub twice_pow : (b : ℕ) → 1 ≤ b → 2 ^ b ≡ 2 * 2 ^ (b - 1)
twice_pow b le =
    let e : b ≡ suc (b - 1) = omega arith in
    let f : 2 ^ suc (b - 1) ≡ 2 * 2 ^ (b - 1) = omega arith in
    ap (λ n. 2 ^ n) e ∙ f

pub mod_mod : (y j k : ℕ) → k ≤ j → y % 2 ^ j % 2 ^ k ≡ y % 2 ^ k
mod_mod y j k le =
    let e : j ≡ j - k + k = omega arith in
    ap (λ n. y % 2 ^ n % 2 ^ k) e ∙ mod-mod-pow y (j - k) k

scaled : (s k n : ℕ) → k ≤ n → s / 2 ^ (n - k) ≡ s * 2 ^ k / 2 ^ n
scaled s k n le =
    let e : k + (n - k) ≡ n = omega arith in
    let a : s * 2 ^ k / 2 ^ k ≡ s = shl-shr s k in
    let b : s * 2 ^ k / 2 ^ k / 2 ^ (n - k) ≡ s * 2 ^ k / 2 ^ (k + (n - k)) = shr-shr (s * 2 ^ k) k (n - k) in
    cc

low_bits : (s d k w : ℕ) → d + k ≤ w → (s % 2 ^ w) / 2 ^ d % 2 ^ k ≡ s / 2 ^ d % 2 ^ k
low_bits s d k w le =
    let j : ℕ = w - d in
    let e : j + d ≡ w = omega arith in
    let i : ℕ = j - k in
    let f : i + k ≡ j = omega arith in
    let a : s % 2 ^ (j + d) / 2 ^ d ≡ s / 2 ^ d % 2 ^ j = field_of s j d in
    let b : s / 2 ^ d % 2 ^ (i + k) % 2 ^ k ≡ s / 2 ^ d % 2 ^ k = mod-mod-pow (s / 2 ^ d) i k in
    cc

-- a word cut to its upper k of n bits is the cut of its residue modulo 2^n
pub cut_is : (x h k n : ℕ) → k ≤ n → n ≤ 16 → (x + h) % 2 ^ 16 / 2 ^ (n - k) % 2 ^ k ≡ (x % 2 ^ n + h) * 2 ^ k / 2 ^ n % 2 ^ k
cut_is x h k n le top =
    let d : ℕ = n - k in
    let a : (x + h) % 2 ^ 16 / 2 ^ d % 2 ^ k ≡ (x + h) / 2 ^ d % 2 ^ k = low_bits (x + h) d k 16 (omega arith) in
    let b : (x + h) % 2 ^ n / 2 ^ d % 2 ^ k ≡ (x + h) / 2 ^ d % 2 ^ k = low_bits (x + h) d k n (omega arith) in
    let e : (x % 2 ^ n + h) % 2 ^ n / 2 ^ d % 2 ^ k ≡ (x % 2 ^ n + h) / 2 ^ d % 2 ^ k = low_bits (x % 2 ^ n + h) d k n (omega arith) in
    let f : (x % 2 ^ n + h) % 2 ^ n ≡ (x + h) % 2 ^ n = mod-add-mod x (2 ^ n) h in
    let g : (x % 2 ^ n + h) / 2 ^ d ≡ (x % 2 ^ n + h) * 2 ^ k / 2 ^ n = scaled (x % 2 ^ n + h) k n le in
    a ∙ sym b ∙ ap (λ m. m / 2 ^ d % 2 ^ k) (sym f) ∙ e ∙ ap (λ m. m % 2 ^ k) g

-- the low bits, which that cut leaves out
pub rest_is : (x h d n : ℕ) → d ≤ n → n ≤ 16 → (x + h) % 2 ^ 16 % 2 ^ d ≡ (x % 2 ^ n + h) % 2 ^ d
rest_is x h d n le top =
    mod_mod (x + h) 16 d (omega arith)
    ∙ sym (mod-add-mod x (2 ^ d) h)
    ∙ ap (λ m. (m + h) % 2 ^ d) (sym (mod_mod x n d le))
    ∙ mod-add-mod (x % 2 ^ n) (2 ^ d) h

-- what shifts of 1 are
pub ruleset shifts = (one_shl, pow_mono, over_twice, quarter_pow)
