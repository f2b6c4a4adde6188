-- Numbers by their bits, and bytes of a message.
use Rattle.std.proofs.Common.{◌≡◌, ℕ, zero, suc, ◌+◌, ◌-◌, ◌*◌, ◌/◌, ◌%◌, ◌^◌, ◌<◌, List, length, get_or, sym, refl, ap, ◌∙◌, ap₂, add-one, arith, pow-add}
use Rattle.std.proofs.lemmas.Nat.{shr-shr}
use Rattle.code.specs.Words.{Bytes, message_bit}
use Rattle.code.specs.Correcting.{number, byte_of}

pub number_none : (F : ℕ → ℕ) → number 0 F ≡ 0
unfolding number
number_none F = refl

pub number_more : (n : ℕ) (F : ℕ → ℕ) → number (n + 1) F ≡ number n F * 2 + F n
unfolding number
number_more n F = ap (λ k. number k F) (add-one n)

pub number_same : (n : ℕ) (F G : ℕ → ℕ) → ((q : ℕ) → q < n → F q ≡ G q) → number n F ≡ number n G
unfolding number
number_same zero F G h = refl
number_same (suc n) F G h = ap₂ (λ x y. x * 2 + y) (number_same n F G (λ q lt. h q (omega arith))) (h n (omega arith))

-- a number is that of its bits
number_bits : (n x : ℕ) → x < 2 ^ n → number n (λ q. x / 2 ^ (n - 1 - q) % 2) ≡ x
unfolding number
number_bits zero x h = omega arith
number_bits (suc n) x h =
    let split : 2 ^ (n + 1) ≡ 2 ^ n * 2 = pow-add 2 n 1 in
    let half : number n (λ q. x / 2 / 2 ^ (n - 1 - q) % 2) ≡ x / 2 = number_bits n (x / 2) (omega (arith, ap (λ k. 2 ^ k) (add-one n))) in
    let shifted : number n (λ q. x / 2 ^ (suc n - 1 - q) % 2) ≡ number n (λ q. x / 2 / 2 ^ (n - 1 - q) % 2) =
    number_same n _ _ (λ q lt. let e : suc n - 1 - q ≡ 1 + (n - 1 - q) = omega arith in ap (λ k. x / 2 ^ k % 2) e ∙ ap (λ y. y % 2) (sym (shr-shr x 1 (n - 1 - q)))) in
    let low : suc n - 1 - n ≡ 0 = omega arith in
    omega (arith, shifted, half, ap (λ k. x / 2 ^ k % 2) low)

-- a byte of a message is that of its bits
pub byte_of_message : (m : List ℕ) → Bytes m → (i : ℕ) → i < length m → byte_of (message_bit m) i ≡ get_or m i 0
byte_of_message m bytes i h =
    number_same 8 _ _ (λ q lt.
    let at : (8 * i + q) / 8 ≡ i = omega arith in
    let of : (8 * i + q) % 8 ≡ q = omega arith in
    ap₂ (λ x y. get_or m x 0 / 2 ^ (7 - y) % 2) at of)
    ∙ number_bits 8 (get_or m i 0) (bytes i h)
