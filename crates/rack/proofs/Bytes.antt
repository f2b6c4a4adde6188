-- Comparing and choosing bytes without a branch.
use Rattle.std.proofs.Common.{◌≡◌, ℕ, ◌+◌, ◌*◌, ◌<◌, ◌≤◌, Bool, true, false, cond, ◌&&◌, eqb, List, [], ◌∷◌, length, get_or, sym, refl, ap, ◌∙◌, inl, inr, mod-eq_of_lt, arith}
use lib.Bits.{bit_and, bit_or, bit_xor, and_zero_l, and_comm, and_mask, and_le_r, or_zero_l, xor_zero_l, xor_zero_r, xor_self, xor_assoc, xor_lt, or_add_and}
use Rattle.std.specs.List.{fold, zip}
use Rattle.std.proofs.lemmas.List.{ext_get_or}
use Rattle.std.proofs.lemmas.Bool.{cases_eq, eq-eqb, ne_eqb}
use Rattle.std.proofs.lemmas.Nat.{mul-le}
use Rattle.params.specs.Limits.{most_n}
use Rattle.params.specs.Sizes.{bytes_for}
use Rattle.rack.specs.Calls.{same}

-- exclusive or is 0 exactly of equals
xor_test : (x y : ℕ) → eqb (bit_xor x y) 0 ≡ eqb x y
xor_test x y = elim (cases_eq x y) [
  | inl e ↦ eq-eqb (bit_xor x y) 0 (ap (bit_xor x) (sym e) ∙ xor_self x) ∙ sym (eq-eqb x y e)
  | inr ne ↦ ne_eqb (bit_xor x y) 0 (λ z. ne (sym (back z))) ∙ sym (ne_eqb x y ne)
]
  where
    back : bit_xor x y ≡ 0 → y ≡ x
    back z = sym (xor_zero_l y) ∙ ap (λ n. bit_xor n y) (sym (xor_self x)) ∙ xor_assoc x x y ∙ ap (bit_xor x) z ∙ xor_zero_r x

-- or is 0 exactly of two zeros
or_test : (a b : ℕ) → eqb (bit_or a b) 0 ≡ (eqb a 0 && eqb b 0)
or_test a b = elim (cases_eq a 0) [
  | inl z ↦ ap (λ n. eqb (bit_or n b) 0) z ∙ ap (λ n. eqb n 0) (or_zero_l b) ∙ sym (ap (λ t. t && eqb b 0) (eq-eqb a 0 z))
  | inr ne ↦ ne_eqb (bit_or a b) 0 (λ z. ne (omega (arith, or_add_and a b, and_le_r a b))) ∙ sym (ap (λ t. t && eqb b 0) (ne_eqb a 0 ne))
]

-- the mask lets the first byte through where it is clear, and the second where it is set
pub picked : (mask x y : ℕ) → x < 256 → y < 256 → (t : Bool) → mask ≡ cond t 0 255 → bit_xor x (bit_and mask (bit_xor x y)) ≡ cond t x y
picked mask x y hx hy true e = ap (λ m. bit_xor x (bit_and m (bit_xor x y))) e ∙ ap (bit_xor x) (and_zero_l (bit_xor x y)) ∙ xor_zero_r x
picked mask x y hx hy false e =
    let all : bit_and 255 (bit_xor x y) ≡ bit_xor x y = and_comm 255 (bit_xor x y) ∙ and_mask (bit_xor x y) 8 ∙ mod-eq_of_lt (xor_lt 8 x y hx hy) in
    ap (λ m. bit_xor x (bit_and m (bit_xor x y))) e ∙ ap (bit_xor x) all ∙ sym (xor_assoc x x y) ∙ ap (λ n. bit_xor n y) (xor_self x) ∙ xor_zero_l y

joined : (a b c : Bool) → ((a && b) && c) ≡ (a && (b && c))
joined true b c = refl
joined false b c = refl

and_true : (a : Bool) → a ≡ (a && true)
and_true true = refl
and_true false = refl

-- what all bytes differ in, taken together, is 0 exactly if the lists are the same
pub differs : (all : ℕ) (xs ys : List ℕ) → length xs ≡ length ys → eqb (fold (λ (a : ℕ) (p : ℕ × ℕ). bit_or a (bit_xor p.0 p.1)) all (zip xs ys)) 0 ≡ (eqb all 0 && same xs ys)
differs all [] [] e = and_true (eqb all 0)
differs all [] (y ∷ ys) e = absurd (omega arith)
differs all (x ∷ xs) [] e = absurd (omega arith)
differs all (x ∷ xs) (y ∷ ys) e =
    differs (bit_or all (bit_xor x y)) xs ys (omega arith)
    ∙ ap (λ t. t && same xs ys) (or_test all (bit_xor x y) ∙ ap (λ t. eqb all 0 && t) (xor_test x y))
    ∙ joined (eqb all 0) (eqb x y) (same xs ys)

-- a list whose elements are all of one list or all of the other
pub chosen_all : (t : Bool) (out xs ys : List ℕ) → length out ≡ length xs → length out ≡ length ys
    → ((k : ℕ) → k < length out → get_or out k 0 ≡ cond t (get_or xs k 0) (get_or ys k 0)) → out ≡ cond t xs ys
chosen_all true out xs ys ex ey each = ext_get_or 0 out xs ex each
chosen_all false out xs ys ex ey each = ext_get_or 0 out ys ey each

-- the bytes of n fields of w bits, and of those with m fields of v bits, fit the rooms that open has for a key and a parcel
pub key_room : (n w : ℕ) → n ≤ most_n → w ≤ 15 → 33 + bytes_for (n * w) ≤ 2283
key_room n w hn hw = omega (arith, mul-le n w most_n 15 hn hw)

pub parcel_room : (n w m v : ℕ) → n ≤ most_n → w ≤ 15 → m ≤ most_n → v ≤ 14 → 33 + bytes_for (n * w + m * v) ≤ 4383
parcel_room n w m v hn hw hm hv = omega (arith, mul-le n w most_n 15 hn hw, mul-le m v most_n 14 hm hv)
