-- The output, one run after the other.
use Rattle.std.proofs.Common.{◌≡◌, ℕ, zero, suc, ◌+◌, ◌/◌, ◌%◌, ◌<◌, ◌≤◌, List, ◌∷◌, ◌++◌, map, length, get_or, take, drop, sym, refl, ap, ◌∙◌, add-zero, suc-add, zero-add, arith, length-drop, length-take}
use Rattle.std.specs.List.{range_with_len}
use Rattle.std.proofs.lemmas.List.FromFn.{length-map-range_with_len, get_or-map-range_with_len, take-map-range_with_len, fill_by_all}
use Rattle.std.proofs.lemmas.List.{ext_get_or, drop_at, get_or-take, get_or-drop}
use Rattle.shake.specs.Shake.{rate, permuted, permuted_by, output_byte, output}

pub length_output : (s : List ℕ) (p n : ℕ) → length (output s p n) ≡ n
unfolding output
length_output s p n = length-map-range_with_len (output_byte s) p n

pub take_output : (s : List ℕ) (p n k : ℕ) → n ≤ k → take n (output s p k) ≡ output s p n
unfolding output
take_output s p n k h = take-map-range_with_len (output_byte s) p k n h

byte_of : (s : List ℕ) (p n i j : ℕ) → i < n → p + i ≡ j → get_or (output s p n) i 0 ≡ output_byte s j
unfolding output
byte_of s p n i j h e = get_or-map-range_with_len (output_byte s) p n i j 0 h e

counting_split : (f : ℕ → ℕ) (n p k : ℕ) → map f (range_with_len p (n + k)) ≡ map f (range_with_len p n) ++ map f (range_with_len (p + n) k)
counting_split f zero p k = rw (zero-add, add-zero)
counting_split f (suc n) p k =
    let e : p + 1 + n ≡ p + suc n = omega arith in
    rw suc-add (ap (λ (t : List ℕ). f p ∷ t) (counting_split f n (p + 1) k ∙ ap (λ (i : ℕ). map f (range_with_len (p + 1) n) ++ map f (range_with_len i k)) e))

-- after n bytes
pub drop_output : (s : List ℕ) (p n k : ℕ) → output s (p + n) k ≡ drop n (output s p (n + k))
unfolding output
drop_output s p n k =
    let f = output_byte s in
    sym
    (ap (drop n) (counting_split f n p k)
    ∙ drop_at (map f (range_with_len p n)) (map f (range_with_len (p + n) k)) n (length-map-range_with_len f p n))

-- within a block
pub in_block : (s : List ℕ) (p k : ℕ) → p + k ≤ rate → rate ≤ length s → take k (drop p s) ≡ output s p k
unfolding output_byte permuted_by
in_block s p k h l =
    ext_get_or 0 _ _ (simp (length-take, length-drop, length_output) (omega arith))
    (λ i b.
    let w : i < k = omega (arith, simp (length-take, length-drop) at b) in
    let q : 0 ≡ (p + i) / rate = omega arith in
    let r : p + i ≡ (p + i) % rate = omega arith in
    get_or-take k (drop p s) i 0 w ∙ get_or-drop p s i 0
    ∙ ap (λ (j : ℕ). get_or s j 0) r
    ∙ ap (λ (n : ℕ). get_or (permuted_by n s) ((p + i) % rate) 0) q
    ∙ sym (byte_of s p k i (p + i) w refl))

permuted_by_lem : (n : ℕ) (s : List ℕ) → permuted_by n (permuted s) ≡ permuted (permuted_by n s)
unfolding permuted_by
permuted_by_lem zero s = refl
permuted_by_lem (suc n) s = ap permuted (permuted_by_lem n s)

next_byte : (s : List ℕ) (i : ℕ) → output_byte s (rate + i) ≡ output_byte (permuted s) i
unfolding output_byte permuted_by
next_byte s i =
    let q : (rate + i) / rate ≡ suc (i / rate) = omega arith in
    let r : (rate + i) % rate ≡ i % rate = omega arith in
    ap (λ (n : ℕ). get_or (permuted_by n s) ((rate + i) % rate) 0) q
    ∙ ap (λ (j : ℕ). get_or (permuted (permuted_by (i / rate) s)) j 0) r
    ∙ ap (λ (t : List ℕ). get_or t (i % rate) 0) (sym (permuted_by_lem (i / rate) s))

-- at the end of a block
pub next_block : (s : List ℕ) (k : ℕ) → output (permuted s) 0 k ≡ output s rate k
unfolding output
next_block s k =
    sym (fill_by_all (output_byte (permuted s)) (output s rate k) k 0 (length_output s rate k) (λ i h. byte_of s rate k i (rate + i) h refl ∙ next_byte s i))
