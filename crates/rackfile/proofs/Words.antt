-- Words as bytes, as the crate that reads and writes them says it.
use Rattle.std.proofs.Common.{◌≡◌, ℕ, suc, ◌+◌, ◌*◌, ◌/◌, ◌%◌, ◌<◌, List, [], ◌∷◌, length, get_or, drop, refl, ap, ◌∙◌, ap₂, arith}
use Rattle.std.specs.List.{flat_map}
use Rattle.byteorder.specs.Endian.{big_bytes, big_number, IsRead}
use Rattle.rackfile.specs.Words.{word_bytes, words_from}

-- the bytes of words that fit 16 bits
pub words_written : (ws : List ℕ) → ((k : ℕ) → get_or ws k 0 < 65536) → flat_map (big_bytes 2) ws ≡ word_bytes ws
words_written [] h = refl
words_written (w ∷ ws) h =
    let high : w / 256 % 256 ≡ w / 256 = omega (arith, h 0) in
    ap₂ (λ (a : ℕ) (xs : List ℕ). a ∷ w % 256 ∷ xs) high (words_written ws (λ k. h (suc k)))

-- the words that are read from bytes, two for each
pub words_read : (ws bs : List ℕ) → length bs ≡ 2 * length ws → IsRead big_number 2 bs ws → ws ≡ words_from bs
words_read [] [] n h = refl
words_read [] (x ∷ bs) n h = absurd (omega arith)
words_read (w ∷ ws) [] n h = absurd (omega arith)
words_read (w ∷ ws) (x ∷ []) n h = absurd (omega arith)
words_read (w ∷ ws) (x ∷ y ∷ bs) n h =
    let first : w ≡ x * 256 + y = omega (arith, h 0 (omega arith)) in
    ap₂ (λ (v : ℕ) (vs : List ℕ). v ∷ vs) first (words_read ws bs (omega arith) (λ k lt.
    let m : 2 * suc k ≡ suc (suc (2 * k)) = omega arith in
    h (suc k) (omega arith) ∙ ap (λ j. big_number 2 (drop j (x ∷ y ∷ bs))) m))
