-- The laws of what a word corrects to, and that at most f flips are mended.
use Rattle.std.proofs.Common.{◌≡◌, ℕ, ◌+◌, ◌*◌, ◌/◌, ◌<◌, List, length, get_or, sym, ◌∙◌, arith}
use Rattle.std.proofs.lemmas.List.FromFn.{length-map-range_with_len, get_or-map-range_with_len}
use Rattle.std.proofs.lemmas.List.{ext_get_or}
use Rattle.params.specs.declared.shape.Shape.{Shape}
use Rattle.params.specs.declared.code.Code.{Code}
use Rattle.code.specs.Words.{Bits, message_bit, code_word}
use Rattle.code.specs.Correcting.{corrected_bit, byte_of, corrected_message, Mends}
use Rattle.code.proofs.Words.{code_word_length, code_word_payload, code_word_checked, code_word_bits}
use Rattle.code.proofs.Majority.{outvoted}
use Rattle.code.proofs.Numbers.{number_same, byte_of_message}

-- a corrected message has κ/8 bytes
pub corrected_length : (s : Shape) (v : List ℕ) → length (corrected_message s v) ≡ s.kappa / 8
unfolding corrected_message
corrected_length s v = length-map-range_with_len (byte_of (corrected_bit s v)) 0 (s.kappa / 8)

-- each is made of corrected bits
pub corrected_at : (s : Shape) (v : List ℕ) (i : ℕ) → i < s.kappa / 8 → get_or (corrected_message s v) i 0 ≡ byte_of (corrected_bit s v) i
unfolding corrected_message
corrected_at s v i h = get_or-map-range_with_len (byte_of (corrected_bit s v)) 0 (s.kappa / 8) i i 0 h (omega arith)

-- and it is the only such list
pub corrected_only : (s : Shape) (v m : List ℕ) → length m ≡ s.kappa / 8 → ((i : ℕ) → i < s.kappa / 8 → get_or m i 0 ≡ byte_of (corrected_bit s v) i) → m ≡ corrected_message s v
corrected_only s v m long all = ext_get_or 0 m (corrected_message s v) (long ∙ sym (corrected_length s v)) (λ i h. all i (omega arith) ∙ sym (corrected_at s v i (omega arith)))

-- every pattern of at most f flips is mended
pub mends : (c : Code) (v : List ℕ) → length v ≡ c.mu → Bits v → Mends c.shape v (corrected_message c.shape v)
mends c v long bits m long-m bytes few =
    let s = c.shape in
    let w = code_word s m in
    let same : (k : ℕ) → k < s.kappa → message_bit m k ≡ corrected_bit s v k = λ k h.
    sym (code_word_payload s m k h) ∙ sym (outvoted c w v (code_word_length s m ∙ sym c.count) long (code_word_bits s m) bits (code_word_checked s m) k h few) in
    sym (corrected_only s v m long-m (λ i h.
    sym (byte_of_message m bytes i (omega arith)) ∙ number_same 8 _ _ (λ q lt. same (8 * i + q) (omega arith))))
