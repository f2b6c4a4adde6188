-- What adding a payload to its checks makes of the check bits of a word.
use Rattle.std.proofs.Common.{◌≡◌, ℕ, ◌+◌, ◌-◌, ◌*◌, ◌<◌, cond, leb, List, ◌++◌, length, get_or, ◌∙◌, ap₂, arith}
use Rattle.std.proofs.lemmas.List.{get_or_append_left, get_or-append-add}
use Rattle.params.specs.Checks.{check_start, place_of, LengthsFit, MarkFits}
use Rattle.params.specs.declared.shape.Shape.{Shape}
use Rattle.params.specs.declared.code.Code.{Code}
use Rattle.params.proofs.Sums.{sum_same}
use Rattle.params.proofs.Places.{place_inside}
use Rattle.code.specs.Words.{FirstBits, Bits, Agree, message_bit, parity, check_offset, PayloadAdded, code_word}
use Rattle.code.specs.Correcting.{differs, differing, corrected_bit}
use Rattle.code.specs.Compared.{Compared, votes, decided_bit}
use Rattle.code.proofs.Bits.{bit_small, differ_odd}
use Rattle.code.proofs.Words.{check_within, each_check, parity_same, code_word_only}

-- the payload p of a message, and zeros for checks, c: these become the checks d of its code word once p is added to them
pub encoded : (k : Code) (m p c d : List ℕ) → length p ≡ k.shape.kappa → length (p ++ d) ≡ k.mu
    → ((i : ℕ) → i < k.shape.kappa → get_or p i 0 ≡ message_bit m i)
    → ((i : ℕ) → get_or c i 0 ≡ 0)
    → PayloadAdded k.shape (2 * k.shape.f) p c d
    → p ++ d ≡ code_word k.shape m
encoded k m p c d size long payload clear back =
    let s = k.shape in
    let front : Agree s.kappa (p ++ d) p = λ i h. get_or_append_left p d 0 i (omega arith) in
    code_word_only s m (p ++ d) (long ∙ k.count) (λ i h. front i h ∙ payload i h) (λ j l hj hl.
    grind (arith, back j l hj hl, clear (check_offset s j + l), get_or-append-add p d (check_offset s j + l) 0, parity_same s (p ++ d) p front j l))

-- the payload p and the check bits c of a received word: c becomes d once p is added to it
pub compared : (k : Code) (v p c d : List ℕ) → length v ≡ k.mu → Bits v → Agree k.shape.kappa p v
    → ((i : ℕ) → k.shape.kappa + i < k.mu → get_or c i 0 ≡ get_or v (k.shape.kappa + i) 0)
    → PayloadAdded k.shape (2 * k.shape.f) p c d
    → Compared k.shape v p d
compared k v p c d long bits front copy back =
    let s = k.shape in
    record {
      payload = front;
      checks = λ j l hj hl.
          let o = check_offset s j + l in
          let inside : s.kappa + o < k.mu = omega (arith, k.count, check_within s j (2 * s.f) hj) in
          grind (arith, back j l hj hl, copy o inside, parity_same s p v front j l, bits (check_start s j + l), differ_odd (get_or v (check_start s j + l) 0) (parity s v j l));
    }

-- compared check bits are bits
pub compared_bits : (s : Shape) (v p c : List ℕ) → Compared s v p c → FirstBits (check_offset s (2 * s.f)) c
compared_bits s v p c is i h =
    each_check s (2 * s.f) (λ x. get_or c x 0 < 2) (λ j l hj hl. omega (arith, is.checks j l hj hl, bit_small (differs s v j l))) i h

-- a compared word decides as the received word is corrected
pub decided : (s : Shape) → LengthsFit s → MarkFits s → (v p c : List ℕ) → Compared s v p c → (k : ℕ) → k < s.kappa → decided_bit s p c k ≡ corrected_bit s v k
decided s fit mark v p c is k h =
    let counted : votes s c k ≡ differing s v k = sum_same (2 * s.f) _ _ (λ j lt. is.checks j (place_of s j k) lt (place_inside s fit mark j k lt h)) in
    ap₂ (λ n x. cond (leb (s.f + 1) n) (1 - x) x) counted (is.payload k h)
