-- What a received word corrects to.
use Rattle.std.specs.Prelude.{◌≡◌, ℕ, zero, suc, ◌+◌, ◌-◌, ◌*◌, ◌/◌, ◌≤◌, Bool, cond, not, List, map, length, ◌==◌, nat_le, slice_index}
use Rattle.std.specs.List.{range_with_len}
use Rattle.params.specs.Sums.{sum, bit}
use Rattle.params.specs.Checks.{check_start, place_of}
use Rattle.params.specs.declared.shape.Shape.{Shape}
use Rattle.code.specs.Words.{Bytes, parity, code_word, distance}

-- whether bit l of check j, worked out from the received payload, differs from the one received
abbrev pub differs : Shape → List ℕ → ℕ → ℕ → Bool
differs s v j l = not (slice_index v (check_start s j + l) == parity s v j l)

-- in how many of the 2·f checks the bit of payload position k differs
abbrev pub differing : Shape → List ℕ → ℕ → ℕ
differing s v k = sum (2 * s.f) (λ j. bit (differs s v j (place_of s j k)))

-- payload bit k as it is corrected: flipped if at least f + 1 checks differ
abbrev pub corrected_bit : Shape → List ℕ → ℕ → ℕ
corrected_bit s v k = cond (nat_le (s.f + 1) (differing s v k)) (1 - slice_index v k) (slice_index v k)

-- the number whose n bits are F 0, F 1 and so on, the highest first
unfoldable pub number : ℕ → (ℕ → ℕ) → ℕ
number zero F = 0
number (suc n) F = number n F * 2 + F n

-- byte i of a message whose bits are F
abbrev pub byte_of : (ℕ → ℕ) → ℕ → ℕ
byte_of F i = number 8 (λ q. F (8 * i + q))

-- the message that a received word corrects to
unfoldable pub corrected_message : Shape → List ℕ → List ℕ
corrected_message s v = map (byte_of (corrected_bit s v)) (range_with_len 0 (s.kappa / 8))

-- r is the message of v mended: every message whose code word differs from v in at most f places is r
abbrev pub Mends : Shape → List ℕ → List ℕ → Type 0
Mends s v r = (m : List ℕ) → length m ≡ s.kappa / 8 → Bytes m → distance (code_word s m) v ≤ s.f → r ≡ m
