-- Correcting by a compared word: the payload as received, and for each check bit whether it differs.
use Rattle.std.specs.Prelude.{◌≡◌, ℕ, ◌+◌, ◌-◌, ◌*◌, ◌<◌, ◌≤◌, cond, List, nat_le, slice_index}
use Rattle.params.specs.Sums.{sum, bit}
use Rattle.params.specs.Checks.{check_length, place_of}
use Rattle.params.specs.Limits.{most_checks}
use Rattle.params.specs.declared.shape.Shape.{Shape}
use Rattle.code.specs.Words.{Agree, check_offset}
use Rattle.code.specs.Correcting.{differs}

-- the payload p and the check bits c are the received word v, compared: p is the payload of v, and each check bit is 1 if that of v
-- differs, else 0
pub record Compared (s : Shape) (v p c : List ℕ) : Type 0 where
  pub payload : Agree s.kappa p v
  pub checks : (j l : ℕ) → j < 2 * s.f → l < check_length s j → slice_index c (check_offset s j + l) ≡ bit (differs s v j l)

-- how many of the checks of payload position k are marked as differing
abbrev pub votes : Shape → List ℕ → ℕ → ℕ
votes s c k = sum (2 * s.f) (λ j. slice_index c (check_offset s j + place_of s j k))

-- c has the count of each payload position
pub record Counted (s : Shape) (checks c : List ℕ) : Type 0 where
  pub votes_of : (k : ℕ) → k < s.kappa → slice_index c k ≡ votes s checks k
  pub few : (k : ℕ) → k < s.kappa → slice_index c k ≤ most_checks

-- payload bit k, flipped if at least f + 1 are
abbrev pub decided_bit : Shape → (p c : List ℕ) → ℕ → ℕ
decided_bit s p c k = cond (nat_le (s.f + 1) (votes s c k)) (1 - slice_index p k) (slice_index p k)
