-- One step of each loop of encoding and correcting.
use Rattle.std.proofs.Common.{◌≡◌, ℕ, ◌+◌, ◌*◌, ◌%◌, ◌<◌, ◌≤◌, eqb, List, length, get_or, set, ap, ◌∙◌, inl, inr, arith}
use lib.Bits.{bit_xor}
use Rattle.std.proofs.lemmas.Grind.{common_steps}
use Rattle.std.proofs.lemmas.Bool.Decides.{nat_tests}
use Rattle.std.proofs.lemmas.Bool.{cases_eq}
use Rattle.params.specs.Sums.{sum, bit}
use Rattle.params.specs.Checks.{check_length, place_of}
use Rattle.params.specs.declared.shape.Shape.{Shape}
use Rattle.params.proofs.Sums.{sum_none, sum_more}
use Rattle.code.specs.Words.{Agree, check_offset, added, PayloadAdded}
use Rattle.code.proofs.Bits.{xor_bits}
use Rattle.code.proofs.Words.{check_within}

-- bit l of check j, which begins at `from` in the check bits c, with the first n bits of the payload p added
abbrev pub tally : Shape → (p c : List ℕ) → (from j l n : ℕ) → ℕ
tally s p c from j l n = (get_or c (from + l) 0 + sum n (λ k. get_or p k 0 * bit (eqb (place_of s j k) l))) % 2

pub tally_none : (s : Shape) (p c : List ℕ) (from j l : ℕ) → get_or c (from + l) 0 < 2 → get_or c (from + l) 0 ≡ tally s p c from j l 0
tally_none s p c from j l small = omega (arith, sum_none (λ k. get_or p k 0 * bit (eqb (place_of s j k) l)))

-- all payload bits
pub tally_all : (s : Shape) (p c : List ℕ) (from j l n : ℕ) → n ≡ s.kappa → from ≡ check_offset s j → tally s p c from j l n ≡ added s p c j l
tally_all s p c from j l n all begins =
    let S : ℕ → ℕ = λ x. sum x (λ k. get_or p k 0 * bit (eqb (place_of s j k) l)) in
    omega (arith, ap S all, ap (λ x. get_or c (x + l) 0) begins)

-- one more payload bit, b, which stands at place `at`
pub tally_more : (s : Shape) (p c d : List ℕ) (from j k l at b : ℕ) → at ≡ place_of s j k → at < check_length s j → from + at < length d → b ≡ get_or p k 0 → b < 2
    → ((q : ℕ) → q < check_length s j → get_or d (from + q) 0 ≡ tally s p c from j q k)
    → l < check_length s j → get_or (set d (from + at) (bit_xor (get_or d (from + at) 0) b)) (from + l) 0 ≡ tally s p c from j l (k + 1)
tally_more s p c d from j k l at b place inside room is small all lt =
    grind (arith, common_steps, nat_tests, xor_bits (get_or d (from + at) 0) b, all l lt, sum_more k (λ i. get_or p i 0 * bit (eqb (place_of s j i) l)))

-- one more check: c has the check bits before all checks, d those before this one and e those after it
pub checks_more : (s : Shape) (p c d e : List ℕ) (n from : ℕ) → from ≡ check_offset s n
    → ((i : ℕ) → from ≤ i → get_or d i 0 ≡ get_or c i 0)
    → Agree from e d
    → ((l : ℕ) → l < check_length s n → get_or e (from + l) 0 ≡ added s p d n l)
    → PayloadAdded s n p c d → PayloadAdded s (n + 1) p c e
checks_more s p c d e n from begins rest before here all j l hj hl = elim (cases_eq j n) [
  | inl is ↦ grind (arith, common_steps, nat_tests, here l, rest (check_offset s n + l))
  | inr ne ↦ before (check_offset s j + l) (omega (arith, check_within s j n (omega arith))) ∙ all j l (omega arith) hl
]
