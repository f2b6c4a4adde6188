-- How the checks of a code lie over its payload, and the code rule.
use Rattle.std.specs.Prelude.{◌≡◌, ℕ, ◌+◌, ◌*◌, ◌/◌, ◌%◌, ◌<◌, ◌≤◌, Bool, true, cond, ◌&&◌, ◌==◌, slice_index}
use Rattle.params.specs.Limits.{longest_check}
use Rattle.params.specs.Sums.{sum, bit}
use Rattle.params.specs.declared.shape.Shape.{Shape}

-- the length of check j, in bits
abbrev pub check_length : Shape → ℕ → ℕ
check_length s j = slice_index s.lengths j

-- the block mark speaks of check 0 alone
abbrev pub in_blocks : Shape → ℕ → Bool
in_blocks s j = s.block && j == 0

-- the payload bits of a block
abbrev pub block_length : Shape → ℕ
block_length s = s.kappa / check_length s 0

-- the place of payload position k in check j
abbrev pub place_of : Shape → ℕ → ℕ → ℕ
place_of s j k = cond (in_blocks s j) (k / block_length s) (k % check_length s j)

-- where check j begins in a code word: the payload comes first, then check 0, check 1 and so on
abbrev pub check_start : Shape → ℕ → ℕ
check_start s j = s.kappa + sum j (check_length s)

-- the symbol count: the payload and all checks
abbrev pub symbol_count : Shape → ℕ
symbol_count s = check_start s (2 * s.f)

-- each check has from 1 bit to the longest
abbrev pub LengthsFit : Shape → Type 0
LengthsFit s = (j : ℕ) → j < 2 * s.f → (1 ≤ check_length s j) × (check_length s j ≤ longest_check)

-- the block mark wants a check 0, whose length divides the payload
abbrev pub MarkFits : Shape → Type 0
MarkFits s = s.block ≡ true → (1 ≤ s.f) × (s.kappa % check_length s 0 ≡ 0)

-- the payload positions a < b share their place in two checks
pub record SharesTwo (s : Shape) (a b : ℕ) : Type 0 where
  pub i : ℕ
  pub j : ℕ
  pub two : i < j
  pub known : j < 2 * s.f
  pub order : a < b
  pub inside : b < s.kappa
  pub in_i : place_of s i a ≡ place_of s i b
  pub in_j : place_of s j a ≡ place_of s j b

-- the code rule: two different payload positions share their place in at most one check
abbrev pub CodeRule : Shape → Type 0
CodeRule s = (a b : ℕ) → SharesTwo s a b → ⊥

-- how many of the first n checks have payload position d at place 0, where position 0 is
abbrev pub shared_with_first : Shape → ℕ → ℕ → ℕ
shared_with_first s d n = sum n (λ j. bit (place_of s j d == 0))
