-- When raw bits are right, how large noise is, and what follows below the line.
use Rattle.std.specs.Prelude.{◌≡◌, ℕ, ◌-◌, ◌<◌, ◌≤◌, true, cond, not, List, length, Decides, ◌==◌, slice_index, unsigned_abs}
use Rattle.params.specs.Sums.{sum, bit}
use Rattle.params.specs.declared.moduli.Moduli.{Moduli}
use Rattle.ring.specs.Lists.{signed}
use Rattle.ring.specs.RingLaws.{Balanced}
use Rattle.rounding.specs.Symbols.{out_of_band}
use Rattle.noise.specs.Bounds.{noise_bound, Below}
use Rattle.noise.specs.Ends.{raw_read, symbol_noise, symbol_in_band}

-- each entry is a bit
abbrev pub Bits : List ℕ → Type 0
Bits w = (i : ℕ) → i < length w → slice_index w i < 2

-- secrets with as many signs + as -, and code bits for at most n symbols
pub record Exchange (n : ℕ) (s r bits : List ℕ) : Type 0 where
  pub till : Balanced s
  pub station : Balanced r
  pub code : Bits bits
  pub room : length bits ≤ n

-- a raw bit is its code bit exactly where the noise is in band
pub record Exact (M : Moduli) (n : ℕ) (a s r bits : List ℕ) : Type 0 where
  pub decides : (i : ℕ) → i < length bits → Decides (symbol_in_band M n a s r (length bits) i) (slice_index (raw_read M n a s r bits) i ≡ slice_index bits i)
  -- and elsewhere it is the other bit
  pub value : (i : ℕ) → i < length bits → slice_index (raw_read M n a s r bits) i ≡ cond (symbol_in_band M n a s r (length bits) i) (slice_index bits i) (1 - slice_index bits i)
  -- so as many raw bits are wrong as symbols are out of band
  pub count : sum (length bits) (λ i. bit (not (slice_index bits i == slice_index (raw_read M n a s r bits) i))) ≡ out_of_band M (symbol_noise M n a s r (length bits))

-- no noise of the first mu symbols is beyond the bound for h positions
abbrev pub Bounded : Moduli → ℕ → List ℕ → List ℕ → List ℕ → ℕ → ℕ → Type 0
Bounded M n a s r h mu = (i : ℕ) → i < mu → unsigned_abs (signed (symbol_noise M n a s r mu) i) ≤ noise_bound M h

-- every noise is in band, every raw bit is its code bit, and none is counted out of band
pub record Safe (M : Moduli) (n : ℕ) (a s r bits : List ℕ) : Type 0 where
  pub band : (i : ℕ) → i < length bits → symbol_in_band M n a s r (length bits) i ≡ true
  pub same : raw_read M n a s r bits ≡ bits
  pub none : out_of_band M (symbol_noise M n a s r (length bits)) ≡ 0

-- of any public polynomial and secrets: raw bits are wrong exactly where noise is out of band
abbrev pub ExactNoise : Moduli → Type 0
ExactNoise M = (n : ℕ) (a s r bits : List ℕ) → Exchange n s r bits → Exact M n a s r bits

-- secrets of at most h positions keep noise within the bound
abbrev pub BoundedNoise : Moduli → Type 0
BoundedNoise M = (n : ℕ) (a s r : List ℕ) (h mu : ℕ) → length s ≤ h → length r ≤ h → mu ≤ n → Bounded M n a s r h mu

-- and below the line they leave every bit as it was
abbrev pub SafeNoise : Moduli → Type 0
SafeNoise M =
    (n : ℕ) (a s r bits : List ℕ) (h : ℕ) → Exchange n s r bits → length s ≤ h → length r ≤ h → Below M h → Safe M n a s r bits
