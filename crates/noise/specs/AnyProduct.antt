-- The two ends over any product by a secret: `times f s i` is coefficient i of the product of f and the secret s. Polynomials are functions of the place.
use Rattle.std.specs.Prelude.{◌≡◌, ℕ, ◌-◌, ◌<◌, ◌≤◌, true, cond, List, length, ℤ, pos, ◌-ℤ◌, unsigned_abs}
use Rattle.params.specs.Sizes.{q, p}
use Rattle.params.specs.declared.moduli.Moduli.{Moduli}
use Rattle.ring.specs.Cyclic.{reduced, mod_z}
use Rattle.ring.specs.RingLaws.{Balanced, Multiplies}
use Rattle.rounding.specs.Rounding.{rounded, symbol, raw_bit, slip, noise, in_band}
use Rattle.noise.specs.Bounds.{noise_bound, Below}

module _ (M : Moduli) (n : ℕ) (times : (ℕ → ℤ) → List ℕ → ℕ → ℤ) (a : ℕ → ℤ) where
  -- coefficient i of the reduced product of a and s, modulo q
  unfoldable pub residue_at : List ℕ → ℕ → ℕ
  residue_at s i = mod_z (q M) (reduced n (times a s) i)

  -- the end with the secret r multiplies what the end with s has made public: coefficient i, modulo p
  unfoldable pub cross_at : List ℕ → List ℕ → ℕ → ℕ
  cross_at s r i = mod_z (p M) (times (λ j. pos (rounded M (residue_at s j))) r i)

  -- the slips that s makes, times r, in whole numbers
  abbrev pub slips_at : List ℕ → List ℕ → ℕ → ℤ
  slips_at s r i = times (λ j. slip M (residue_at s j)) r i

  -- the noise at i, where the end with s reads what the end with r has hidden
  unfoldable pub noise_at : List ℕ → List ℕ → ℕ → ℤ
  noise_at s r i = noise M (slips_at s r i -ℤ slips_at r s i) (cross_at s r i)

  -- the bit that it reads
  unfoldable pub read_at : List ℕ → List ℕ → ℕ → ℕ → ℕ
  read_at s r i bit = raw_bit M (symbol M (cross_at s r i) bit) (cross_at r s i)

  -- what is so of every two secrets
  pub record Agreement (s r : List ℕ) : Type 0 where
    -- the bit that is read is the one hidden exactly where the noise is in band, else the other
    pub exact : Balanced s → Balanced r → (i bit : ℕ) → bit < 2 → read_at s r i bit ≡ cond (in_band M (noise_at s r i)) bit (1 - bit)
    -- secrets of at most h positions keep noise within the bound
    pub bounded : (h : ℕ) → length s ≤ h → length r ≤ h → (i : ℕ) → unsigned_abs (noise_at s r i) ≤ noise_bound M h
    -- and below the line in band
    pub safe : (h : ℕ) → length s ≤ h → length r ≤ h → Below M h → (i : ℕ) → in_band M (noise_at s r i) ≡ true

-- the four laws of a product are enough
abbrev pub AnyProduct : Moduli → Type 0
AnyProduct M =
    (n : ℕ) (times : (ℕ → ℤ) → List ℕ → ℕ → ℤ) → Multiplies n times → (a : ℕ → ℤ) (s r : List ℕ) → Agreement M n times a s r
