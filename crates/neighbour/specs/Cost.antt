-- Sets that differ in pb and tb alone, and what they cost.
use Rattle.std.specs.Prelude.{◌≡◌, ℕ, ◌+◌, ◌-◌, ◌≤◌, Some, None, Option}
use Rattle.params.specs.Limits.{word_bits}
use Rattle.params.specs.Sizes.{BelowLine, key_length, parcel_length}
use Rattle.params.specs.declared.moduli.Moduli.{Moduli}
use Rattle.params.specs.declared.set.Set.{Set}

-- the bits that rounding takes off
abbrev pub rounded_off : Set → ℕ
rounded_off s = s.moduli.qb - s.moduli.pb

-- the same n, h and code, and as many bits rounded off; each set keeps the rules on exponents by itself
pub record Alike (s o : Set) : Type 0 where
  pub n : o.n ≡ s.n
  pub h : o.h ≡ s.h
  pub shape : o.code.shape ≡ s.code.shape
  pub rounded : rounded_off o ≡ rounded_off s

-- the bytes of a key and a parcel together
abbrev pub cost : Set → ℕ
cost s = key_length s + parcel_length s

-- no set like s is below the line
abbrev pub NoNeighbour : Set → Type 0
NoNeighbour s = (o : Set) → Alike s o → BelowLine o → ⊥

-- r is like s and below the line, and no other such set costs less
pub record Cheapest (s r : Set) : Type 0 where
  pub alike : Alike s r
  pub below : BelowLine r
  pub least : (o : Set) → Alike s o → BelowLine o → cost r ≤ cost o

-- exponents that keep the rules with as many bits rounded off as in s
abbrev pub Room : Set → ℕ → ℕ → Type 0
Room s pb tb = (1 ≤ tb) × (tb + rounded_off s ≤ pb) × (pb + rounded_off s ≤ word_bits)

-- the best so far costs no more than c
abbrev pub Beats : Option Set → ℕ → Type 0
Beats None c = ⊥
Beats (Some b) c = cost b ≤ c

-- the best so far is like s and below the line
abbrev pub Good : Set → Option Set → Type 0
Good s None = Unit {0}
Good s (Some b) = Alike s b × BelowLine b

-- the best so far costs no more than any set like s below the line whose moduli were tried
abbrev pub Finds : Set → Option Set → (Moduli → Type 0) → Type 0
Finds s best Tried = (o : Set) → Alike s o → Tried o.moduli → BelowLine o → Beats best (cost o)
