-- The round trips of keys and parcels, for every set.
use Rattle.std.specs.Prelude.{◌≡◌, ℕ, List, length, Ok}
use Rattle.params.specs.Sizes.{p, t}
use Rattle.params.specs.declared.set.Set.{Set}
use Rattle.pack.specs.Bits.{Below}
use Rattle.wire.specs.Keys.{key_bytes, key_seed, key_b, key_form}
use Rattle.wire.specs.Parcels.{parcel_bytes, parcel_u, parcel_v, parcel_tag, parcel_form}

-- the laws of keys: a written key passes the checks and reads back, what is read is below p and writes back to the same bytes
pub record KeyTrips (s : Set) : Type 0 where
  pub passes : (σ b : List ℕ) → length σ ≡ 32 → length b ≡ s.n → key_form s (key_bytes s σ b) ≡ Ok tt
  pub seed : (σ b : List ℕ) → length σ ≡ 32 → key_seed (key_bytes s σ b) ≡ σ
  pub fields : (σ b : List ℕ) → length σ ≡ 32 → length b ≡ s.n → Below (p s.moduli) b → key_b s (key_bytes s σ b) ≡ b
  pub below : (key : List ℕ) → Below (p s.moduli) (key_b s key)
  pub again : (key : List ℕ) → Below 256 key → key_form s key ≡ Ok tt → key_bytes s (key_seed key) (key_b s key) ≡ key

-- the same laws of parcels
pub record ParcelTrips (s : Set) : Type 0 where
  pub passes : (u v g : List ℕ) → length u ≡ s.n → length v ≡ s.code.mu → length g ≡ 32 → parcel_form s (parcel_bytes s u v g) ≡ Ok tt
  pub first : (u v g : List ℕ) → length u ≡ s.n → length g ≡ 32 → Below (p s.moduli) u → parcel_u s (parcel_bytes s u v g) ≡ u
  pub second : (u v g : List ℕ) → length u ≡ s.n → length v ≡ s.code.mu → length g ≡ 32 → Below (t s.moduli) v → parcel_v s (parcel_bytes s u v g) ≡ v
  pub tag : (u v g : List ℕ) → length g ≡ 32 → parcel_tag (parcel_bytes s u v g) ≡ g
  pub below : (parcel : List ℕ) → Below (p s.moduli) (parcel_u s parcel) × Below (t s.moduli) (parcel_v s parcel)
  pub again : (parcel : List ℕ) → Below 256 parcel → parcel_form s parcel ≡ Ok tt → parcel_bytes s (parcel_u s parcel) (parcel_v s parcel) (parcel_tag parcel) ≡ parcel
