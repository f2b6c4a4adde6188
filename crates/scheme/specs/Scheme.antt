-- What both ends compute: the values that seeds expand to, keys, and parcels.
use Rattle.std.specs.Prelude.{ℕ, List, ◌∷◌, ◌++◌, take, drop, Ok, Result}
use Rattle.params.specs.declared.set.Set.{Set}
use Rattle.sampler.specs.declared.SamplerFault.{SamplerFault}
use Rattle.sampler.specs.Expanded.{expanded_public, expanded_secret, public_label, secret_label}
use Rattle.shake.specs.Shake.{shake256}
use Rattle.code.specs.Words.{code_word}
use Rattle.code.specs.Correcting.{corrected_message}
use Rattle.rounding.specs.Symbols.{rounded_product, cross_product, symbols, raw_bits}
use Rattle.wire.specs.Keys.{key_bytes}
use Rattle.wire.specs.Parcels.{parcel_bytes, parcel_u, parcel_v}
use Rattle.calls.specs.Chains.{Book, bind}

-- the public polynomial of a seed
abbrev pub public_polynomial : Book → Set → List ℕ → Result (List ℕ) SamplerFault
public_polynomial B s σ = expanded_public s.moduli.qb s.n (B public_label σ)

-- the positions of the secret of a seed
abbrev pub secret_positions : Book → Set → List ℕ → Result (List ℕ) SamplerFault
secret_positions B s seed = expanded_secret s.n s.h (B secret_label seed)

-- the key of the seed σ and the secret with the positions x, where a is the public polynomial of σ: σ and b, the rounded reduced product of a and x
abbrev pub key_from : Set → List ℕ → List ℕ → List ℕ → List ℕ
key_from s σ a x = key_bytes s σ (rounded_product s.moduli s.n a x)

-- the key of σ and the seed of the till's secret
abbrev pub key_of : Book → Set → List ℕ → List ℕ → Result (List ℕ) SamplerFault
key_of B s σ seed = bind (public_polynomial B s σ) (λ a. bind (secret_positions B s seed) (λ x. Ok (key_from s σ a x)))

-- the 96 bytes that a message and a key give: l, then the tag g, then the seed of the station's secret
unfoldable pub sealing_bytes : List ℕ → List ℕ → List ℕ
sealing_bytes m key = shake256 (0x10 ∷ (m ++ key)) 96

abbrev pub l_of : List ℕ → List ℕ → List ℕ
l_of m key = take 32 (sealing_bytes m key)

abbrev pub tag_of : List ℕ → List ℕ → List ℕ
tag_of m key = take 32 (drop 32 (sealing_bytes m key))

abbrev pub station_seed : List ℕ → List ℕ → List ℕ
station_seed m key = take 32 (drop 64 (sealing_bytes m key))

-- the parcel that hides the message m under b, with the positions r of the station's secret: u, the symbols v of the code word of m, and the tag
abbrev pub parcel_from : Set → List ℕ → List ℕ → List ℕ → List ℕ → List ℕ → List ℕ
parcel_from s a b r m g =
    parcel_bytes s
    (rounded_product s.moduli s.n a r)
    (symbols s.moduli (cross_product s.moduli s.n b r) (code_word s.code.shape m))
    g

-- the parcel of a message to a key, where a and b are the key's polynomials
abbrev pub encrypted : Book → Set → List ℕ → List ℕ → List ℕ → List ℕ → Result (List ℕ) SamplerFault
encrypted B s a b key m = bind (secret_positions B s (station_seed m key)) (λ r. Ok (parcel_from s a b r m (tag_of m key)))

-- the secret that 32 bytes and a parcel give
unfoldable pub secret_from : List ℕ → List ℕ → List ℕ
secret_from l parcel = shake256 (0x11 ∷ (l ++ parcel)) 32

-- the raw bits of a parcel, read with the secret whose positions are x
abbrev pub bits_in : Set → List ℕ → List ℕ → List ℕ
bits_in s x parcel = raw_bits s.moduli (parcel_v s parcel) (cross_product s.moduli s.n (parcel_u s parcel) x)

-- the message that is found in a parcel with that secret: the raw bits, corrected
abbrev pub message_in : Set → List ℕ → List ℕ → List ℕ
message_in s x parcel = corrected_message s.code.shape (bits_in s x parcel)
