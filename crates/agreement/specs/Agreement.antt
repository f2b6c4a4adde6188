-- The agreement between a station and a till whose sources have the books C and B.
use Rattle.std.specs.Prelude.{◌≡◌, ℕ, ◌<◌, ◌≤◌, List, ◌++◌, length, ℤ, Ok, Err, Decides, ◌≢◌, slice_index, unsigned_abs}
use Rattle.params.specs.Sizes.{bound, BelowLine}
use Rattle.params.specs.declared.set.Set.{Set}
use Rattle.sampler.specs.declared.SamplerFault.{SamplerFault}
use Rattle.ring.specs.Lists.{signed}
use Rattle.rounding.specs.Rounding.{in_band}
use Rattle.rounding.specs.Symbols.{out_of_band}
use Rattle.code.specs.Words.{Bytes, code_word}
use Rattle.calls.specs.Areas.{area_words}
use Rattle.calls.specs.Chains.{Book}
use Rattle.calls.specs.declared.refusal.Refusal.TheVariants.{Short}
use Rattle.scheme.specs.Scheme.{station_seed}
use Rattle.seal.specs.Seal.{Sealed, sealed}
use Rattle.lab.specs.Lab.{raw_read, gauged}
use Rattle.rack.specs.Calls.{Places, all_empty, coins_from, coins_key, coins_at, published, opened}
use Rattle.rack.specs.declared.record.Coins.{Coins}
use Rattle.agreement.specs.Runs.{Call, run, Unretired}

-- one seal of the message m to a key, not refused: it wrote this parcel and this secret
pub record Seals (C : Book) (s : Set) (key m : List ℕ) (it : Sealed) : Type 0 where
  pub parcel_buffer : ℕ
  pub secret_buffer : ℕ
  pub secret_words : ℕ
  pub product_words : ℕ
  pub bytes : Bytes m
  pub wrote : sealed C s parcel_buffer secret_buffer secret_words product_words key m ≡ Ok it

-- what gauge is given: σ and the seed of the till's secret from the coins, and the seed of the station's secret from the sealing
abbrev pub gauge_seeds : Coins → List ℕ → List ℕ → List ℕ
gauge_seeds c key m = c.sigma ++ (c.seed ++ station_seed m key)

-- what the laboratory finds in a parcel that was sealed to the key of coins: neither of its calls is refused, and a raw bit is the station's
-- code bit exactly where the noise is in band
pub record Found (B : Book) (s : Set) (c : Coins) (key m : List ℕ) (it : Sealed) : Type 0 where
  pub raw : List ℕ
  pub noise : List ℤ
  pub read : raw_read B s s.code.mu area_words area_words it.parcel c.seed ≡ Ok raw
  pub gauge : gauged B s s.code.mu area_words area_words (gauge_seeds c key m) ≡ Ok noise
  pub tells : (i : ℕ) → i < s.code.mu → Decides (in_band s.moduli (signed noise i)) (slice_index raw i ≡ slice_index (code_word s.code.shape m) i)

-- (a) in each parcel sealed to the key of any coins, a raw bit at the till differs from the station's code bit exactly when the gauge puts
-- that symbol's noise out of band
abbrev pub NoiseTells : Book → Book → Set → Type 0
NoiseTells C B s =
    (coins key m : List ℕ) (it : Sealed) → length coins ≡ 96 → coins_key B s (coins_from coins) ≡ Ok key → Seals C s key m it
    → Found B s (coins_from coins) key m it

-- (b) whatever the seeds, no symbol's noise is further from zero than the bound
abbrev pub NoiseBounded : Book → Set → Type 0
NoiseBounded B s =
    (noise_buffer secret_words product_words : ℕ) (seeds : List ℕ) (noise : List ℤ)
    → gauged B s noise_buffer secret_words product_words seeds ≡ Ok noise
    → (i : ℕ) → i < length noise → unsigned_abs (signed noise i) ≤ bound s

-- What is so of place i when a parcel sealed to its key comes back: its coins are there, the gauge of them and of the sealing is not refused,
-- and if at most f symbols gauge out of band, open is not refused and writes the station's secret. Below the line that is always so.
pub record Opening (B : Book) (s : Set) (ps : Places) (i : ℕ) (key m : List ℕ) (it : Sealed) : Type 0 where
  pub coins : Coins
  pub noise : List ℤ
  pub held : coins_at ps i ≡ Ok coins
  pub gauge : gauged B s s.code.mu area_words area_words (gauge_seeds coins key m) ≡ Ok noise
  pub opens : out_of_band s.moduli noise ≤ s.code.shape.f → opened B s ps i 32 area_words area_words it.parcel ≡ Ok it.secret
  pub always : BelowLine s → opened B s ps i 32 area_words area_words it.parcel ≡ Ok it.secret

-- (c) After any run of calls on a rack just made, refused ones included, publish wrote the key of place i. Whatever calls followed, none of
-- them a retire of i: a parcel that is sealed to that key opens there to the station's secret, if at most f symbols gauge out of band.
abbrev pub Opens : Book → Book → Set → Type 0
Opens C B s =
    (before since : List Call) (i key_buffer secret_words product_words : ℕ) (key m : List ℕ) (it : Sealed)
    → published B s (run B s all_empty before) i key_buffer secret_words product_words ≡ Ok key
    → Unretired i since
    → Seals C s key m it
    → Opening B s (run B s (run B s all_empty before) since) i key m it

-- and below the line no symbol ever gauges out of band, whatever the seeds
abbrev pub NeverOut : Book → Set → Type 0
NeverOut B s =
    BelowLine s → (noise_buffer secret_words product_words : ℕ) (seeds : List ℕ) (noise : List ℤ)
    → gauged B s noise_buffer secret_words product_words seeds ≡ Ok noise → out_of_band s.moduli noise ≡ 0

-- after any run on a rack just made, publish is never refused for want of bytes
abbrev pub Publishes : Book → Set → Type 0
Publishes B s =
    (calls : List Call) (i key_buffer secret_words product_words : ℕ) (fault : SamplerFault)
    → published B s (run B s all_empty calls) i key_buffer secret_words product_words ≢ Err (Short fault)
