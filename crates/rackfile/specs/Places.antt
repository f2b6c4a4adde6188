-- The places of a rack as bytes.
use Rattle.std.specs.Prelude.{◌≡◌, ℕ, zero, suc, cond, List, [], ◌∷◌, length, take, drop, replicate, ◌==◌, slice_index, slice_index_or, Option, Some, None}
use Rattle.std.specs.List.{flat_map}
use Rattle.rack.specs.Calls.{coins_from, coin_bytes}
use Rattle.rack.specs.declared.record.Coins.{Coins}

-- the bytes of a place: a mark and 96 bytes
abbrev pub place_size : ℕ
place_size = 97

-- the mark and the coins of a place in use
abbrev pub used_bytes : Coins → List ℕ
used_bytes c = 1 ∷ coin_bytes c

-- an empty place is all zeros
unfoldable pub unused_bytes : List ℕ
unused_bytes = replicate place_size 0

abbrev pub place_bytes : Option Coins → List ℕ
place_bytes None = unused_bytes
place_bytes (Some c) = used_bytes c

abbrev pub places_bytes : List (Option Coins) → List ℕ
places_bytes ps = flat_map place_bytes ps

-- what stands in the bytes of a place, whatever they are: it is in use unless its mark is 0
abbrev pub place_from : List ℕ → Option Coins
place_from bs = cond (slice_index bs 0 == 0) None (Some (coins_from (take 96 (drop 1 bs))))

-- the first n places that stand in some bytes
abbrev pub places_from : ℕ → List ℕ → List (Option Coins)
places_from zero bs = []
places_from (suc n) bs = place_from (take place_size bs) ∷ places_from n (drop place_size bs)

-- the lengths that the type of coins gives
pub record WholeCoins (c : Coins) : Type 0 where
  pub sigma : length c.sigma ≡ 32
  pub seed : length c.seed ≡ 32
  pub z : length c.z ≡ 32

abbrev pub WholePlace : Option Coins → Type 0
WholePlace None = Unit {0}
WholePlace (Some c) = WholeCoins c

abbrev pub WholePlaces : List (Option Coins) → Type 0
WholePlaces ps = (i : ℕ) → WholePlace (slice_index_or ps i None)
