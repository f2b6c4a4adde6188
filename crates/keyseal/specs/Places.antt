-- The places of a rack as C holds them, and what they mean.
use Rattle.std.specs.Prelude.{ℕ, true, false, cond, List, [], ◌∷◌, map, replicate, slice_set, Option, Some, None}
use Rattle.rack.specs.Calls.{coins_from}
use Rattle.rack.specs.Calls as calls
use Rattle.rack.specs.declared.record.Coins.{Coins}
use Rattle.keyseal.specs.declared.layout.Place.{Place}

-- what a place holds; the bytes of an empty place count for nothing
abbrev pub record_of : Place → Option Coins
record_of p = cond p.held (Some (coins_from p.coins)) None

abbrev pub records : List Place → calls.Places
records ps = map record_of ps

-- a place in use
abbrev pub in_use : List ℕ → Place
in_use xs = record { held = true; coins = xs }

-- a place just emptied: all zeros
unfoldable pub no_coins : List ℕ
no_coins = replicate 96 0

abbrev pub cleared : Place
cleared = record { held = false; coins = no_coins }

-- the places with coins put into one of them, and with one of them emptied; the others keep every byte
abbrev pub with_coins : List Place → ℕ → List ℕ → List Place
with_coins ps i xs = slice_set ps i (in_use xs)

abbrev pub emptied : List Place → ℕ → List Place
emptied ps i = slice_set ps i cleared

-- the places of a rack with coins at place 0 alone
abbrev pub coins_alone : List ℕ → calls.Places
coins_alone xs = Some (coins_from xs) ∷ None ∷ None ∷ None ∷ []
