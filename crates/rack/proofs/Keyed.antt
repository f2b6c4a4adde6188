-- A key that was made anew is the key of the coins.
use Rattle.std.proofs.Common.{◌≡◌, ℕ, List, Ok, sym, ap}
use Rattle.params.specs.declared.set.Set.{Set}
use Rattle.calls.specs.Chains.{Book}
use Rattle.rack.specs.declared.record.Coins.{Coins}
use Rattle.rack.specs.Calls.{coins_key}
use Rattle.rack.specs.Made.{Remade}

pub remade_key : (B : Book) (s : Set) (c : Coins) (a b x key : List ℕ) → Remade B s c a b x key → coins_key B s c ≡ Ok key
remade_key B s c a b x key made = rw (made.polynomial, made.positions) (ap Ok (sym made.made))
