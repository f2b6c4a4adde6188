-- What is known once the polynomials and the key of coins are made.
use Rattle.std.specs.Prelude.{◌≡◌, ℕ, List, Ok}
use Rattle.params.specs.declared.set.Set.{Set}
use Rattle.ring.specs.Cyclic.{Within}
use Rattle.rounding.specs.Symbols.{rounded_product}
use Rattle.calls.specs.Chains.{Book}
use Rattle.scheme.specs.Scheme.{public_polynomial, secret_positions, key_from}
use Rattle.rack.specs.declared.record.Coins.{Coins}

-- a is the public polynomial, x the positions of the till's secret, b and key what comes of them
pub record Remade (B : Book) (s : Set) (c : Coins) (a b x key : List ℕ) : Type 0 where
  pub polynomial : public_polynomial B s c.sigma ≡ Ok a
  pub positions : secret_positions B s c.seed ≡ Ok x
  pub within : Within s.n x
  pub rounded : b ≡ rounded_product s.moduli s.n a x
  pub made : key ≡ key_from s c.sigma a x
