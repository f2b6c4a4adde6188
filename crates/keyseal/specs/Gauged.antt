-- A gauge together with its count.
use Rattle.std.specs.Prelude.{ℕ, List, ℤ, Ok, Result}
use Rattle.params.specs.declared.set.Set.{Set}
use Rattle.rounding.specs.Symbols.{out_of_band}
use Rattle.calls.specs.Chains.{Book, bind}
use Rattle.calls.specs.declared.refusal.Refusal.{Refusal}
use Rattle.lab.specs.Lab.{gauged}

-- the noise of each symbol, and how many symbols are out of band
pub record Counted : Type 0 where
  pub noise : List ℤ
  pub count : ℕ

abbrev pub counted : List ℤ → ℕ → Counted
counted noise count = record { noise = noise; count = count }

-- what a gauge answers, with the count
abbrev pub gauged_and_counted : Book → Set → ℕ → ℕ → ℕ → List ℕ → Result Counted Refusal
gauged_and_counted B s noise secret_words product_words seeds =
    bind (gauged B s noise secret_words product_words seeds) (λ ws. Ok (counted ws (out_of_band s.moduli ws)))
