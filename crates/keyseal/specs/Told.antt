-- How a refusal is told: by a number and four words.
use Rattle.std.specs.Prelude.{◌≡◌, ℕ, ◌-◌, List, [], ◌++◌, length, replicate, Ok, Err, Result, slice_index}
use Rattle.calls.specs.Chains.{Check}
use Rattle.calls.specs.Numbers.{refusal_numbers}
use Rattle.calls.specs.declared.refusal.Refusal.{Refusal}

-- the number and values of a refusal; none where nothing was refused
abbrev pub numbers_of : {X : Type 0} → Result X Refusal → List ℕ
numbers_of (Ok x) = []
numbers_of (Err e) = refusal_numbers e

-- r is the number of a refusal, or 0 where there is none, and the words are the number and the values, and then zeros
pub record Says (r : ℕ) (words numbers : List ℕ) : Type 0 where
  pub number : r ≡ slice_index numbers 0
  pub four : words ≡ numbers ++ replicate (4 - length numbers) 0

-- one value where a call was done, another where it was refused
abbrev pub if_done : {X : Type 0} → Check → X → X → X
if_done (Ok u) done refused = done
if_done (Err e) done refused = refused
