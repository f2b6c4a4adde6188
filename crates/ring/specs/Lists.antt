-- Lists made from a function of the place, and the words that lists of each sort hold.
use Rattle.std.specs.Prelude.{ℕ, List, map, ℤ, pos, slice_index, slice_index_or}
use Rattle.std.specs.List.{range_with_len}
use Rattle.ring.specs.declared.sorts.Coefficient.{Coefficient}
use Rattle.ring.specs.declared.sorts.Rounded.{Rounded}
use Rattle.ring.specs.declared.sorts.Symbol.{Symbol}

-- the list of f 0, f 1, .. f (n - 1)
unfoldable pub listed : {X : Type 0} → ℕ → (ℕ → X) → List X
listed n f = map f (range_with_len 0 n)

-- the words of coefficients before rounding, of coefficients after it, and of symbols
abbrev pub words_q : List Coefficient → List ℕ
words_q xs = map (λ (x : Coefficient). x.0) xs

abbrev pub words_p : List Rounded → List ℕ
words_p xs = map (λ (x : Rounded). x.0) xs

abbrev pub words_t : List Symbol → List ℕ
words_t xs = map (λ (x : Symbol). x.0) xs

-- a list of words as a polynomial in whole numbers: past its end each coefficient is 0
abbrev pub whole : List ℕ → ℕ → ℤ
whole ws j = pos (slice_index ws j)

-- the same of a list of signed numbers
abbrev pub signed : List ℤ → ℕ → ℤ
signed zs j = slice_index_or zs j (pos 0)
