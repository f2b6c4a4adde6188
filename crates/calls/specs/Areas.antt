-- The working areas: lent words that are all zeros after a call.
use Rattle.std.specs.Prelude.{ℕ, ◌+◌, List, length, replicate}
use Rattle.params.specs.Limits.{most_n}

-- the words of a working area: room for n + 1 coefficients, whatever n is
abbrev pub area_words : ℕ
area_words = most_n + 1

-- as many zeros
abbrev pub zeros : List ℕ → List ℕ
zeros xs = replicate (length xs) 0
