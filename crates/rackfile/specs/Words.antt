-- Words as bytes, two for each, the high byte first.
use Rattle.std.specs.Prelude.{ℕ, ◌+◌, ◌*◌, ◌/◌, ◌%◌, List, [], ◌∷◌}

abbrev pub word_bytes : List ℕ → List ℕ
word_bytes [] = []
word_bytes (x ∷ xs) = x / 256 ∷ x % 256 ∷ word_bytes xs

-- the words that stand in some bytes; a last byte alone is none
abbrev pub words_from : List ℕ → List ℕ
words_from [] = []
words_from (x ∷ []) = []
words_from (x ∷ y ∷ xs) = (x * 256 + y) ∷ words_from xs
