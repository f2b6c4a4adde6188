-- A code of 8 payload bits with checks of 3 and 4: a code word, and a received word that is mended.
use Rattle.std.specs.Prelude.{◌≡◌, ℕ, false, List, [], ◌∷◌}
use Rattle.params.specs.declared.shape.Shape.{Shape}
use Rattle.code.specs.Words.{code_word}
use Rattle.code.specs.Correcting.{corrected_message}

abbrev pub small : Shape
small = record { kappa = 8; f = 1; block = false; lengths = 3 ∷ 4 ∷ 0 ∷ 0 ∷ 0 ∷ 0 ∷ 0 ∷ 0 ∷ 0 ∷ 0 ∷ [] }

-- the word of 80, and the same with bit 5 flipped
abbrev pub sent : List ℕ
sent = 1 ∷ 0 ∷ 0 ∷ 0 ∷ 0 ∷ 0 ∷ 0 ∷ 0 ∷ 1 ∷ 0 ∷ 0 ∷ 1 ∷ 0 ∷ 0 ∷ 0 ∷ []

abbrev pub received : List ℕ
received = 1 ∷ 0 ∷ 0 ∷ 0 ∷ 0 ∷ 1 ∷ 0 ∷ 0 ∷ 1 ∷ 0 ∷ 0 ∷ 1 ∷ 0 ∷ 0 ∷ 0 ∷ []

abbrev pub Worked : Type 0
Worked = (code_word small (128 ∷ []) ≡ sent) × (corrected_message small received ≡ 128 ∷ [])
