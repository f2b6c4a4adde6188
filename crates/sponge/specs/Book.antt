-- The sponge's book.
use Rattle.std.specs.Prelude.{◌≡◌, List, ◌∷◌, ℕ, ◌<◌, ◌^◌, length}
use Rattle.std.proofs.Common.{arith}
use Rattle.shake.proofs.Laws.{length_shake256}
use Rattle.shake.specs.Shake.{shake256}

-- how many bytes a list of the book has
abbrev pub list_bytes : ℕ
list_bytes = 65536

-- the list for a label and a seed: the first bytes of SHAKE256 of the label followed by the seed
unfoldable pub sponge_book : ℕ → List ℕ → List ℕ
sponge_book label seed = shake256 (label ∷ seed) list_bytes

pub length_sponge_book : (label : ℕ) (seed : List ℕ) → length (sponge_book label seed) ≡ list_bytes
unfolding sponge_book
length_sponge_book label seed = length_shake256 (label ∷ seed) list_bytes

pub sponge_book_fits : (label : ℕ) (seed : List ℕ) → length (sponge_book label seed) < 2 ^ 64
sponge_book_fits label seed = omega (arith, length_sponge_book label seed)
