-- The table of the round constants follows its rule: antt computes all 24 of them.
use Rattle.std.proofs.Common.{◌≡◌, ℕ, ◌<◌, List, [], ◌∷◌, map, get_or, refl, ap, ◌∙◌, zero-add}
use Rattle.std.specs.List.{range_with_len}
use Rattle.std.proofs.lemmas.List.FromFn.{get_or-map-range_with_len}
use Rattle.keccak.specs.Keccak.{round_constant}

abbrev pub constants : List ℕ
constants =
    0x0000000000000001 ∷ 0x0000000000008082 ∷ 0x800000000000808a ∷ 0x8000000080008000 ∷ 0x000000000000808b ∷ 0x0000000080000001
    ∷ 0x8000000080008081 ∷ 0x8000000000008009 ∷ 0x000000000000008a ∷ 0x0000000000000088 ∷ 0x0000000080008009 ∷ 0x000000008000000a
    ∷ 0x000000008000808b ∷ 0x800000000000008b ∷ 0x8000000000008089 ∷ 0x8000000000008003 ∷ 0x8000000000008002 ∷ 0x8000000000000080
    ∷ 0x000000000000800a ∷ 0x800000008000000a ∷ 0x8000000080008081 ∷ 0x8000000000008080 ∷ 0x0000000080000001 ∷ 0x8000000080008008
    ∷ []

all_constants : constants ≡ map round_constant (range_with_len 0 24)
unfolding round_constant
all_constants = refl

pub constant_at : (i : ℕ) → i < 24 → get_or constants i 0 ≡ round_constant i
constant_at i h = ap (λ (t : List ℕ). get_or t i 0) all_constants ∙ get_or-map-range_with_len round_constant 0 24 i i 0 h (zero-add i)
