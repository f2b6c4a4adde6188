-- The values that a list of bytes holds.
use Rattle.std.specs.Prelude.{ℕ, ◌+◌, ◌*◌, ◌%◌, ◌^◌, List, [], ◌∷◌, map}

-- Each value is two bytes, the low byte first. A single byte left over makes no value.
abbrev pub values : List ℕ → List ℕ
values [] = []
values (low ∷ []) = []
values (low ∷ high ∷ bytes) = (low + 256 * high) ∷ values bytes

-- The coefficients of the public polynomial: each value modulo q = 2 ^ qb.
abbrev pub residues : (qb : ℕ) (vs : List ℕ) → List ℕ
residues qb vs = map (λ v. v % 2 ^ qb) vs
