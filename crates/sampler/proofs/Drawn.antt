-- The values of a list of bytes, one at a time.
use Rattle.std.proofs.Common.{ℕ, ◌+◌, ◌*◌, ◌<◌, ◌≤◌, List, [], ◌∷◌, length, arith}
use Rattle.sampler.specs.Values.{values}

-- The values take all the bytes, but for a single one left over.
pub values_span : (bytes : List ℕ) → (2 * length (values bytes) ≤ length bytes) × (length bytes < 2 * length (values bytes) + 2)
values_span [] = (omega arith, omega arith)
values_span (x ∷ []) = (omega arith, omega arith)
values_span (x ∷ y ∷ bytes) = let s = values_span bytes in (omega arith, omega arith)
