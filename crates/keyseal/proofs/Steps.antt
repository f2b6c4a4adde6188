-- A chain of steps that is not refused, taken apart.
use Rattle.std.proofs.Common.{◌≡◌, ℕ, Ok, Err, Result, refl, arith}
use Rattle.calls.specs.Chains.{bind}

-- its first step is not refused, and then the rest is not
pub bind_ok : {X Y E : Type 0} (r : Result X E) (f : X → Result Y E) (y : Y) → bind r f ≡ Ok y → (x : X) × (r ≡ Ok x) × (f x ≡ Ok y)
bind_ok (Ok x) f y e = (x, refl, e)
bind_ok (Err d) f y e = let z : ◌≡◌ {A = ℕ} 0 1 = cc in absurd (omega arith)
