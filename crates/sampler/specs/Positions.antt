-- The positions that values pick in a polynomial of n coefficients.
use Rattle.std.specs.Prelude.{◌≡◌, ℕ, ◌*◌, ◌/◌, ◌<◌, Bool, false, cond, ◌||◌, List, [], ◌∷◌, ◌++◌, ◌==◌, nat_lt, slice_index}
use Rattle.params.specs.Limits.{most_n}

-- The marks of the occupancy table, one for each position there can be.
abbrev pub marks_room : ℕ
marks_room = most_n

-- How many values share a position: k = floor(65536 / n).
abbrev pub share : (n : ℕ) → ℕ
share n = 65536 / n

-- Whether p is among the positions ps.
abbrev pub has : (p : ℕ) (ps : List ℕ) → Bool
has p [] = false
has p (x ∷ xs) = p == x || has p xs

-- The positions kept, after the value v. A value at or above k·n is dropped; otherwise its position is floor(v / k), and
-- is dropped if it is kept already.
abbrev pub kept : (n : ℕ) (ps : List ℕ) (v : ℕ) → List ℕ
kept n ps v = cond (nat_lt v (share n * n)) (cond (has (v / share n) ps) ps (ps ++ ((v / share n) ∷ []))) ps

-- The positions kept, after the values vs.
abbrev pub kept_from : (n : ℕ) (ps vs : List ℕ) → List ℕ
kept_from n ps [] = ps
kept_from n ps (v ∷ vs) = kept_from n (kept n ps v) vs

-- The table is marked at the positions ps, and clear at every other.
abbrev pub Marked : (table ps : List ℕ) → Type 0
Marked table ps = (p : ℕ) → p < marks_room → slice_index table p ≡ cond (has p ps) 1 0
