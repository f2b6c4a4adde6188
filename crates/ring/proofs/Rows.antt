-- A list as rows of one element.
use Rattle.std.proofs.Common.{◌≡◌, List, [], ◌∷◌, map, length, get_or, refl, ap}
use Rattle.std.specs.Simd.{first_chunks}

pub map_rows : {X Y : Type 0} (f : X → Y) (d : X) (xs : List X) → map (λ row. f (get_or row 0 d)) (first_chunks 1 (length xs) xs) ≡ map f xs
map_rows f d [] = refl
map_rows f d (x ∷ xs) = ap (λ ys. f x ∷ ys) (map_rows f d xs)
