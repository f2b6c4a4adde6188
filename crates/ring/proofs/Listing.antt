-- Lists that are written place by place, and lists made from a function of the place.
use Rattle.std.proofs.Common.{◌≡◌, ℕ, zero, suc, ◌+◌, ◌<◌, ◌≢◌, List, [], ◌∷◌, map, length, get_or, set, refl, arith, get_or-set_other, get_or-set_same, below_more}
use Rattle.std.specs.List.{range_with_len}
use Rattle.std.proofs.lemmas.List.FromFn.{length-map-range_with_len, get_or-map-range_with_len, fill_by_all}
use Rattle.ring.specs.Lists.{listed}

-- what holds of each place below i, and of r at i, holds below i + 1 once r is written at i
pub placed_more : {X : Type 0} (P : ℕ → X → Type 0) (ds : List X) (i : ℕ) (r d : X) → i < length ds → ((k : ℕ) → k < i → P k (get_or ds k d)) → P i r → (k : ℕ) → k < i + 1 → P k (get_or (set ds i r) k d)
placed_more P ds i r d lt inv here =
    below_more _ _
    (λ k h. let ne : k ≢ i = omega arith in rw get_or-set_other (inv k h))
    (rw get_or-set_same here)

-- what holds of each h x, and of the default, holds at any place
pub get_d_map_holds : {X Y : Type 0} (P : Y → Type 0) (h : X → Y) (d : Y) → P d → ((x : X) → P (h x)) → (xs : List X) (j : ℕ) → P (get_or (map h xs) j d)
get_d_map_holds P h d none some [] zero = none
get_d_map_holds P h d none some [] (suc j) = none
get_d_map_holds P h d none some (x ∷ xs) zero = some x
get_d_map_holds P h d none some (x ∷ xs) (suc j) = get_d_map_holds P h d none some xs j

pub length_listed : {X : Type 0} (n : ℕ) (f : ℕ → X) → length (listed n f) ≡ n
unfolding listed
length_listed n f = length-map-range_with_len f 0 n

pub get_d_listed : {X : Type 0} (n : ℕ) (f : ℕ → X) (i : ℕ) (d : X) → i < n → get_or (listed n f) i d ≡ f i
unfolding listed
get_d_listed n f i d lt = get_or-map-range_with_len f 0 n i i d lt (omega arith)

-- a list with f k at each place k
pub listed_by : {X : Type 0} (n : ℕ) (f : ℕ → X) (xs : List X) (d : X) → length xs ≡ n → ((k : ℕ) → k < n → get_or xs k d ≡ f k) → xs ≡ listed n f
unfolding listed
listed_by n f xs d long each = fill_by_all f xs n d long each

-- what holds of each f k, and of the default, holds at any place
pub listed_holds : {X : Type 0} (P : X → Type 0) (n : ℕ) (f : ℕ → X) (d : X) → P d → ((k : ℕ) → P (f k)) → (k : ℕ) → P (get_or (listed n f) k d)
unfolding listed
listed_holds P n f d none some k = get_d_map_holds P f d none some (range_with_len 0 n) k

-- a map that undoes another, over a list
pub map_undone : {X Y : Type 0} (f : X → Y) (h : Y → X) → ((y : Y) → f (h y) ≡ y) → (ys : List Y) → map f (map h ys) ≡ ys
map_undone f h e [] = refl
map_undone f h e (y ∷ ys) = let first : f (h y) ≡ y = e y in let rest : map f (map h ys) ≡ ys = map_undone f h e ys in cc
