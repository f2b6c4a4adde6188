-- The two round trips, for every width, and one run worked through.
use Rattle.std.specs.Prelude.{◌≡◌, ℕ, ◌+◌, ◌*◌, ◌^◌, List, [], ◌∷◌, length, Ok}
use Rattle.params.specs.Sizes.{bytes_for}
use Rattle.pack.specs.Bits.{Below}
use Rattle.pack.specs.Packing.{packed, unpacked}

-- unpacking what was packed gives it back, for fields below 2 to their width
abbrev pub UnpacksPacked : Type 0
UnpacksPacked = (v w : ℕ) (xs ys : List ℕ) → Below (2 ^ v) xs → Below (2 ^ w) ys → unpacked (length xs) v (length ys) w (packed v xs w ys) ≡ Ok (xs, ys)

-- packing what was unpacked gives the same bytes
abbrev pub PacksUnpacked : Type 0
PacksUnpacked = (n v m w : ℕ) (bs xs ys : List ℕ) → Below 256 bs → length bs ≡ bytes_for (n * v + m * w) → unpacked n v m w bs ≡ Ok (xs, ys) → packed v xs w ys ≡ bs

-- ten fields of 6 bits, then eight of 3 bits
abbrev pub worked_u : List ℕ
worked_u = 0 ∷ 1 ∷ 0 ∷ 0 ∷ 0 ∷ 0 ∷ 0 ∷ 0 ∷ 0 ∷ 0 ∷ []

abbrev pub worked_v : List ℕ
worked_v = 4 ∷ 0 ∷ 4 ∷ 0 ∷ 0 ∷ 4 ∷ 0 ∷ 4 ∷ []

-- in hexadecimal 00 10 00 00 00 00 00 08 20 10 40
abbrev pub worked_bytes : List ℕ
worked_bytes = 0 ∷ 16 ∷ 0 ∷ 0 ∷ 0 ∷ 0 ∷ 0 ∷ 8 ∷ 32 ∷ 16 ∷ 64 ∷ []

-- the run, packed and unpacked
pub record Worked : Type 0 where
  pub packs : packed 6 worked_u 3 worked_v ≡ worked_bytes
  pub unpacks : unpacked 10 6 8 3 worked_bytes ≡ Ok (worked_u, worked_v)
