-- The bytes of the line to note beside a till's serial number.
use Rattle.std.specs.Prelude.{ℕ, ◌*◌, ◌/◌, Bool, cond, List, [], ◌∷◌, ◌++◌, take, codes, decimal, ◌==◌, nat_lt}
use Rattle.params.specs.Sizes.{q, bound}
use Rattle.params.specs.declared.shape.Shape.{Shape}
use Rattle.params.specs.declared.set.Set.{Set}

-- numbers, each behind a space
abbrev pub spaced : List ℕ → List ℕ
spaced [] = []
spaced (x ∷ xs) = codes " " ++ (decimal x ++ spaced xs)

-- whether the first check goes by blocks
abbrev pub mark : Bool → List ℕ
mark block = cond block (codes ", blocks") []

-- the check lengths of a code and its mark, and nothing where it has no checks
abbrev pub checks_text : Shape → List ℕ
checks_text s = cond (s.f == 0) [] (codes ", lengths" ++ (spaced (take (2 * s.f) s.lengths) ++ mark s.block))

-- the numbers of a code
abbrev pub code_text : Shape → List ℕ
code_text s = codes "kappa " ++ (decimal s.kappa ++ (codes ", f " ++ (decimal s.f ++ checks_text s)))

-- the numbers of a set, but for its code
abbrev pub ring_text : Set → List ℕ
ring_text s =
    codes "n " ++ (decimal s.n ++ (codes ", h " ++ (decimal s.h ++ (codes ", qb " ++ (decimal s.moduli.qb ++
    (codes ", pb " ++ (decimal s.moduli.pb ++ (codes ", tb " ++ decimal s.moduli.tb))))))))

-- what is promised of a parcel that nobody touched: that it opens, exactly where the bound is below a quarter of q
abbrev pub promise : Set → List ℕ
promise s =
    cond (nat_lt (bound s) (q s.moduli / 4))
    (codes "a parcel that nobody touched never fails to open")
    (codes "a parcel that nobody touched opens if at most f of its symbols are out of band, and that is not promised")

-- the bound of a set, a quarter of its q, and what is promised
abbrev pub bound_text : Set → List ℕ
bound_text s = codes "B = " ++ (decimal (bound s) ++ (codes ", q/4 = " ++ (decimal (q s.moduli / 4) ++ (codes "; " ++ promise s))))

-- the line: the serial number, the set, its bound, and the promise
abbrev pub card_line : List ℕ → Set → List ℕ
card_line serial s =
    codes "till " ++ (serial ++ (codes ": " ++ (ring_text s ++ (codes ", " ++ (code_text s.code.shape ++ (codes "; " ++ bound_text s))))))
