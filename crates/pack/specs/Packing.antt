-- Two lists of fields as bytes, and the fields that stand in bytes.
use Rattle.std.specs.Prelude.{ℕ, ◌+◌, ◌*◌, cond, List, ◌++◌, drop, Ok, Err, Result, ◌==◌}
use Rattle.pack.specs.declared.reader.PackFault.{PackFault}
use Rattle.pack.specs.declared.reader.PackFault.TheVariants.{Fill}
use Rattle.pack.specs.Bits.{value, run, cut, bytes}

-- the fields xs of v bits and then the fields ys of w bits, in one run
unfoldable pub packed : ℕ → List ℕ → ℕ → List ℕ → List ℕ
packed v xs w ys = bytes (run v xs ++ run w ys)

-- n fields of w bits that stand in bytes, after the first k bits
unfoldable pub fields_at : ℕ → ℕ → ℕ → List ℕ → List ℕ
fields_at k n w bs = cut n w (drop k (run 8 bs))

-- the fill bits, which stand in bytes after the first k bits, as a number
unfoldable pub fill_after : ℕ → List ℕ → ℕ
fill_after k bs = value (drop k (run 8 bs))

-- the fill bits after the first k bits are all zero
abbrev pub fill_form : ℕ → List ℕ → Result (Unit {0}) PackFault
fill_form k bs = cond (fill_after k bs == 0) (Ok tt) (Err Fill)

-- n fields of v bits and then m fields of w bits; the bits that are left have to be zero
abbrev pub unpacked : ℕ → ℕ → ℕ → ℕ → List ℕ → Result (List ℕ × List ℕ) PackFault
unpacked n v m w bs = cond (fill_after (n * v + m * w) bs == 0) (Ok (fields_at 0 n v bs, fields_at (n * v) m w bs)) (Err Fill)
