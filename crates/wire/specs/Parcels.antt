-- A parcel as bytes, and the parts that stand in one.
use Rattle.std.specs.Prelude.{ℕ, ◌+◌, ◌-◌, ◌*◌, cond, List, [], ◌∷◌, ◌++◌, length, take, drop, Err, Result, ◌==◌}
use Rattle.params.specs.Sizes.{parcel_length}
use Rattle.params.specs.declared.set.Set.{Set}
use Rattle.pack.specs.Packing.{packed, fields_at}
use Rattle.wire.specs.declared.fault.WireFault.{WireFault}
use Rattle.wire.specs.declared.fault.WireFault.TheVariants.{Length, Kind}
use Rattle.wire.specs.Faults.{run_form}

-- the kind byte of a parcel, hexadecimal 50
abbrev pub parcel_kind : ℕ
parcel_kind = 80

-- a parcel: the kind byte, u in n fields of pb bits and v in one field of tb bits for each symbol, in one run, and the 32 bytes of the tag g
unfoldable pub parcel_bytes : Set → List ℕ → List ℕ → List ℕ → List ℕ
parcel_bytes s u v g = parcel_kind ∷ packed s.moduli.pb u s.moduli.tb v ++ g

-- the run of fields in what follows the kind byte: all but the last 32 bytes
abbrev pub run_of : List ℕ → List ℕ
run_of rest = take (length rest - 32) rest

-- u: the first fields of the run
unfoldable pub parcel_u : Set → List ℕ → List ℕ
parcel_u s parcel = fields_at 0 s.n s.moduli.pb (run_of (drop 1 parcel))

-- v: the fields of the run after u
unfoldable pub parcel_v : Set → List ℕ → List ℕ
parcel_v s parcel = fields_at (s.n * s.moduli.pb) s.code.mu s.moduli.tb (run_of (drop 1 parcel))

-- the tag: what follows the run
unfoldable pub parcel_tag : List ℕ → List ℕ
parcel_tag parcel = drop (length (drop 1 parcel) - 32) (drop 1 parcel)

-- what follows the kind byte: it is refused for its fill bits
abbrev pub parcel_rest : Set → List ℕ → Result (Unit {0}) WireFault
parcel_rest s rest = run_form (s.n * s.moduli.pb + s.code.mu * s.moduli.tb) (run_of rest)

-- bytes of a parcel's length: refused for the kind byte, and then for what follows it
unfoldable pub parcel_content : Set → List ℕ → Result (Unit {0}) WireFault
parcel_content s [] = Err (Length 0)
parcel_content s (kind ∷ rest) = cond (kind == parcel_kind) (parcel_rest s rest) (Err (Kind kind))

-- any bytes: refused for their length first
abbrev pub parcel_form : Set → List ℕ → Result (Unit {0}) WireFault
parcel_form s parcel = cond (length parcel == parcel_length s) (parcel_content s parcel) (Err (Length (length parcel)))
