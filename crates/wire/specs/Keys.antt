-- A key as bytes, and the parts that stand in one.
use Rattle.std.specs.Prelude.{ℕ, ◌*◌, cond, List, [], ◌∷◌, ◌++◌, length, take, drop, Err, Result, ◌==◌}
use Rattle.params.specs.Sizes.{key_length}
use Rattle.params.specs.declared.set.Set.{Set}
use Rattle.pack.specs.Packing.{packed, fields_at}
use Rattle.wire.specs.declared.fault.WireFault.{WireFault}
use Rattle.wire.specs.declared.fault.WireFault.TheVariants.{Length, Kind}
use Rattle.wire.specs.Faults.{run_form}

-- the kind byte of a key, hexadecimal 4B
abbrev pub key_kind : ℕ
key_kind = 75

-- a key: the kind byte, the 32 bytes of the seed σ, and b in n fields of pb bits (and no second list of fields)
unfoldable pub key_bytes : Set → List ℕ → List ℕ → List ℕ
key_bytes s σ b = key_kind ∷ σ ++ packed s.moduli.pb b s.moduli.tb []

-- the seed: 32 bytes after the kind byte
unfoldable pub key_seed : List ℕ → List ℕ
key_seed key = take 32 (drop 1 key)

-- b: the fields after the seed
unfoldable pub key_b : Set → List ℕ → List ℕ
key_b s key = fields_at 0 s.n s.moduli.pb (drop 32 (drop 1 key))

-- what follows the kind byte: it is refused for its fill bits
abbrev pub key_rest : Set → List ℕ → Result (Unit {0}) WireFault
key_rest s rest = run_form (s.n * s.moduli.pb) (drop 32 rest)

-- bytes of a key's length: refused for the kind byte, and then for what follows it
unfoldable pub key_content : Set → List ℕ → Result (Unit {0}) WireFault
key_content s [] = Err (Length 0)
key_content s (kind ∷ rest) = cond (kind == key_kind) (key_rest s rest) (Err (Kind kind))

-- any bytes: refused for their length first
abbrev pub key_form : Set → List ℕ → Result (Unit {0}) WireFault
key_form s key = cond (length key == key_length s) (key_content s key) (Err (Length (length key)))
