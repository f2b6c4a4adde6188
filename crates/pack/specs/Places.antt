-- What a writer has written and what a reader has before it, as bits.
use Rattle.std.specs.Prelude.{◌≡◌, ℕ, List, ◌++◌, length, take}
use Rattle.pack.specs.Bits.{bits, run}
use Rattle.pack.specs.declared.bit_writer.BitWriter.{BitWriter}
use Rattle.pack.specs.declared.bit_reader.BitReader.{BitReader}

-- the bits of the bytes behind the place, and then the bits held
abbrev pub written : BitWriter → List ℕ
written p = run 8 (take p.at p.out.now) ++ bits p.held p.acc

-- the bits held, and then those of the bytes ahead of the place
abbrev pub unread : BitReader → List ℕ
unread p = bits p.held p.acc ++ run 8 p.ahead.now

-- a writer has gone on in an area as long, and these bits are what it has written since
pub record Wrote (p q : BitWriter) (bs : List ℕ) : Type 0 where
  pub more : written q ≡ written p ++ bs
  pub long : length q.out.now ≡ length p.out.now
