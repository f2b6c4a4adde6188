use Rattle.std.proofs.Common.{◌≡◌, ◌+◌, ◌*◌, ◌++◌, drop}
use Rattle.pack.specs.Bits.{bits, run}
use Rattle.pack.specs.Places.{unread}
use Rattle.pack.proofs.bit_reader.BitReader.load_rest.Given as goal

abbrev pub invariant-loop-byte : goal.invariant-loop-byte
invariant-loop-byte l = record {
  held : l.self.held ≡ l.initial.self.held + l.byte-index * 8;
  unread : bits l.self.held l.self.acc ++ run 8 (drop l.byte-index l.byte-items) ≡ unread l.initial.self;
}
