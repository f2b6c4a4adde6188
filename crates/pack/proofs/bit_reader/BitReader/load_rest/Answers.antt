use Rattle.std.proofs.Common.{◌∙◌, arith}
use Rattle.pack.proofs.Steps.{load_unread}
use Rattle.pack.proofs.bit_reader.BitReader.load_rest.Goals as goal

pub loop-byte-preserved : goal.loop-byte-preserved
loop-byte-preserved c = record {
  held = omega arith;
  unread = load_unread c.args.self.now.ahead.now c.loop-byte.byte-index c.loop-byte.self.acc c.loop-byte.self.held (omega arith) (omega arith) (omega arith) ∙ c.loop-byte.invariant.unread;
}
