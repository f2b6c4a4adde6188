use Rattle.std.proofs.Common.{arith}
use Rattle.rackfile.proofs.Words.{words_read}
use Rattle.rackfile.proofs.bytes.read_words.Goals as goal

pub returns : goal.returns
returns c = words_read _ _ (omega arith) c.read_u16_into.ensures
