use Rattle.std.proofs.Common.{◌∙◌, arith}
use Rattle.rackfile.proofs.Words.{words_written}
use Rattle.rackfile.proofs.bytes.write_words.Goals as goal

pub returns : goal.returns
returns c = c.write_u16_into.ensures ∙ words_written c.args.words.now (λ k. omega (arith, c.type_inv.words k))
