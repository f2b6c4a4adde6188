use Rattle.std.proofs.Common.{sym, ap, ◌∙◌, rules}
use Rattle.std.proofs.lemmas.Nat.{be_bytes_4}
use Rattle.pack.specs.Bits.{run}
use Rattle.pack.proofs.Steps.{word_bits}
use Rattle.pack.proofs.bit_reader.word_of.Goals as goal

pub returns : goal.returns
returns c = sym (word_bits c.from_be_bytes.result) ∙ ap (run 8) (be_bytes_4 c.args.bytes _ (search rules) (search rules) c.from_be_bytes.ensures)
