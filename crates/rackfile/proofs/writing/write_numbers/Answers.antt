use Rattle.std.proofs.Common.{◌≡◌, Bool, true, false, refl, ◌∙◌, arith}
use Rattle.std.specs.Int.{from_bool}
use Rattle.params.specs.Sums.{bit}
use Rattle.rackfile.specs.Words.{word_bytes}
use Rattle.rackfile.specs.Format.{scalars}
use Rattle.rackfile.proofs.Parts.{byte_between}
use Rattle.rackfile.proofs.writing.write_numbers.Goals as goal

bit_is : (b : Bool) → from_bool b ≡ bit b
bit_is true = refl
bit_is false = refl

pub returns : goal.returns
returns c = record {
  bytes = byte_between c.args.out.now _ _ (word_bytes (scalars c.args.numbers.now)) (word_bytes c.args.numbers.now.lengths) _ _ 14 20 15 (omega arith) (omega arith) (omega arith) (omega arith)
      c.write_words.ensures (c.from.ensures ∙ bit_is c.args.numbers.now.block) c.write_words-2.ensures;
  whole = omega arith;
}
