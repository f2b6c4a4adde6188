use Rattle.std.proofs.Common.{ap, ◌∙◌, arith}
use Rattle.std.proofs.lemmas.List.{take_at}
use Rattle.rackfile.specs.Format.{checksum_of, encoded}
use Rattle.rackfile.proofs.Parts.{two_parts}
use Rattle.rackfile.proofs.writing.write_file.Goals as goal

pub returns : goal.returns
unfolding encoded
returns c = record {
  bytes = two_parts c.args.out.now _ _ _ _ 431 32 (omega arith) (omega arith) (omega arith) c.write_body.ensures.bytes
      (c.copy_from_slice.ensures.after ∙ c.checksum-sum.ensures ∙ ap checksum_of (take_at _ _ 431 (omega arith) ∙ c.write_body.ensures.bytes));
  whole = c.write_body.ensures.whole;
}
