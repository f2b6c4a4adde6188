use Rattle.std.proofs.Common.{ap, ◌∙◌}
use Rattle.rackfile.specs.Format.{decoded}
use Rattle.rackfile.proofs.Trips.{there}
use Rattle.rackfile.proofs.writing.encode.Goals as goal

pub returns : goal.returns
returns c = record {
  bytes = c.write_file.ensures.bytes;
  read_back = ap decoded c.write_file.ensures.bytes ∙ there c.args.image.now c.write_file.ensures.whole;
}
