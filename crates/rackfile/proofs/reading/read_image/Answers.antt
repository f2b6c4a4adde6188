use Rattle.std.proofs.Common.{rules}
use Rattle.rackfile.specs.Format.{image_from}
use Rattle.rackfile.proofs.reading.read_image.Goals as goal

pub returns : goal.returns
unfolding image_from
returns c = search rules
