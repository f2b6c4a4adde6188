use Rattle.rackfile.proofs.Trips.{exact}
use Rattle.rackfile.proofs.reading.decode.Goals as goal

pub returns : goal.returns
returns c = record { value = c.read_file.ensures; exact = exact c.args.bytes.now c.read_file.result c.read_file.ensures }
