use Rattle.std.proofs.Common.{arith}
use Rattle.rackfile.specs.Places.{places_bytes}
use Rattle.rackfile.specs.Format.{letters, number_bytes, body_bytes}
use Rattle.rackfile.proofs.Parts.{three_parts}
use Rattle.rackfile.proofs.writing.write_body.Goals as goal

pub returns : goal.returns
unfolding body_bytes
returns c = record {
  bytes = three_parts c.args.out.now _ _ _ letters (number_bytes c.args.image.now.numbers) (places_bytes c.args.image.now.places) 8 35 388 43 (omega arith) (omega arith) (omega arith) (omega arith) (omega arith)
      c.copy_from_slice.ensures.after c.write_numbers.ensures.bytes c.write_places.ensures.bytes;
  whole = record { lengths = c.write_numbers.ensures.whole; count = omega arith; places = c.write_places.ensures.whole };
}
