use Rattle.std.proofs.Common.{◌≡◌, ◌*◌, ◌++◌, map, drop}
use Rattle.pack.specs.Bits.{cut}
use Rattle.pack.specs.Places.{unread}
use Rattle.pack.proofs.bit_reader.BitReader.get_all.Given as goal

abbrev pub invariant-loop-x : goal.invariant-loop-x
invariant-loop-x g l =
    let w = g.F.Field.width l.fn.moduli in
    let bits = unread l.initial.self in
    record {
      unread : unread l.self ≡ drop (l.x-index * w) bits;
      fields : l.xs ≡ map g.F.Residue.made (cut l.x-index w bits) ++ drop l.x-index l.initial.xs;
    }
