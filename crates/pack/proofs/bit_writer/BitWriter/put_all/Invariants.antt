use Rattle.std.proofs.Common.{◌≡◌, map, take}
use Rattle.pack.specs.Bits.{run}
use Rattle.pack.specs.Places.{Wrote}
use Rattle.pack.proofs.bit_writer.BitWriter.put_all.Given as goal

abbrev pub invariant-loop-x : goal.invariant-loop-x
invariant-loop-x g l = record {
  wrote : Wrote l.initial.self l.self (run (g.F.Field.width l.fn.moduli) (map g.F.Residue.bare (take l.x-index l.xs)));
  area : l.self.out.ghost_name ≡ l.initial.self.out.ghost_name;
}
