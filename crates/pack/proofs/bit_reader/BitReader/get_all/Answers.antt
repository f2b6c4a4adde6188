use Rattle.std.proofs.Common.{◌++◌, map, drop, sym, ap, zero-mul, arith}
use Rattle.pack.specs.Places.{unread}
use Rattle.pack.proofs.Runs.{cut_none}
use Rattle.pack.proofs.Steps.{get_more, drop_next}
use Rattle.pack.proofs.bit_reader.BitReader.get_all.Goals as goal

pub loop-x-init : goal.loop-x-init
loop-x-init g c =
    let w = g.F.Field.width c.args.moduli in
    let bits = unread c.args.self.now in
    record {
      unread = sym (ap (λ k. drop k bits) (zero-mul w));
      fields = sym (ap (λ l. map g.F.Residue.made l ++ c.args.xs.now) (cut_none w bits));
    }

pub loop-x-preserved : goal.loop-x-preserved
loop-x-preserved g c =
    let w = g.F.Field.width c.args.moduli in
    let bits = unread c.args.self.now in
    let i = c.loop-x.x-index in
    record {
      unread = drop_next i w bits _ _ c.loop-x.invariant.unread c.get.ensures.unread;
      fields = get_more g.F.Residue.made c.args.xs.now c.loop-x.xs i w _ bits _ (omega arith) c.loop-x.invariant.fields c.loop-x.invariant.unread c.get.ensures.value;
    }
