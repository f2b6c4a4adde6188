use Rattle.std.proofs.Common.{refl, sym, ◌∙◌, arith}
use Rattle.std.proofs.lemmas.List.{append-nil}
use Rattle.pack.specs.Bits.{run}
use Rattle.pack.specs.Places.{Wrote}
use Rattle.pack.proofs.Steps.{put_room, put_more}
use Rattle.pack.proofs.bit_writer.BitWriter.put_all.Goals as goal

pub loop-x-init : goal.loop-x-init
unfolding run
loop-x-init g c = record { wrote = record { more = sym (append-nil _); long = refl }; area = refl }

pub put-requires : goal.put-requires
put-requires g c =
    let inv = c.loop-x.invariant.wrote in
    put_room g.F.Residue.bare c.args.xs.now c.loop-x.x-index (g.F.Field.width c.args.moduli) _ _ _ c.loop-x-test.true inv.more (omega arith)

pub loop-x-preserved : goal.loop-x-preserved
loop-x-preserved g c =
    let inv = c.loop-x.invariant.wrote in
    let put = c.put.ensures.wrote in
    let wrote : Wrote c.args.self.now c.put.new.self _ = record {
      more = put_more g.F.Residue.bare c.args.xs.now c.loop-x.x-index (g.F.Field.width c.args.moduli) _ _ _ _ c.loop-x-test.true inv.more put.more c.x-item.is;
      long = put.long ∙ inv.long;
    } in
    record { wrote = wrote; area = c.put.ensures.area ∙ c.loop-x.invariant.area }
