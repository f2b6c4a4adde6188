use Rattle.std.proofs.Common.{sym, arith}
use Rattle.params.proofs.Sums.{sum_none}
use Rattle.params.proofs.Places.{shared_more, shared_kept}
use Rattle.params.proofs.blocks.Layout.count_shared.Goals as goal
use Rattle.params.proofs.blocks.Layout.count_shared.Goals.{then-place-eq0, else-place-eq0}

pub loop-j-init : goal.loop-j-init
loop-j-init c = (omega arith, sym (sum_none _))

pub loop-j-preserved : goal.loop-j-preserved
loop-j-preserved c =
    let s = c.args.self.now.shape in (
      elim c.if-place-eq0.branch [ then-place-eq0 w ↦ omega (arith, w.count-is) | else-place-eq0 w ↦ omega (arith, w.count-is) ],
      elim c.if-place-eq0.branch [
        | then-place-eq0 w ↦ shared_more s c.args.d c.loop-j.j c.place.result c.loop-j.count _ c.place.ensures.at c.loop-j.invariant.1 w.if-place-eq0.true w.count-is
        | else-place-eq0 w ↦ shared_kept s c.args.d c.loop-j.j c.place.result c.loop-j.count _ c.place.ensures.at c.loop-j.invariant.1 w.if-place-eq0.false w.count-is
      ],
    )
