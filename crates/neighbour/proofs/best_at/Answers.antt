use Rattle.neighbour.proofs.Alikes.{finds_more}
use Rattle.neighbour.proofs.best_at.Goals as goal

pub loop-tb-preserved : goal.loop-tb-preserved
loop-tb-preserved c =
    let inv = c.loop-tb.invariant in
    let other = c.with_exponents.ensures in
    let next = c.better-best.ensures in (
      λ good. next.good c.args.set.now (inv.0 good) other.alike,
      λ k beats. next.keeps k (inv.1 k beats),
      finds_more c.args.set.now c.with_exponents.result c.loop-tb.best c.better-best.result c.args.pb c.loop-tb.tb other.alike other.pb other.tb next.keeps next.takes inv.2,
    )
