use Rattle.std.proofs.Common.{◌<◌, map, length, sym, ap, ◌∙◌, arith}
use Rattle.std.proofs.lemmas.List.{get_or-map, length-map}
use Rattle.ring.proofs.Runs.{along_nil, along_more}
use Rattle.ring.proofs.sparse.run.Goals as goal

pub loop-i-init : goal.loop-i-init
loop-i-init g c = sym (along_nil _ _)

pub loop-i-preserved : goal.loop-i-preserved
loop-i-preserved g c =
    let f = g.T.Term.bare in
    let xs = c.args.src.now in
    let i = c.loop-i.i in
    let within : i < length (map f xs) = omega (arith, length-map xs f) in
    let read = c.summand.ensures ∙ ap f c.index-src-i.is ∙ sym (get_or-map f xs i c.index-src-i.result c.summand.result (omega arith)) in
    along_more _ c.args.dst.now (map f xs) _ i _ _ _ c.loop-i.invariant (omega arith) within c.index-dst-i.is read c.step.ensures
