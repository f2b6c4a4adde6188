use Rattle.std.proofs.Common.{◌+◌, get_or, ◌∙◌, ap₂, arith, get_or-set_other, get_or-set_same, below_more}
use Rattle.code.proofs.walk.Check.add_votes.Goals as goal

pub loop-k-preserved : goal.loop-k-preserved
loop-k-preserved c =
    let check = c.args.self.now in
    let i = c.loop-k.invariant in
    let d = c.loop-k.votes in
    let k = c.loop-k.k in
    record {
      place = c.next_place-place.ensures;
      counted = below_more _ k
          (λ q h. get_or-set_other d k q _ 0 (omega arith) ∙ i.counted q h)
          (get_or-set_same d k _ 0 (omega arith) ∙ ap₂ (λ x y. x + get_or c.args.checks.now (check.from + y) 0) (i.others k (omega arith)) i.place);
      others = λ q h. get_or-set_other d k q _ 0 (omega arith) ∙ i.others q (omega arith);
    }
