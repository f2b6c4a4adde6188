use Rattle.std.proofs.Common.{◌+◌, get_or, refl, ◌∙◌, arith, get_or-set_other}
use Rattle.params.proofs.Places.{place_inside}
use Rattle.code.proofs.Places.{bit_inside}
use Rattle.code.proofs.Steps.{tally_more}
use Rattle.code.proofs.walk.Check.add_payload.Goals as goal

pub loop-k-preserved : goal.loop-k-preserved
loop-k-preserved c =
    let check = c.args.self.now in
    let code = check.code.now in
    let i = c.loop-k.invariant in
    let d = c.loop-k.checks in
    let k = c.loop-k.k in
    let at = check.from + c.loop-k.place in
    let inside = place_inside code.shape code.lengths code.mark check.j k check.known (omega arith) in
    let room = bit_inside code check.j k check.known (omega arith) in
    record {
      place = c.next_place-place.ensures;
      before = λ p h. get_or-set_other d at p _ 0 (omega arith) ∙ i.before p h;
      after = λ p h. get_or-set_other d at p _ 0 (omega arith) ∙ i.after p h;
      check = λ q h. tally_more code.shape c.args.payload.now c.args.checks.now d check.from check.j k q c.loop-k.place (get_or c.args.payload.now k 0) i.place (omega arith) (omega (arith, check.begins)) refl (c.requires.payload k (omega arith)) i.check h;
    }
