use Rattle.std.proofs.Common.{rules, eqb, length, sym, ◌∙◌, arith}
use borrow.Author.Tests.{tests}
use Rattle.std.proofs.lemmas.Result.{err_from_is_err_and}
use Rattle.std.proofs.lemmas.List.{at_drop_all, length_push}
use Rattle.std.proofs.lemmas.Iterator.Splits.{YieldsList-from_slice_split}
use Rattle.std.proofs.lemmas.Iterator.Consumers.{YieldsList-at}
use Rattle.setfile.specs.Scan.{parts}
use Rattle.setfile.specs.Values.{keep_parts}
use Rattle.setfile.proofs.Reading.{turn_of, end_of, turn_stop, turn_next}
use Rattle.setfile.proofs.values.read_lengths.Goals as goal

pub returns-in_err-read_number : goal.returns-in_err-read_number
returns-in_err-read_number c =
    let t = turn_of c.loop-part.yielded _ c.loop-part.yielded_by _ _ c.in-Some.part c.in-Some.is c.next.ensures.steps (YieldsList-at c.into_iter-part-iterator.ensures.into_iter_gives (YieldsList-from_slice_split _ (λ x. eqb x 44) c.args.s.now c.split-part-items.ensures.rest c.split-part-items.ensures.done c.split-part-items.ensures.closure (λ x b q k. search (rules, tests)))) in
    let p = err_from_is_err_and c.from_residual.result c.from_residual.ensures.1 in
    let e = turn_stop (parts 44 c.args.s.now) c.loop-part.lengths _ c.in-Some.part.now t _ c.in_err-read_number.ensures in
    rw (p.1, p.2, ← c.if-is_blank.ensures) (e ∙ sym c.loop-part.invariant)

pub loop-part-preserved : goal.loop-part-preserved
loop-part-preserved c =
    let t = turn_of c.loop-part.yielded _ c.loop-part.yielded_by _ _ c.in-Some.part c.in-Some.is c.next.ensures.steps (YieldsList-at c.into_iter-part-iterator.ensures.into_iter_gives (YieldsList-from_slice_split _ (λ x. eqb x 44) c.args.s.now c.split-part-items.ensures.rest c.split-part-items.ensures.done c.split-part-items.ensures.closure (λ x b q k. search (rules, tests)))) in
    let e = turn_next (parts 44 c.args.s.now) c.loop-part.lengths _ c.in-Some.part.now t _ c.in_ok-read_number.ensures in
    rw (length_push c.loop-part.yielded c.in-Some.part, c.push.ensures) (c.loop-part.invariant ∙ e)

pub returns : goal.returns
returns c =
    let t = end_of c.loop-part.yielded _ c.loop-part.yielded_by _ _ c.in-None.is c.next.ensures.steps (YieldsList-at c.into_iter-part-iterator.ensures.into_iter_gives (YieldsList-from_slice_split _ (λ x. eqb x 44) c.args.s.now c.split-part-items.ensures.rest c.split-part-items.ensures.done c.split-part-items.ensures.closure (λ x b q k. search (rules, tests)))) in
    let e = at_drop_all (keep_parts c.loop-part.lengths) (parts 44 c.args.s.now) (length c.loop-part.yielded) (omega (arith, t)) in
    rw (← c.if-is_blank.ensures) (sym (c.loop-part.invariant ∙ e))
