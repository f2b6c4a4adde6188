use Rattle.std.proofs.Common.{◌+◌, rules, eqb, length, sym, ◌∙◌, arith}
use borrow.Author.Tests.{tests}
use Rattle.std.proofs.lemmas.Result.{err_from_is_err_and, MatchResult-weaker}
use Rattle.std.proofs.lemmas.List.{at_drop_all, length_push}
use Rattle.std.proofs.lemmas.List.FromFn.{length-enumerate_from}
use Rattle.std.proofs.lemmas.Iterator.Splits.{YieldsList-from_slice_split}
use Rattle.std.proofs.lemmas.Iterator.Consumers.{YieldsList-at, YieldsList-from_enumerate}
use Rattle.setfile.specs.Scan.{parts}
use Rattle.setfile.specs.Meaning.{put_lines}
use Rattle.setfile.proofs.Reading.{turn_of, end_of, numbered, row_wrong, row_right, line_stop, line_next}
use Rattle.setfile.proofs.file.read_lines.Goals as goal

pub returns-in_err-map_err : goal.returns-in_err-map_err
returns-in_err-map_err c =
    let t = numbered (parts 10 c.args.text.now) _ c.in-Some.i c.in-Some.row.now (turn_of c.loop-i.yielded _ c.loop-i.yielded_by _ _ (c.in-Some.i, c.in-Some.row) c.in-Some.is c.next.ensures.steps (YieldsList-at c.into_iter-i-iterator.ensures.into_iter_gives (YieldsList-from_enumerate (YieldsList-at c.enumerate-i-items.ensures.source (YieldsList-from_slice_split _ (λ x. eqb x 10) c.args.text.now c.split.ensures.rest c.split.ensures.done c.split.ensures.closure (λ x b q k. search (rules, tests)))) c.enumerate-i-items.ensures.count))) in
    let p = err_from_is_err_and c.from_residual.result c.from_residual.ensures.1 in
    let w = row_wrong (c.in-Some.i + 1) c.loop-i.found c.put_line.new.found c.in-Some.row.now c.in_err-map_err.field-0.0 c.put_line.result c.put_line.ensures (MatchResult-weaker c.put_line.result c.in_err-map_err.ensures.cases (λ _ h. h) (λ w h. search rules)) in
    let e = line_stop (parts 10 c.args.text.now) c.loop-i.found _ c.in-Some.row.now (t.1, t.2) c.in-Some.i w.0 c.in_err-map_err.field-0.0 t.0 w.1 w.2 in
    rw (p.1, p.2) (e ∙ sym c.loop-i.invariant)

pub loop-i-preserved : goal.loop-i-preserved
loop-i-preserved c =
    let t = numbered (parts 10 c.args.text.now) _ c.in-Some.i c.in-Some.row.now (turn_of c.loop-i.yielded _ c.loop-i.yielded_by _ _ (c.in-Some.i, c.in-Some.row) c.in-Some.is c.next.ensures.steps (YieldsList-at c.into_iter-i-iterator.ensures.into_iter_gives (YieldsList-from_enumerate (YieldsList-at c.enumerate-i-items.ensures.source (YieldsList-from_slice_split _ (λ x. eqb x 10) c.args.text.now c.split.ensures.rest c.split.ensures.done c.split.ensures.closure (λ x b q k. search (rules, tests)))) c.enumerate-i-items.ensures.count))) in
    let e = line_next (parts 10 c.args.text.now) c.loop-i.found _ c.in-Some.row.now (t.1, t.2) c.put_line.new.found (row_right 0 c.loop-i.found c.put_line.new.found c.in-Some.row.now c.put_line.result c.put_line.ensures (MatchResult-weaker c.put_line.result c.in_ok-map_err.ensures.cases (λ _ _. tt) (λ _ h. h))) in
    rw length_push (c.loop-i.invariant ∙ e)

pub returns : goal.returns
returns c =
    let t = end_of c.loop-i.yielded _ c.loop-i.yielded_by _ _ c.in-None.is c.next.ensures.steps (YieldsList-at c.into_iter-i-iterator.ensures.into_iter_gives (YieldsList-from_enumerate (YieldsList-at c.enumerate-i-items.ensures.source (YieldsList-from_slice_split _ (λ x. eqb x 10) c.args.text.now c.split.ensures.rest c.split.ensures.done c.split.ensures.closure (λ x b q k. search (rules, tests)))) c.enumerate-i-items.ensures.count)) in
    let e = at_drop_all (put_lines (length c.loop-i.yielded + 1) c.loop-i.found) (parts 10 c.args.text.now) (length c.loop-i.yielded) (omega (arith, t, length-enumerate_from 0 (parts 10 c.args.text.now))) in
    sym (c.loop-i.invariant ∙ e)
