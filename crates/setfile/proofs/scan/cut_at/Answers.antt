use Rattle.std.proofs.Common.{rules, eqb}
use borrow.Author.Tests.{tests}
use Rattle.std.proofs.lemmas.Iterator.{YieldsList-from_slice}
use Rattle.std.proofs.lemmas.Iterator.Search.{position_from_yields_List}
use Rattle.setfile.proofs.Scanning.{mark_at, no_mark}
use Rattle.setfile.proofs.scan.cut_at.Goals as goal

pub returns-in-Some : goal.returns-in-Some
returns-in-Some c =
    let e = position_from_yields_List (λ y. eqb y c.args.mark) _ _ c.position.result c.position.ensures.ran (YieldsList-from_slice c.args.s.now (cc)) (λ x b q k. search (rules, tests)) in
    let p = mark_at c.args.mark c.args.s.now _ c.in-Some.i e c.in-Some.is in
    record { front = p.0; rest = p.1 }

pub returns-in-None : goal.returns-in-None
returns-in-None c =
    let e = position_from_yields_List (λ y. eqb y c.args.mark) _ _ c.position.result c.position.ensures.ran (YieldsList-from_slice c.args.s.now (cc)) (λ x b q k. search (rules, tests)) in
    let p = no_mark c.args.mark c.args.s.now _ e c.in-None.is in
    record { front = p.0; rest = p.1 }
