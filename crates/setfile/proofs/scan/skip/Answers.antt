use Rattle.std.proofs.Common.{rules, not}
use borrow.Author.Tests.{tests}
use Rattle.std.proofs.lemmas.Iterator.{YieldsList-from_slice}
use Rattle.std.proofs.lemmas.Iterator.Search.{position_from_yields_List}
use Rattle.setfile.specs.Scan.{space}
use Rattle.setfile.proofs.Scanning.{skipped_from}
use Rattle.setfile.proofs.scan.skip.Goals as goal

pub returns : goal.returns
returns c =
    let e = position_from_yields_List (λ y. not (space y)) _ _ c.position.result c.position.ensures.ran (YieldsList-from_slice c.args.s.now (cc)) (λ x b q k. search (rules, tests)) in
    skipped_from c.args.s.now _ _ e c.unwrap_or-start.ensures
