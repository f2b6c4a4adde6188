use Rattle.std.proofs.Common.{◌*◌, ◌≤◌, rules, tests, arith}
use Rattle.std.proofs.lemmas.Iterator.{first_from_Range}
use Rattle.params.specs.Checks.{shared_with_first}
use Rattle.params.proofs.Places.{first_shared}
use Rattle.params.proofs.blocks.Layout.shared_pair.Goals as goal

pub returns : goal.returns
returns c =
    let s = c.args.self.now.shape in
    first_shared s c.find.result (omega arith) c.args.self.now.fits.mark
    (first_from_Range _ _ _ _ (λ d. 2 ≤ shared_with_first s d (2 * s.f)) (λ d. shared_with_first s d (2 * s.f) ≤ 1) c.find.ensures.ran (λ d q k. grind (arith, tests)) (λ d q k. (search rules, grind (arith, tests))))
