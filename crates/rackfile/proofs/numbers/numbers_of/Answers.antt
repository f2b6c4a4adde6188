use Rattle.std.proofs.Common.{List, ℕ, sym, subst, ap}
use Rattle.rackfile.specs.Sets.{numbers_of, LawfulNumbers}
use Rattle.rackfile.proofs.Again.{lawful_numbers}
use Rattle.rackfile.proofs.numbers.numbers_of.Goals as goal

pub returns-clause-lawful : goal.returns-clause-lawful
returns-clause-lawful c =
    let s = c.args.set.now in
    subst LawfulNumbers (ap (λ (ls : List ℕ). record (numbers_of s) { lengths = ls }) (sym c.keep_lengths.ensures)) (lawful_numbers s)
