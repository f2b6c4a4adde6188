use Rattle.std.proofs.Common.{◌≡◌, ◌*◌, ◌≤◌, length, take, arith}
use Rattle.std.proofs.lemmas.Iterator.{YieldsList-from_slice}
use Rattle.std.proofs.lemmas.Iterator.Consumers.{sum_from_yields_List, fits_from_yields_list}
use Rattle.params.specs.Limits.{longest_check, most_checks}
use Rattle.params.specs.Checks.{check_length}
use Rattle.params.specs.Sums.{sum}
use Rattle.params.specs.declared.blocks.Layout.{Layout}
use Rattle.params.proofs.Sums.{sum_at_most, sum_front}
use Rattle.std.specs.List as list
use Rattle.params.proofs.blocks.Layout.count_symbols.Goals as goal

-- the lengths of all checks, added up as a list and as a sum, are few
all_lengths : (l : Layout) → length l.shape.lengths ≡ most_checks → (list.sum (take (2 * l.shape.f) l.shape.lengths) ≡ sum (2 * l.shape.f) (check_length l.shape)) × (sum (2 * l.shape.f) (check_length l.shape) ≤ 2 * l.shape.f * longest_check)
all_lengths l table = (
  sum_front (2 * l.shape.f) l.shape.lengths (omega arith),
  sum_at_most (2 * l.shape.f) longest_check (check_length l.shape) (λ j lt. (l.fits.lengths j lt).1),
)

pub sum-requires-clause-fits : goal.sum-requires-clause-fits
sum-requires-clause-fits c =
    let l = c.args.self.now in
    fits_from_yields_list c.iter.result _ (YieldsList-from_slice (take (2 * l.shape.f) l.shape.lengths) (grind arith)) (omega (arith, all_lengths l (omega arith)))

pub overflow_add-result : goal.overflow_add-result
overflow_add-result c =
    let l = c.args.self.now in
    let total : c.sum.result ≡ list.sum (take (2 * l.shape.f) l.shape.lengths) = sum_from_yields_List c.iter.result _ c.sum.ensures.ran (YieldsList-from_slice (take (2 * l.shape.f) l.shape.lengths) (grind arith)) in
    omega (arith, all_lengths l (omega arith))

pub returns : goal.returns
returns c =
    let l = c.args.self.now in
    let total : c.sum.result ≡ list.sum (take (2 * l.shape.f) l.shape.lengths) = sum_from_yields_List c.iter.result _ c.sum.ensures.ran (YieldsList-from_slice (take (2 * l.shape.f) l.shape.lengths) (grind arith)) in
    omega (arith, all_lengths l (omega arith))
