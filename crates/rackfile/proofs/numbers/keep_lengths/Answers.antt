use Rattle.std.proofs.Common.{◌≡◌, ℕ, ◌-◌, ◌*◌, List, ◌++◌, take, ap, ◌∙◌, ap₂, arith}
use Rattle.params.specs.Limits.{most_checks}
use Rattle.params.proofs.Sums.{rest_zeros}
use Rattle.rackfile.proofs.numbers.keep_lengths.Goals as goal

pub returns : goal.returns
returns c =
    let s = c.args.shape.now in
    let whole : 2 * c.args.shape.now.f - 0 ≡ 2 * c.args.shape.now.f = omega arith in
    ap₂ (λ (x y : List ℕ). x ++ y) (c.copy_from_slice.ensures.after ∙ ap (λ (n : ℕ). take n s.lengths) whole) (rest_zeros (2 * s.f) most_checks)
