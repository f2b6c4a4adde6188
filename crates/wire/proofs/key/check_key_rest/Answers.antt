use Rattle.std.proofs.Common.{◌≡◌, ◌+◌, ◌*◌, length, drop, ap, ◌∙◌, zero-mul, arith}
use Rattle.std.proofs.lemmas.Slice.{between_to_end}
use Rattle.wire.specs.Faults.{run_form}
use Rattle.wire.proofs.key.check_key_rest.Goals as goal

pub returns : goal.returns
returns c =
    let s = c.args.set.now in
    let rest = c.args.rest.now in
    let used = s.n * s.moduli.pb + 0 * s.moduli.tb in
    let same : used ≡ s.n * s.moduli.pb = omega (arith, zero-mul s.moduli.tb) in
    c.check_run.ensures ∙ ap (run_form used) (between_to_end rest 32 (length rest) (omega arith)) ∙ ap (λ k. run_form k (drop 32 rest)) same
