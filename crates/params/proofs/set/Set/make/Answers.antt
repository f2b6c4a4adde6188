use Rattle.std.proofs.Common.{◌≤◌, refl, ap, ◌∙◌, subst, arith}
use Rattle.params.specs.declared.shape.Shape.{Shape}
use Rattle.params.specs.Checks.{CodeRule, symbol_count}
use Rattle.params.specs.declared.proposal.Rule.TheVariants.{RingSize, Weight, Exponents, Balance, SymbolCount}
use Rattle.params.proofs.Kept.{count_short}
use Rattle.params.proofs.set.Set.make.Goals as goal

pub lawful_moduli-moduli-requires : goal.lawful_moduli-moduli-requires
lawful_moduli-moduli-requires c =
    let k = c.in_ok-layout.ensures.rules in record { exponents = k Exponents; balance = k Balance }

pub lawful_code-requires-clause-short : goal.lawful_code-requires-clause-short
lawful_code-requires-clause-short c = count_short _ _ _ c.in_ok-layout.ensures

pub invariant_of-result : goal.invariant_of-result
invariant_of-result c =
    let j = c.in_ok-layout.ensures in
    let n = j.rules RingSize in
    let h = j.rules Weight in
    let room : c.in_ok-code.code.mu ≤ c.args.proposal.now.n = omega (arith, c.in_ok-code.ensures.2, j.count, ap symbol_count j.same, j.rules SymbolCount) in
    record { low = n.0; high = n.1; even = n.2; some = h.0; sparse = h.1; paired = h.2; room = room }

pub returns : goal.returns
returns c =
    let j = c.in_ok-layout.ensures in
    let k = c.in_ok-code.ensures in
    let m = c.lawful_moduli-moduli.ensures in (
      record { rules = j.rules; code = subst (λ (s : Shape). CodeRule s) j.same k.0 },
      record { n = refl; h = refl; qb = m.0; pb = m.1; tb = m.2; code = k.1 ∙ j.same },
    )
