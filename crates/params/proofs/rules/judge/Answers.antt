use Rattle.std.proofs.Common.{sym, subst, arith}
use Rattle.params.specs.declared.shape.Shape.{Shape}
use Rattle.params.specs.declared.proposal.Rule.TheVariants.{Flips}
use Rattle.params.specs.Checks.{MarkFits}
use Rattle.params.specs.Rules.{CodeFits}
use Rattle.params.proofs.Kept.{proposed_fits}
use Rattle.params.proofs.rules.judge.Goals as goal

pub proposed_shape-shape-requires : goal.proposed_shape-shape-requires
proposed_shape-shape-requires c = omega (arith, c.in_ok-judge_numbers.ensures Flips (omega arith), (c.keeps_lengths.ensures.0 c.in_ok-ask.ensures).0)

pub invariant_of-layout : goal.invariant_of-layout
invariant_of-layout c =
    let same = c.proposed_shape-shape.ensures in
    let mark = subst (λ (s : Shape). MarkFits s) same (c.keeps_mark.ensures.0 c.in_ok-ask-2.ensures) in
    record { fits = subst (λ (s : Shape). CodeFits s) (sym same) (proposed_fits c.args.p.now c.in_ok-judge_numbers.ensures (c.keeps_lengths.ensures.0 c.in_ok-ask.ensures) mark) }
