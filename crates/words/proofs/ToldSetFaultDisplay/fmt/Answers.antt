use Rattle.std.proofs.Common.{◌≡◌, [], ◌∷◌, codes, refl, ◌∙◌}
use Rattle.std.specs.Fmt.{digits, decimal}
use Rattle.params.specs.Rules.{rule_number}
use Rattle.words.proofs.ToldSetFaultDisplay.fmt.Goals as goal

-- the number of the first refusal, as it is written
eleven : decimal 11 ≡ codes "11"
unfolding digits
eleven = refl

pub returns-in-Broken-clause-writes : goal.returns-in-Broken-clause-writes
returns-in-Broken-clause-writes g c =
    let n : c.numbers.result ≡ 11 ∷ rule_number c.in-Broken.rule ∷ 0 ∷ [] = c.numbers.ensures ∙ rw c.in-Broken.is in
    let w = rw (n, eleven, c.rule_sentence.ensures) at c.write.ensures.writes in
    rw c.in-Broken.is w

-- the number is worked out, so that what is written may be the number or its digits
pub returns-in-Shared-clause-writes : goal.returns-in-Shared-clause-writes
unfolding digits
returns-in-Shared-clause-writes g c =
    let n : c.numbers.result ≡ 12 ∷ c.in-Shared.field-0 ∷ c.in-Shared.field-1 ∷ [] = c.numbers.ensures ∙ rw c.in-Shared.is in
    let w = rw n at c.write-in-Shared.ensures.writes in
    rw c.in-Shared.is w
