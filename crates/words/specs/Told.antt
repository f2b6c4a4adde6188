-- The bytes that tell a refusal and a verdict.
use Rattle.std.specs.Prelude.{◌≡◌, ℕ, ◌/◌, ◌<◌, ◌≤◌, ◌⊎◌, List, ◌++◌, codes, decimal}
use Rattle.params.specs.Rules.{rule_number}
use Rattle.params.specs.Sizes.{q, bound}
use Rattle.params.specs.declared.set.Set.{Set}
use Rattle.params.specs.declared.proposal.Rule.{Rule}
use Rattle.params.specs.declared.proposal.Rule.TheVariants.{RingSize, Weight, Exponents, Balance, Payload, Flips, Lengths, BlockMark, SymbolCount}
use Rattle.params.specs.declared.proposal.SetFault.{SetFault}
use Rattle.params.specs.declared.proposal.SetFault.TheVariants.{Broken, Shared}

-- what each rule asks, in words
abbrev pub rule_words : Rule → List ℕ
rule_words RingSize = codes "n must be even and from 8 to 1200"
rule_words Weight = codes "h must be even, at least 2 and at most n"
rule_words Exponents = codes "the exponents must keep 1 <= tb < pb < qb <= 16"
rule_words Balance = codes "tb + qb must be at most 2 pb"
rule_words Payload = codes "kappa must be a multiple of 8 from 8 to 256"
rule_words Flips = codes "f must be at most 5"
rule_words Lengths = codes "there must be 2 f check lengths, each from 1 to 255"
rule_words BlockMark = codes "the block mark needs an f above 0 and a first length that divides kappa"
rule_words SymbolCount = codes "kappa and all lengths together must be at most n"

-- the line that tells a refusal: its number, its values, and a sentence
abbrev pub refusal_line : SetFault → List ℕ
refusal_line (Broken rule) = codes "refused 11 " ++ (decimal (rule_number rule) ++ (codes ": " ++ rule_words rule))
refusal_line (Shared a b) = codes "refused 12 " ++ (decimal a ++ (codes " " ++ (decimal b ++ codes ": these two payload positions share two checks")))

-- the verdict says that the bound of a set is below a quarter of q where it is, and that it is not where it is not
abbrev pub Verdict : Set → List ℕ → Type 0
Verdict s words =
    ((bound s < q s.moduli / 4) × (words ≡ codes "below the line: B < q/4")) ⊎
    ((q s.moduli / 4 ≤ bound s) × (words ≡ codes "not below the line: B >= q/4"))
