-- The rules of a set, over what is proposed for one, and what a refusal says.
use Rattle.std.specs.Prelude.{◌≡◌, ℕ, ◌+◌, ◌-◌, ◌*◌, ◌%◌, ◌<◌, ◌≤◌, List, [], ◌∷◌, ◌++◌, length, replicate, slice_index}
use Rattle.params.specs.Limits.{most_n, most_kappa, most_flips, most_checks, longest_check, word_bits}
use Rattle.params.specs.Checks.{LengthsFit, MarkFits, SharesTwo, CodeRule, symbol_count}
use Rattle.params.specs.declared.shape.Shape.{Shape}
use Rattle.params.specs.Proposed.{LentProposal}
use Rattle.params.specs.declared.proposal.Rule.{Rule}
use Rattle.params.specs.declared.proposal.Rule.TheVariants.{RingSize, Weight, Exponents, Balance, Payload, Flips, Lengths, BlockMark, SymbolCount}
use Rattle.params.specs.declared.proposal.SetFault.{SetFault}
use Rattle.params.specs.declared.proposal.SetFault.TheVariants.{Broken, Shared}

-- the check lengths that are proposed
abbrev pub proposed_lengths : LentProposal → List ℕ
proposed_lengths p = p.lengths.now

-- the code that is proposed; the table of lengths is filled with zeros
abbrev pub shape_of : LentProposal → Shape
shape_of p = record {
  kappa = p.kappa;
  f = p.f;
  block = p.block;
  lengths = proposed_lengths p ++ replicate (most_checks - length (proposed_lengths p)) 0;
}

-- a check length from 1 to the longest
abbrev pub LengthFits : ℕ → Type 0
LengthFits x = (1 ≤ x) × (x ≤ longest_check)

-- what each rule asks of a proposal
abbrev pub Keeps : Rule → LentProposal → Type 0
Keeps RingSize p = (8 ≤ p.n) × (p.n ≤ most_n) × (p.n % 2 ≡ 0)
Keeps Weight p = (2 ≤ p.h) × (p.h ≤ p.n) × (p.h % 2 ≡ 0)
Keeps Exponents p = (1 ≤ p.tb) × (p.tb < p.pb) × (p.pb < p.qb) × (p.qb ≤ word_bits)
Keeps Balance p = p.tb + p.qb ≤ 2 * p.pb
Keeps Payload p = (8 ≤ p.kappa) × (p.kappa ≤ most_kappa) × (p.kappa % 8 ≡ 0)
Keeps Flips p = p.f ≤ most_flips
Keeps Lengths p = (length (proposed_lengths p) ≡ 2 * p.f) × ((k : ℕ) → k < length (proposed_lengths p) → LengthFits (slice_index (proposed_lengths p) k))
Keeps BlockMark p = MarkFits (shape_of p)
Keeps SymbolCount p = symbol_count (shape_of p) ≤ p.n

-- the number of a rule
abbrev pub rule_number : Rule → ℕ
rule_number RingSize = 1
rule_number Weight = 2
rule_number Exponents = 3
rule_number Balance = 4
rule_number Payload = 5
rule_number Flips = 6
rule_number Lengths = 7
rule_number BlockMark = 8
rule_number SymbolCount = 9

-- the rules on codes, 5 to 8, of a shape
pub record CodeFits (s : Shape) : Type 0 where
  pub low : 8 ≤ s.kappa
  pub high : s.kappa ≤ most_kappa
  pub bytes : s.kappa % 8 ≡ 0
  pub few : s.f ≤ most_flips
  pub lengths : LengthsFit s
  pub mark : MarkFits s

-- all nine rules
abbrev pub KeepsRules : LentProposal → Type 0
KeepsRules p = (r : Rule) → Keeps r p

-- the rules of a lower number than m
abbrev pub KeepsBelow : ℕ → LentProposal → Type 0
KeepsBelow m p = (r : Rule) → rule_number r < m → Keeps r p

-- what is known of a proposal that keeps the rules, its code s and its symbol count
pub record Judged (p : LentProposal) (s : Shape) (mu : ℕ) : Type 0 where
  pub rules : KeepsRules p
  pub same : s ≡ shape_of p
  pub count : mu ≡ symbol_count s

-- r is the lowest rule that the proposal breaks
pub record LowestBroken (r : Rule) (p : LentProposal) : Type 0 where
  pub broken : Keeps r p → ⊥
  pub below : KeepsBelow (rule_number r) p

-- a lawful proposal keeps the rules and the code rule
pub record Lawful (p : LentProposal) : Type 0 where
  pub rules : KeepsRules p
  pub code : CodeRule (shape_of p)

-- what a refusal says of the proposal: the lowest rule broken, or two payload positions that share two checks
abbrev pub Told : SetFault → LentProposal → Type 0
Told (Broken r) p = LowestBroken r p
Told (Shared a b) p = KeepsRules p × SharesTwo (shape_of p) a b

-- a refusal that names two positions of a code
abbrev pub NamesPair : SetFault → Shape → Type 0
NamesPair (Broken r) s = ⊥
NamesPair (Shared a b) s = SharesTwo s a b

-- the number of a refusal, and its values
abbrev pub refusal_numbers : SetFault → List ℕ
refusal_numbers (Broken r) = 11 ∷ rule_number r ∷ []
refusal_numbers (Shared a b) = 12 ∷ a ∷ b ∷ []
