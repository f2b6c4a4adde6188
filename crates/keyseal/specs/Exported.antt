-- What an exported call answers.
use Rattle.std.specs.Prelude.{◌≡◌, ℕ, List, Ok, Err, Result, MatchResult}
use Rattle.std.specs.Borrow.{Bor}
use Rattle.params.specs.Rules.{Lawful, Told, refusal_numbers}
use Rattle.params.specs.Made.{Holds}
use Rattle.params.specs.Proposed.{LentProposal}
use Rattle.params.specs.declared.proposal.SetFault.{SetFault}
use Rattle.params.specs.declared.set.Set.{Set}
use Rattle.calls.specs.declared.refusal.Refusal.{Refusal}
use Rattle.keyseal.specs.Told.{numbers_of, Says}
use Rattle.keyseal.specs.declared.layout.Numbers.{Numbers}

-- the set that a caller proposes by its numbers and check lengths
abbrev pub proposal_of : Numbers → Bor (List ℕ) → LentProposal
proposal_of m lengths = record {
  n = m.n;
  h = m.h;
  qb = m.qb;
  pb = m.pb;
  tb = m.tb;
  kappa = m.kappa;
  f = m.f;
  block = m.block;
  lengths = lengths;
}

-- a set is made of a lawful proposal, and a fault told of any other
abbrev pub Makes : LentProposal → Result Set SetFault → Type 0
Makes p r = MatchResult r (λ s. Lawful p × Holds s p) (λ e. Told e p × (Lawful p → ⊥))

-- what is left of a call by its answer: the outputs that the answer has, or the outputs as they were
abbrev pub left : {X : Type 0} → X → Result X Refusal → X
left was (Ok x) = x
left was (Err e) = was

-- a call's answer, told: its number and values, and its outputs
pub record Tells {X : Type 0} (r : ℕ) (words : List ℕ) (is was : X) (answer : Result X Refusal) : Type 0 where
  pub says : Says r words (numbers_of answer)
  pub leaves : is ≡ left was answer

-- A call on the set of the proposal p, by the answer that is defined for each set: the numbers are a lawful set's, and then the answer on that
-- set is told; or they are not, and then that is told, and the outputs are as they were.
pub data Exported {X : Type 0} (p : LentProposal) (r : ℕ) (words : List ℕ) (is was : X) (answer : Set → Result X Refusal) : Type 0 where
  on_set : (s : Set) → Lawful p → Holds s p → Tells r words is was (answer s) → Exported p r words is was answer
  no_set : (e : SetFault) → Told e p → (Lawful p → ⊥) → Says r words (refusal_numbers e) → is ≡ was → Exported p r words is was answer
