-- The numbers of a set, and what they propose.
use Rattle.std.specs.Prelude.{◌≡◌, ℕ, ◌-◌, ◌*◌, List, ◌++◌, take, replicate}
use Rattle.params.specs.Limits.{most_checks}
use Rattle.params.specs.Rules.{Lawful}
use Rattle.params.specs.Proposed.{LentProposal}
use Rattle.params.specs.declared.proposal.ProposalOf.{ProposalOf}
use Rattle.params.specs.declared.set.Set.{Set}
use Rattle.params.specs.declared.shape.Shape.{Shape}

-- the numbers of a set with the whole table of its check lengths
abbrev pub KeptNumbers : Type 0
KeptNumbers = ProposalOf (List ℕ)

-- the check lengths of a code, filled with zeros
abbrev pub kept_lengths : Shape → List ℕ
kept_lengths s = take (2 * s.f) s.lengths ++ replicate (most_checks - 2 * s.f) 0

-- the numbers of a set
abbrev pub numbers_of : Set → KeptNumbers
numbers_of s = record {
  n = s.n;
  h = s.h;
  qb = s.moduli.qb;
  pb = s.moduli.pb;
  tb = s.moduli.tb;
  kappa = s.code.shape.kappa;
  f = s.code.shape.f;
  block = s.code.shape.block;
  lengths = kept_lengths s.code.shape;
}

-- the check lengths that numbers propose: two for each flip, and at most those of the table
abbrev pub proposed : KeptNumbers → List ℕ
proposed s = take (2 * s.f) s.lengths

-- the proposal has these numbers
pub record Proposes (p : LentProposal) (s : KeptNumbers) : Type 0 where
  pub n : p.n ≡ s.n
  pub h : p.h ≡ s.h
  pub qb : p.qb ≡ s.qb
  pub pb : p.pb ≡ s.pb
  pub tb : p.tb ≡ s.tb
  pub kappa : p.kappa ≡ s.kappa
  pub f : p.f ≡ s.f
  pub block : p.block ≡ s.block
  pub lengths : p.lengths.now ≡ proposed s

-- every proposal that has these numbers is lawful
abbrev pub LawfulNumbers : KeptNumbers → Type 0
LawfulNumbers s = (p : LentProposal) → Proposes p s → Lawful p
