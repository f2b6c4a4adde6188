-- What is proposed for a set, however its check lengths are held.
use Rattle.std.specs.Prelude.{ℕ, List}
use Rattle.std.specs.Borrow.{Bor}
use Rattle.params.specs.declared.proposal.ProposalOf.{ProposalOf}

-- the same numbers with other check lengths
abbrev pub with_lengths : {L M : Type 0} → ProposalOf L → M → ProposalOf M
with_lengths p lengths = record {
  n = p.n;
  h = p.h;
  qb = p.qb;
  pb = p.pb;
  tb = p.tb;
  kappa = p.kappa;
  f = p.f;
  block = p.block;
  lengths = lengths;
}

-- a proposal of check lengths that are lent, as sets are made from
abbrev pub LentProposal : Type 0
LentProposal = ProposalOf (Bor (List ℕ))
