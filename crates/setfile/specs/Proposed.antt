-- What a draft proposes for a set.
use Rattle.std.specs.Prelude.{◌≡◌}
use Rattle.params.specs.Proposed.{LentProposal}
use Rattle.setfile.specs.Values.{given_lengths}
use Rattle.setfile.specs.Meaning.{Draft}

-- the proposal has the draft's numbers, lengths and mark
pub record Proposes (p : LentProposal) (d : Draft) : Type 0 where
  pub n : p.n ≡ d.n
  pub h : p.h ≡ d.h
  pub qb : p.qb ≡ d.qb
  pub pb : p.pb ≡ d.pb
  pub tb : p.tb ≡ d.tb
  pub kappa : p.kappa ≡ d.kappa
  pub f : p.f ≡ d.f
  pub block : p.block ≡ d.block
  pub lengths : p.lengths.now ≡ given_lengths d.lengths
