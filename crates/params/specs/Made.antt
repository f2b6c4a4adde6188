-- What a set that was made holds.
use Rattle.std.specs.Prelude.{◌≡◌}
use Rattle.params.specs.Rules.{shape_of}
use Rattle.params.specs.Proposed.{LentProposal}
use Rattle.params.specs.declared.set.Set.{Set}

-- the set holds what was proposed
pub record Holds (s : Set) (p : LentProposal) : Type 0 where
  pub n : s.n ≡ p.n
  pub h : s.h ≡ p.h
  pub qb : s.moduli.qb ≡ p.qb
  pub pb : s.moduli.pb ≡ p.pb
  pub tb : s.moduli.tb ≡ p.tb
  pub code : s.code.shape ≡ shape_of p
