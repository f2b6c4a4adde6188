-- The coefficients made so far, and then those of the values to come, are those of the whole list.
use Rattle.std.proofs.Common.{◌≡◌, ◌++◌, take}
use Rattle.sampler.specs.Values.{values, residues}
use Rattle.sampler.proofs.expand_public.Given as goal

abbrev pub invariant-loop-index : goal.invariant-loop-index
invariant-loop-index g l =
    let s = g.S.Source in
    record {
      book : s.book l.source ≡ s.book l.initial.source;
      made : residues l.qb (values (s.rest l.initial.source)) ≡ take l.index l.out ++ residues l.qb (values (s.rest l.source));
    }
