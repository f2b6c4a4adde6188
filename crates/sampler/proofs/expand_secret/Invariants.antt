-- The positions kept so far go on, with the values to come, to those of the whole list.
use Rattle.std.proofs.Common.{◌≡◌, ◌+◌, ◌*◌, [], length, take}
use Rattle.sampler.specs.Values.{values}
use Rattle.sampler.specs.Positions.{kept_from}
use Rattle.sampler.proofs.expand_secret.Given as goal

abbrev pub invariant-loop-chosen : goal.invariant-loop-chosen
invariant-loop-chosen g l =
    let s = g.S.Source in
    let chosen = l.chosen in
    record {
      book : s.book l.source ≡ s.book l.initial.source;
      lent : chosen.positions.ghost_name ≡ l.initial.chosen.positions.ghost_name;
      room : length chosen.positions.now ≡ length l.initial.chosen.positions.now;
      kept : kept_from l.n (take chosen.count chosen.positions.now) (values (s.rest l.source)) ≡ kept_from l.n [] (values (s.rest l.initial.source));
      drawn : l.bytes + 2 * length (values (s.rest l.source)) ≡ 2 * length (values (s.rest l.initial.source));
    }

abbrev pub decreases-loop-chosen : goal.decreases-loop-chosen
decreases-loop-chosen g l = length (values (g.S.Source.rest l.source))
