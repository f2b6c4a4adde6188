use Rattle.std.proofs.Common.{ℕ, ◌+◌, ◌<◌, cond, length, get_or, sym, subst, arith}
use Rattle.std.proofs.ByRecursion.{All-from_get_or, All-get_or}
use Rattle.ring.proofs.Algebra.{kept, step_fits}
use Rattle.ring.proofs.Runs.{two_parts}
use Rattle.ring.proofs.sparse.shifted.Goals as goal

pub returns : goal.returns
returns g c =
    let m = g.T.Word.Group in
    let G = g.met.T.Word.Group.laws in
    let off = c.args.subtract in
    let xs = c.args.out.now in
    let halves = c.split_at_mut-low.ensures in
    let parts = c.split_at.ensures in
    let each = λ (k : ℕ) (lt : k < length c.args.poly.now + 1).
    two_parts (cond off m.minus m.plus) g.T.Term.bare xs c.run.new.dst c.run-2.new.dst _ _ c.args.poly.now _ _ c.args.p c.min.result k m.none c.requires.long c.requires.within halves.front halves.back (omega arith) parts.front parts.back c.run.ensures c.run-2.ensures lt
    (kept m.none m.plus m.minus m.fits G off (get_or xs k m.none) (All-get_or m.fits xs k m.none (omega arith) c.requires.fit)) in
    record {
      each = each;
      fit = All-from_get_or m.fits _ m.none (λ k h. subst m.fits (sym (each k (omega arith))) (step_fits m.none m.plus m.minus m.fits G off _ _));
    }
