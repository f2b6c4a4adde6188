use Rattle.std.proofs.Common.{sym, subst, arith}
use Rattle.std.proofs.ByRecursion.{All-from_get_or, All-get_or}
use Rattle.ring.proofs.Listing.{listed_by, get_d_map_holds}
use Rattle.ring.proofs.Turns.{rest_none, rest_more, rest_all}
use Rattle.ring.proofs.sparse.multiply_terms.Goals as goal

pub loop-j-init : goal.loop-j-init
loop-j-init g c =
    let m = g.T.Word.Group in (
      All-from_get_or m.fits c.clear.new.out m.none (λ k h. subst m.fits (sym (c.clear.ensures k h)) g.met.T.Word.Group.laws.origin),
      λ k lt. rest_none m.none m.plus m.minus m.fits g.met.T.Word.Group.laws _ _ (get_d_map_holds m.fits g.T.Term.bare m.none g.met.T.Word.Group.laws.origin g.met.T.Term.whole c.args.poly.now) c.args.secret.now k _ (c.clear.ensures k (omega arith)),
    )

pub shifted-requires : goal.shifted-requires
shifted-requires g c = record { long = omega arith; within = c.requires.within c.loop-j.j c.loop-j-test.true; fit = c.loop-j.invariant.0 }

pub loop-j-preserved : goal.loop-j-preserved
loop-j-preserved g c =
    let m = g.T.Word.Group in (
      c.shifted.ensures.fit,
      λ k lt. rest_more m.none m.plus m.minus m.fits g.met.T.Word.Group.laws _ _ (get_d_map_holds m.fits g.T.Term.bare m.none g.met.T.Word.Group.laws.origin g.met.T.Term.whole c.args.poly.now) c.args.secret.now k c.loop-j.j _ _ c.loop-j-test.true (All-get_or m.fits c.loop-j.out k m.none (omega arith) c.loop-j.invariant.0) (c.loop-j.invariant.1 k lt) (c.shifted.ensures.each k lt),
    )

pub returns : goal.returns
returns g c =
    let m = g.T.Word.Group in
    listed_by _ _ c.loop-j.out m.none (omega arith)
    (λ k lt. rest_all m.none m.plus m.minus m.fits g.met.T.Word.Group.laws _ _ (get_d_map_holds m.fits g.T.Term.bare m.none g.met.T.Word.Group.laws.origin g.met.T.Term.whole c.args.poly.now) c.args.secret.now k c.loop-j.j _ c.loop-j-test.false (All-get_or m.fits c.loop-j.out k m.none (omega arith) c.loop-j.invariant.0) (c.loop-j.invariant.1 k lt))
