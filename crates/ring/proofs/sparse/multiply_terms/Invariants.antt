use Rattle.std.proofs.Common.{◌≡◌, ℕ, ◌+◌, ◌<◌, cond, map, length, get_or, drop}
use Rattle.std.specs.List.{AllByRecursion}
use Rattle.ring.specs.Cyclic.{cyclic_in}
use Rattle.ring.proofs.Turns.{odd}
use Rattle.ring.proofs.sparse.multiply_terms.Given as goal

abbrev pub invariant-loop-j : goal.invariant-loop-j
invariant-loop-j g l =
    let m = g.T.Word.Group in
    let f = λ (j : ℕ). get_or (map g.T.Term.bare l.poly) j m.none in
    let product = cyclic_in m.none m.minus (length l.poly + 1) f in
    AllByRecursion m.fits l.out × ((k : ℕ) → k < length l.poly + 1 → cond (odd l.j) m.minus m.plus (get_or l.out k m.none) (product (drop l.j l.secret) k) ≡ product l.secret k)
