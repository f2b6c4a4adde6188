-- The table tells whether a position is kept already.
use Rattle.std.proofs.Common.{◌≡◌, ℕ, ◌+◌, ◌/◌, List, [], ◌∷◌, ◌++◌, take, set, sym, subst, arith, length-set}
use Rattle.std.proofs.lemmas.List.{take_more_set}
use Rattle.sampler.specs.Positions.{share, Marked}
use Rattle.sampler.proofs.Table.{position_below, marked_push}
use Rattle.sampler.proofs.Chosen.keep.Goals as goal

pub invariant_of-self : goal.invariant_of-self
invariant_of-self c =
    let k = c.args.self.now in
    let ps : List ℕ = take k.count k.positions.now in
    let p : ℕ = c.args.value / share c.args.n in
    let below = position_below c.args.n c.args.value (omega arith) c.requires.range.1 c.if-value-share.true in
    let more : take (k.count + 1) (set k.positions.now k.count p) ≡ ps ++ (p ∷ []) = take_more_set k.positions.now k.count p c.requires.room in
    record {
      size = omega (arith, length-set {A = ℕ});
      within = omega (arith, length-set {A = ℕ});
      marked = subst (Marked (set k.table p 1)) (sym more) (marked_push k.table ps p (omega arith) k.marked);
    }
