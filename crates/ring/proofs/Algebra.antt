-- What the laws of a commutative group give, as far as the product needs it.
use Rattle.std.proofs.Common.{◌≡◌, ℕ, Bool, true, false, cond, not, List, [], ◌∷◌, sym, ap, ◌∙◌}
use Rattle.ring.specs.GroupLaws.{GroupLaws}
use Rattle.ring.specs.Cyclic.{cyclic_in}

module _ {X : Type 0} (none : X) (plus minus : X → X → X) (fits : X → Type 0) (G : GroupLaws none plus minus fits) where
  undone : (u z : X) → fits u → fits z → plus (plus u z) (minus none z) ≡ u
  undone u z fu fz =
      G.associates u z (minus none z)
      ∙ ap (plus u) (G.commutes z (minus none z) ∙ G.inverse none z G.origin fz)
      ∙ G.neutral u fu

  cancels : (u v z : X) → fits u → fits v → fits z → plus u z ≡ plus v z → u ≡ v
  cancels u v z fu fv fz e = sym (undone u z fu fz) ∙ ap (λ w. plus w (minus none z)) e ∙ undone v z fv fz

  -- a + x - z = a + (x - z)
  add_less : (a x z : X) → fits x → fits z → minus (plus a x) z ≡ plus a (minus x z)
  add_less a x z fx fz =
      cancels (minus (plus a x) z) (plus a (minus x z)) z (G.difference (plus a x) z) (G.sum a (minus x z)) fz
      (G.inverse (plus a x) z (G.sum a x) fz ∙ sym (G.associates a (minus x z) z ∙ ap (plus a) (G.inverse x z fx fz)))

  -- a - x + z = a - (x - z)
  less_less : (a x z : X) → fits a → fits x → fits z → plus (minus a x) z ≡ minus a (minus x z)
  less_less a x z fa fx fz =
      let w = minus x z in
      cancels (plus (minus a x) z) (minus a w) w (G.sum (minus a x) z) (G.difference a w) (G.difference x z)
      (G.associates (minus a x) z w ∙ ap (plus (minus a x)) (G.commutes z w ∙ G.inverse x z fx fz) ∙ G.inverse a x fa fx ∙ sym (G.inverse a w fa (G.difference x z)))

  -- a step by x and a step the other way by z are one step by x - z
  pub turned : (b : Bool) (a x z : X) → fits a → fits x → fits z → cond (not b) minus plus (cond b minus plus a x) z ≡ cond b minus plus a (minus x z)
  turned true a x z fa fx fz = less_less a x z fa fx fz
  turned false a x z fa fx fz = add_less a x z fx fz

  -- a step by none changes nothing
  pub kept : (b : Bool) (x : X) → fits x → cond b minus plus x none ≡ x
  kept true x h = sym (G.neutral (minus x none) (G.difference x none)) ∙ G.inverse x none h G.origin
  kept false x h = G.neutral x h

  -- from none, a step by x is x
  pub from_none : (x : X) → fits x → plus none x ≡ x
  from_none x h = G.commutes none x ∙ G.neutral x h

  pub step_fits : (b : Bool) (x y : X) → fits (cond b minus plus x y)
  step_fits true x y = G.difference x y
  step_fits false x y = G.sum x y

  pub cyclic_fits : (m : ℕ) (f : ℕ → X) (ps : List ℕ) (i : ℕ) → fits (cyclic_in none minus m f ps i)
  unfolding cyclic_in
  cyclic_fits m f [] i = G.origin
  cyclic_fits m f (p ∷ ps) i = G.difference _ _
