-- The laws of a commutative group, of the values that fit their word.
use Rattle.std.specs.Prelude.{◌≡◌}

pub record GroupLaws {X : Type 0} (none : X) (plus minus : X → X → X) (fits : X → Type 0) : Type 0 where
  pub origin : fits none
  pub sum : (x y : X) → fits (plus x y)
  pub difference : (x y : X) → fits (minus x y)
  pub commutes : (x y : X) → plus x y ≡ plus y x
  pub associates : (x y z : X) → plus (plus x y) z ≡ plus x (plus y z)
  pub neutral : (x : X) → fits x → plus x none ≡ x
  pub inverse : (x y : X) → fits x → fits y → plus (minus x y) y ≡ x
