-- A chain of steps, taken apart and put together.
use Rattle.std.proofs.Common.{◌≡◌, ℕ, Bool, true, false, cond, eqb, Ok, Err, Result, refl, ap, ◌∙◌}
use Rattle.std.proofs.lemmas.Bool.{eq-eqb, eqb-true, cond-true}
use Rattle.sampler.specs.declared.SamplerFault.{SamplerFault}
use Rattle.calls.specs.Chains.{bind, lift, Check, sized}
use Rattle.calls.specs.declared.refusal.Buffer.{Buffer}
use Rattle.calls.specs.declared.refusal.Refusal.{Refusal}
use Rattle.calls.specs.declared.refusal.Refusal.TheVariants.{WrongBuffer, Short}

-- a chain that is not refused: its first step is not, and then the rest is not
pub bind_ok : {X Y E : Type 0} (r : Result X E) (f : X → Result Y E) (y : Y) → bind r f ≡ Ok y → (x : X) × (r ≡ Ok x) × (f x ≡ Ok y)
bind_ok (Ok x) f y e = (x, refl, e)
bind_ok (Err d) f y e = cc

-- a chain whose first step answers x goes on with x
pub bind_is : {X Y E : Type 0} (r : Result X E) (f : X → Result Y E) {x : X} {w : Result Y E} → r ≡ Ok x → f x ≡ w → bind r f ≡ w
bind_is r f e rest = ap (λ v. bind v f) e ∙ rest

-- a test that passes, and what follows it
pub then_is : {Y : Type 0} (r : Check) (rest : Result Y Refusal) {w : Result Y Refusal} → r ≡ Ok tt → rest ≡ w → bind r (λ _. rest) ≡ w
then_is r rest e f = bind_is r (λ _. rest) e f

-- two answers that are equal have equal values
pub ok_same : {X E : Type 0} {x y : X} → ◌≡◌ {A = Result X E} (Ok x) (Ok y) → x ≡ y
ok_same e = cc

-- a call that is not refused: its sampling is not
pub lift_ok : {X : Type 0} (r : Result X SamplerFault) (x : X) → lift r ≡ Ok x → r ≡ Ok x
lift_ok (Ok y) x e = let p : y ≡ x = cc in ap Ok p
lift_ok (Err d) x e = cc

-- a length that is the one wanted passes
pub sized_is : (have want : ℕ) (e : Refusal) → have ≡ want → sized have want e ≡ Ok tt
sized_is have want e h = cond-true (eqb have want) (Ok tt) (Err e) (eq-eqb have want h)

tested : (t : Bool) (e : Refusal) → cond t (Ok (tt {0})) (Err e) ≡ Ok (tt {0}) → t ≡ true
tested true e h = refl
tested false e h = cc

-- and what passes is the length wanted
pub sized_ok : (have want : ℕ) (e : Refusal) → sized have want e ≡ Ok tt → have ≡ want
sized_ok have want e h = eqb-true have want (tested (eqb have want) e h)

-- not refused for want of bytes
abbrev pub Enough : {X : Type 0} → Result X Refusal → Type 0
Enough r = (e : SamplerFault) → r ≡ Err (Short e) → ⊥

-- so is a chain of which no step is
pub enough_bind : {X Y : Type 0} (r : Result X Refusal) (f : X → Result Y Refusal) → Enough r → ((x : X) → r ≡ Ok x → Enough (f x)) → Enough (bind r f)
enough_bind (Ok x) f h k = k x refl
enough_bind (Err d) f h k = λ e p. let q : d ≡ Short e = cc in h e (ap Err q)

by_test : (t : Bool) (b : Buffer) → Enough {X = Unit {0}} (cond t (Ok (tt {0})) (Err (WrongBuffer b)))
by_test true b e p = cc
by_test false b e p = cc

-- the test of a buffer's length
pub enough_sized : (have want : ℕ) (b : Buffer) → Enough (sized have want (WrongBuffer b))
enough_sized have want b = by_test (eqb have want) b

-- sampling that has its value
pub enough_lift : {X : Type 0} (r : Result X SamplerFault) (x : X) → r ≡ Ok x → Enough (lift r)
enough_lift r x q e p = let h : lift r ≡ Ok x = ap lift q in cc
