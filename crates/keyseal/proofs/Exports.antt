-- From what a call of the kit answers to what the library tells.
use Rattle.std.proofs.Common.{◌≡◌, ℕ, cond, eqb, List, get_or, Ok, Err, Result, sym, ap, ◌∙◌, subst, arith}
use Rattle.std.proofs.lemmas.Bool.{eq-eqb, ne_eqb, cond-true, cond-false}
use Rattle.params.specs.Rules.{Lawful, refusal_numbers as set-numbers}
use Rattle.params.specs.Made.{Holds}
use Rattle.params.specs.Proposed.{LentProposal}
use Rattle.params.specs.declared.proposal.SetFault.{SetFault}
use Rattle.params.specs.declared.proposal.SetFault.TheVariants.{Broken, Shared}
use Rattle.params.specs.declared.set.Set.{Set}
use Rattle.calls.specs.Chains.{Check, Answers}
use Rattle.calls.specs.Numbers.{refusal_numbers}
use Rattle.calls.specs.declared.refusal.Refusal.{Refusal}
use Rattle.calls.specs.declared.refusal.Refusal.TheVariants.{NoSuchPlace, EmptyPlace, PlaceInUse, WrongBuffer, WrongInput, Form, Short}
use Rattle.wire.specs.declared.fault.WireFault.TheVariants.{Length, Kind, Fill}
use Rattle.keyseal.specs.Told.{numbers_of, Says, if_done}
use Rattle.keyseal.specs.Exported.{left, Tells, Exported, on_set}

-- a call that answered r tells the answer that is defined
pub told : {X : Type 0} (answer : Result X Refusal) {is was : X} {k : ℕ} {words : List ℕ} (r : Check) → Answers r answer is was → Says k words (numbers_of r) → Tells k words is was answer
told answer {is} {was} {k} {words} (Ok u) e s = record { says = subst (λ a. Says k words (numbers_of a)) (sym e) s; leaves = sym (ap (left was) e) }
told answer {is} {was} {k} {words} (Err d) e s = record { says = subst (λ a. Says k words (numbers_of a)) (sym e.0) s; leaves = e.1 ∙ sym (ap (left was) e.0) }

-- a call on a set that was made
pub exported : {X : Type 0} {p : LentProposal} {k : ℕ} {words : List ℕ} {is was : X} {answer : Set → Result X Refusal} (s : Set) (r : Check) → Lawful p × Holds s p
    → Answers r (answer s) is was → Says k words (numbers_of r) → Exported p k words is was answer
exported s r made a t = on_set s made.0 made.1 (told _ r a t)

not_zero : (e : Refusal) → get_or (refusal_numbers e) 0 0 ≡ 0 → ⊥
not_zero (NoSuchPlace i) z = omega arith
not_zero (EmptyPlace i) z = omega arith
not_zero (PlaceInUse i) z = omega arith
not_zero (WrongBuffer b) z = omega arith
not_zero (WrongInput i n) z = omega arith
not_zero (Form (Length n)) z = omega arith
not_zero (Form (Kind b)) z = omega arith
not_zero (Form Fill) z = omega arith
not_zero (Short f) z = omega arith

-- 0 tells that a call was done
pub by_number : {X : Type 0} {is : X} (r : Check) {k : ℕ} {words : List ℕ} (x y : X) → is ≡ if_done r x y → Says k words (numbers_of r) → is ≡ cond (eqb k 0) x y
by_number (Ok u) {k} x y e s = e ∙ sym (cond-true (eqb k 0) x y (eq-eqb k 0 s.number))
by_number (Err d) {k} x y e s = e ∙ sym (cond-false (eqb k 0) x y (ne_eqb k 0 (λ z. not_zero d (sym s.number ∙ z))))

not_zero_fault : (e : SetFault) → get_or (set-numbers e) 0 0 ≡ 0 → ⊥
not_zero_fault (Broken r) z = omega arith
not_zero_fault (Shared a b) z = omega arith

-- and so no set fault does
pub by_fault : {X : Type 0} (e : SetFault) {k : ℕ} {words : List ℕ} (x y : X) → Says k words (set-numbers e) → y ≡ cond (eqb k 0) x y
by_fault e {k} x y s = sym (cond-false (eqb k 0) x y (ne_eqb k 0 (λ z. not_zero_fault e (sym s.number ∙ z))))
