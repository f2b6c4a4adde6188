-- An answer as a chain of steps: the first that fails gives the refusal.
use Rattle.std.specs.Prelude.{◌≡◌, ℕ, cond, List, Ok, Err, Result, ◌==◌}
use Rattle.sampler.specs.declared.SamplerFault.{SamplerFault}
use Rattle.wire.specs.declared.fault.WireFault.{WireFault}
use Rattle.calls.specs.declared.refusal.Refusal.{Refusal}
use Rattle.calls.specs.declared.refusal.Refusal.TheVariants.{WrongBuffer, Form, Short}
use Rattle.calls.specs.declared.refusal.Buffer.TheVariants.{SecretArea, ProductArea}
use Rattle.calls.specs.Areas.{area_words}

-- a book: the list of bytes for each label and seed
abbrev pub Book : Type 0
Book = ℕ → List ℕ → List ℕ

-- one step, and what follows it
abbrev pub bind : {X Y E : Type 0} → Result X E → (X → Result Y E) → Result Y E
bind (Ok x) f = f x
bind (Err e) f = Err e

-- the sampler's fault, kept whole in the call's refusal
abbrev pub lift : {X : Type 0} → Result X SamplerFault → Result X Refusal
lift (Ok x) = Ok x
lift (Err e) = Err (Short e)

-- a fault in the bytes of a key or parcel, kept whole likewise
abbrev pub lift_form : {X : Type 0} → Result X WireFault → Result X Refusal
lift_form (Ok x) = Ok x
lift_form (Err e) = Err (Form e)

-- a test that answers nothing or refuses
abbrev pub Check : Type 0
Check = Result (Unit {0}) Refusal

-- a length that must be the one wanted
abbrev pub sized : ℕ → ℕ → Refusal → Check
sized have want e = cond (have == want) (Ok tt) (Err e)

-- What a call answered, r, against the answer that is defined: it wrote the outputs that the answer has, or it refused as the answer does
-- and the outputs are as they were.
abbrev pub Answers : {X : Type 0} → Check → Result X Refusal → X → X → Type 0
Answers (Ok u) answer is was = answer ≡ Ok is
Answers (Err e) answer is was = (answer ≡ Err e) × (is ≡ was)

-- the two working areas, by their lengths
abbrev pub areas_fit : ℕ → ℕ → Check
areas_fit secret_words product_words =
    bind (sized secret_words area_words (WrongBuffer SecretArea)) (λ _. sized product_words area_words (WrongBuffer ProductArea))
