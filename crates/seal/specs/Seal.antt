-- What seal answers.
use Rattle.std.specs.Prelude.{ℕ, ◌/◌, List, length, Ok, Result}
use Rattle.params.specs.Sizes.{key_length, parcel_length}
use Rattle.params.specs.declared.set.Set.{Set}
use Rattle.sampler.specs.declared.SamplerFault.{SamplerFault}
use Rattle.wire.specs.Keys.{key_seed, key_b, key_content}
use Rattle.calls.specs.Chains.{Book, bind, lift, lift_form, Check, sized, areas_fit}
use Rattle.calls.specs.declared.refusal.Buffer.TheVariants.{Output, SecretOutput}
use Rattle.calls.specs.declared.refusal.Input.TheVariants.{First, Second}
use Rattle.calls.specs.declared.refusal.Refusal.{Refusal}
use Rattle.calls.specs.declared.refusal.Refusal.TheVariants.{WrongBuffer, WrongInput}
use Rattle.scheme.specs.Scheme.{public_polynomial, encrypted, l_of, secret_from}

-- what a seal writes: a parcel and the station's secret
pub record Sealed : Type 0 where
  pub parcel : List ℕ
  pub secret : List ℕ

abbrev pub both : List ℕ → List ℕ → Sealed
both parcel secret = record { parcel = parcel; secret = secret }

-- what is tested before any work, in the order of the refusals
abbrev pub seal_checks : Set → ℕ → ℕ → ℕ → ℕ → List ℕ → List ℕ → Check
seal_checks s parcel secret secret_words product_words key m =
    bind (sized parcel (parcel_length s) (WrongBuffer Output)) (λ _.
    bind (sized secret 32 (WrongBuffer SecretOutput)) (λ _.
    bind (areas_fit secret_words product_words) (λ _.
    bind (sized (length key) (key_length s) (WrongInput First (length key))) (λ _.
    bind (sized (length m) (s.code.shape.kappa / 8) (WrongInput Second (length m))) (λ _.
    lift_form (key_content s key))))))

-- the parcel of a message to a key, and the station's secret
abbrev pub sealing : Book → Set → List ℕ → List ℕ → Result Sealed SamplerFault
sealing B s key m =
    bind (public_polynomial B s (key_seed key)) (λ a.
    bind (encrypted B s a (key_b s key) key m) (λ parcel.
    Ok (both parcel (secret_from (l_of m key) parcel))))

-- the answer, by the lengths of the four buffers lent and the two inputs
abbrev pub sealed : Book → Set → ℕ → ℕ → ℕ → ℕ → List ℕ → List ℕ → Result Sealed Refusal
sealed B s parcel secret secret_words product_words key m =
    bind (seal_checks s parcel secret secret_words product_words key m) (λ _. lift (sealing B s key m))
