-- What the laboratory's calls answer: raw read and gauge.
use Rattle.std.specs.Prelude.{◌≡◌, ℕ, ◌/◌, List, length, take, drop, ℤ, Ok, Result}
use Rattle.params.specs.Sizes.{parcel_length}
use Rattle.params.specs.declared.set.Set.{Set}
use Rattle.sampler.specs.declared.SamplerFault.{SamplerFault}
use Rattle.ring.specs.Cyclic.{cyclic_signed}
use Rattle.rounding.specs.Symbols.{rounded_product, cross_product, slips, noises}
use Rattle.code.specs.Words.{Bits}
use Rattle.wire.specs.Parcels.{parcel_content}
use Rattle.calls.specs.Chains.{Book, bind, lift, lift_form, Check, sized, areas_fit}
use Rattle.calls.specs.declared.refusal.Buffer.TheVariants.{Output}
use Rattle.calls.specs.declared.refusal.Input.TheVariants.{First, Second}
use Rattle.calls.specs.declared.refusal.Refusal.{Refusal}
use Rattle.calls.specs.declared.refusal.Refusal.TheVariants.{WrongBuffer, WrongInput}
use Rattle.scheme.specs.Scheme.{public_polynomial, secret_positions, bits_in}

-- what a raw read tests before any work
abbrev pub read_checks : Set → ℕ → ℕ → ℕ → List ℕ → List ℕ → Check
read_checks s raw secret_words product_words parcel seed =
    bind (sized raw s.code.mu (WrongBuffer Output)) (λ _.
    bind (areas_fit secret_words product_words) (λ _.
    bind (sized (length parcel) (parcel_length s) (WrongInput First (length parcel))) (λ _.
    bind (sized (length seed) 32 (WrongInput Second (length seed))) (λ _.
    lift_form (parcel_content s parcel)))))

-- the raw bits that the secret of a seed reads from a parcel
abbrev pub reading : Book → Set → List ℕ → List ℕ → Result (List ℕ) SamplerFault
reading B s seed parcel = bind (secret_positions B s seed) (λ x. Ok (bits_in s x parcel))

-- the answer of a raw read
abbrev pub raw_read : Book → Set → ℕ → ℕ → ℕ → List ℕ → List ℕ → Result (List ℕ) Refusal
raw_read B s raw secret_words product_words parcel seed =
    bind (read_checks s raw secret_words product_words parcel seed) (λ _. lift (reading B s seed parcel))

-- the noise of each symbol, between the till's secret with the positions x and the station's with the positions r; a is the public polynomial
abbrev pub noise_between : Set → List ℕ → List ℕ → List ℕ → List ℤ
noise_between s a x r =
    noises s.moduli s.code.mu
    (cyclic_signed s.n (slips s.moduli s.n a x) r)
    (cyclic_signed s.n (slips s.moduli s.n a r) x)
    (cross_product s.moduli s.n (rounded_product s.moduli s.n a x) r)

-- what a gauge tests before any work
abbrev pub gauge_checks : Set → ℕ → ℕ → ℕ → List ℕ → Check
gauge_checks s noise secret_words product_words seeds =
    bind (sized noise s.code.mu (WrongBuffer Output)) (λ _.
    bind (areas_fit secret_words product_words) (λ _.
    sized (length seeds) 96 (WrongInput First (length seeds))))

-- the noise that three seeds give: σ, the till's, the station's
abbrev pub gauging : Book → Set → List ℕ → Result (List ℤ) SamplerFault
gauging B s seeds =
    bind (public_polynomial B s (take 32 seeds)) (λ a.
    bind (secret_positions B s (take 32 (drop 32 seeds))) (λ x.
    bind (secret_positions B s (take 32 (drop 64 seeds))) (λ r.
    Ok (noise_between s a x r))))

-- what a gauge fills its buffer with; it answers how many of these are out of band
abbrev pub gauged : Book → Set → ℕ → ℕ → ℕ → List ℕ → Result (List ℤ) Refusal
gauged B s noise secret_words product_words seeds =
    bind (gauge_checks s noise secret_words product_words seeds) (λ _. lift (gauging B s seeds))

-- raw bits that can be corrected: μ of them, each 0 or 1, and room for a message
pub record Correctable (s : Set) (raw : List ℕ) (room : ℕ) : Type 0 where
  pub long : length raw ≡ s.code.mu
  pub whole : room ≡ s.code.shape.kappa / 8
  pub bits : Bits raw
