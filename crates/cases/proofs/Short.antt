-- A raw read over a tape that is too short.
use Rattle.std.proofs.Common.{◌≡◌, ℕ, List, [], Ok, Err, Result, refl, ap, ◌∙◌, ap₂}
use Rattle.source.specs.declared.SourceFault.TheVariants as Source
use Rattle.params.specs.declared.set.Set.{Set}
use Rattle.sampler.specs.Expanded.{expanded_secret}
use Rattle.sampler.specs.declared.SamplerFault.{SamplerFault}
use Rattle.calls.specs.Areas.{area_words}
use Rattle.calls.specs.Chains.{Check, bind, lift}
use Rattle.calls.specs.declared.refusal.Refusal.{Refusal}
use Rattle.calls.specs.declared.refusal.Refusal.TheVariants.{Short}
use Rattle.scheme.specs.Scheme.{secret_positions, bits_in}
use Rattle.lab.specs.Lab.{read_checks, raw_read, reading}
use Rattle.cases.specs.Cases.{short_tape}

-- the fault: the source's, label 2, entry 1, 6 bytes
abbrev fault : SamplerFault
fault = record { source = Source.Short; label = 2; entry = 1; bytes = 6 }

-- the first six bytes keep one position of the two
short_secret : expanded_secret 10 2 (short_tape 2 []) ≡ Err fault
unfolding expanded_secret
short_secret = refl

pub runs_short : (s : Set) (parcel seed : List ℕ) → s.n ≡ 10 → s.h ≡ 2
    → read_checks s s.code.mu area_words area_words parcel seed ≡ Ok tt
    → raw_read short_tape s s.code.mu area_words area_words parcel seed ≡ Err (Short fault)
runs_short s parcel seed en eh passes =
    let answers : Unit {0} → Result (List ℕ) Refusal = λ _. lift (reading short_tape s seed parcel) in
    let short : secret_positions short_tape s seed ≡ Err fault = ap₂ (λ (n h : ℕ). expanded_secret n h (short_tape 2 [])) en eh ∙ short_secret in
    ap (λ (v : Check). bind v answers) passes ∙ ap (λ (v : Result (List ℕ) SamplerFault). lift (bind v (λ x. Ok (bits_in s x parcel)))) short
