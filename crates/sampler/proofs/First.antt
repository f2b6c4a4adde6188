-- The first entries made, or the fault that tells how many there were.
use Rattle.std.proofs.Common.{◌≡◌, ℕ, ◌*◌, ◌<◌, ◌≤◌, List, ◌++◌, length, take, Ok, Err, ap, arith, length-append}
use Rattle.std.proofs.lemmas.List.{take_at}
use Rattle.std.proofs.lemmas.Grind.{common_steps}
use Rattle.std.proofs.lemmas.Bool.Decides.{nat_tests}
use Rattle.source.specs.declared.SourceFault.TheVariants.{Short}
use Rattle.sampler.specs.declared.SamplerFault.{SamplerFault}
use Rattle.sampler.specs.Values.{values}
use Rattle.sampler.specs.Expanded.{first_of}
use Rattle.sampler.specs.Facts.{Shortfall}
use Rattle.sampler.proofs.Drawn.{values_span}

-- The entries made stand first.
pub first_made : (label count : ℕ) (entries vs made more : List ℕ) → entries ≡ made ++ more → length made ≡ count → first_of label count entries vs ≡ Ok made
first_made label count entries vs made more e l = let long = ap length e in grind (arith, common_steps, nat_tests, length-append, take_at)

-- Too few were made.
pub first_short : (label count entry bytes : ℕ) (entries vs : List ℕ) → length entries ≡ entry → 2 * length vs ≡ bytes → entry < count → first_of label count entries vs ≡ Err (record { source = Short; label = label; entry = entry; bytes = bytes })
first_short label count entry bytes entries vs e b l = grind (arith, common_steps, nat_tests)

-- What was made is long enough, and the answer is its front.
pub first_front : (label count : ℕ) (entries vs out : List ℕ) → first_of label count entries vs ≡ Ok out → (count ≤ length entries) × (take count entries ≡ out)
first_front label count entries vs out e = grind (arith, common_steps, nat_tests)

-- A fault tells where the list ran short.
pub first_shortfall : (label count : ℕ) (entries list : List ℕ) (fault : SamplerFault) → first_of label count entries (values list) ≡ Err fault → Shortfall label count list fault
first_shortfall label count entries list fault e = let span = values_span list in grind (arith, common_steps, nat_tests)
