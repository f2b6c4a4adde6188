-- What is so of every expansion.
use Rattle.std.specs.Prelude.{◌≡◌, ℕ, ◌+◌, ◌*◌, ◌^◌, ◌<◌, ◌≤◌, ◌≢◌, List, [], ◌∷◌, length}
use Rattle.std.specs.List.{AllByRecursion}
use Rattle.source.specs.declared.SourceFault.TheVariants.{Short}
use Rattle.sampler.specs.declared.SamplerFault.{SamplerFault}
use Rattle.sampler.specs.Values.{values}

-- No number stands twice in the list.
abbrev pub Distinct : List ℕ → Type 0
Distinct [] = Unit {0}
Distinct (x ∷ xs) = AllByRecursion (λ y. x ≢ y) xs × Distinct xs

-- n coefficients modulo 2 ^ qb.
pub record Reduced (qb n : ℕ) (coefficients : List ℕ) : Type 0 where
  pub count : length coefficients ≡ n
  pub below : AllByRecursion (λ a. a < 2 ^ qb) coefficients

-- h distinct positions below n.
pub record Picked (n h : ℕ) (positions : List ℕ) : Type 0 where
  pub count : length positions ≡ h
  pub below : AllByRecursion (λ p. p < n) positions
  pub distinct : Distinct positions

-- What the fault tells when an expansion under the label `tag` wants `room` entries and its list has too few values: the
-- source's fault, the label, an entry that was wanted, and the bytes drawn, two for each value. Less than a value is left.
pub record Shortfall (tag room : ℕ) (list : List ℕ) (fault : SamplerFault) : Type 0 where
  pub source : fault.source ≡ Short
  pub label : fault.label ≡ tag
  pub entry : fault.entry < room
  pub bytes : fault.bytes ≡ 2 * length (values list)
  pub within : fault.bytes ≤ length list
  pub left : length list < fault.bytes + 2
