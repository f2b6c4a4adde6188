-- Why raw bits are not corrected.
use Rattle.std.specs.Prelude.{◌≡◌, ◌≢◌, ℕ, ◌/◌, ◌<◌, List, length, slice_index}
use Rattle.params.specs.declared.set.Set.{Set}
use Rattle.code.specs.Words.{FirstBits}
use Rattle.lab.specs.declared.mend.RawFault.{RawFault}
use Rattle.lab.specs.declared.mend.RawFault.TheVariants.{Length, Room, Bit}

-- their number is told first, then the room, then the first that is no bit
abbrev pub Uncorrected : Set → List ℕ → ℕ → RawFault → Type 0
Uncorrected s raw room (Length long) = (long ≡ length raw) × (long ≢ s.code.mu)
Uncorrected s raw room (Room given) = (length raw ≡ s.code.mu) × (given ≡ room) × (given ≢ s.code.shape.kappa / 8)
Uncorrected s raw room (Bit place) =
    (length raw ≡ s.code.mu) × (room ≡ s.code.shape.kappa / 8) × (place < length raw) × (1 < slice_index raw place) × FirstBits place raw
