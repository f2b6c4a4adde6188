-- The refusals of keys and parcels.
use Rattle.std.specs.Prelude.{ℕ, cond, List, [], ◌∷◌, Ok, Err, Result, ◌==◌}
use Rattle.pack.specs.Packing.{fill_after}
use Rattle.wire.specs.declared.fault.WireFault.{WireFault}
use Rattle.wire.specs.declared.fault.WireFault.TheVariants.{Length, Kind, Fill}

-- the number of a refusal, and its values; a key or a parcel is input 1 of every call that takes one
abbrev pub fault_numbers : WireFault → List ℕ
fault_numbers (Length had) = 14 ∷ 1 ∷ had ∷ []
fault_numbers (Kind byte) = 15 ∷ byte ∷ []
fault_numbers Fill = 16 ∷ []

-- a run of k bits as bytes: refused where a fill bit is not zero
abbrev pub run_form : ℕ → List ℕ → Result (Unit {0}) WireFault
run_form k run = cond (fill_after k run == 0) (Ok tt) (Err Fill)
