-- The line that tells why bytes are no rack file.
use Rattle.std.specs.Prelude.{ℕ, List, ◌++◌, codes, decimal}
use Rattle.rackfile.specs.declared.fault.RackFault.{RackFault}
use Rattle.rackfile.specs.declared.fault.RackFault.TheVariants.{Length, NoRack, Damaged}

abbrev pub fault_line : RackFault → List ℕ
fault_line (Length long) = codes "a rack file has 463 bytes, this has " ++ decimal long
fault_line NoRack = codes "not a rack file"
fault_line Damaged = codes "a damaged rack file"
