use Rattle.std.proofs.Common.{◌≡◌, take}
use Rattle.rounding.specs.Symbols.{out_of_band}
use Rattle.rounding.proofs.lists.out_of_band.Given as goal

abbrev pub invariant-loop-w : goal.invariant-loop-w
invariant-loop-w l = l.count ≡ out_of_band l.moduli (take l.w-index l.noise)
