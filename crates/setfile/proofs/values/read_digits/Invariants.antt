use Rattle.std.proofs.Common.{◌≡◌, ◌≤◌, drop}
use Rattle.setfile.specs.Values.{largest, digits_of}
use Rattle.setfile.proofs.values.read_digits.Given as goal

abbrev pub invariant-loop-i : goal.invariant-loop-i
invariant-loop-i l = (digits_of 0 l.s ≡ digits_of l.sum (drop l.i l.s)) × (l.sum ≤ largest)
