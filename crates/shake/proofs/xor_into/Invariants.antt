use Rattle.std.proofs.Common.{◌≡◌, take}
use Rattle.shake.specs.Shake.{xored}
use Rattle.shake.proofs.xor_into.Given as goal

abbrev pub invariant-loop-i : goal.invariant-loop-i
invariant-loop-i l = l.front ≡ xored l.initial.front (take l.i l.bytes)
