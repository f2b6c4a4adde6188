use Rattle.std.proofs.Common.{◌≡◌, length, drop}
use Rattle.setfile.specs.Scan.{parts}
use Rattle.setfile.specs.Values.{no_lengths, keep_parts}
use Rattle.setfile.proofs.values.read_lengths.Given as goal

abbrev pub invariant-loop-part : goal.invariant-loop-part
invariant-loop-part l = keep_parts no_lengths (parts 44 l.s) ≡ keep_parts l.lengths (drop (length l.yielded) (parts 44 l.s))
