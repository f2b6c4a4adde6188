use Rattle.std.proofs.Common.{◌≡◌, ◌+◌, length, drop}
use Rattle.setfile.specs.Scan.{parts}
use Rattle.setfile.specs.Meaning.{nothing, put_lines}
use Rattle.setfile.proofs.file.read_lines.Given as goal

abbrev pub invariant-loop-i : goal.invariant-loop-i
invariant-loop-i l = put_lines 1 nothing (parts 10 l.text) ≡ put_lines (length l.yielded + 1) l.found (drop (length l.yielded) (parts 10 l.text))
