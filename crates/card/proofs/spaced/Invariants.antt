use Rattle.std.proofs.Common.{◌≡◌, ◌++◌, drop, string_bytes}
use Rattle.card.specs.Line.{spaced}
use Rattle.card.proofs.spaced.Given as goal

abbrev pub invariant-loop-x : goal.invariant-loop-x
invariant-loop-x l = string_bytes l.text ++ spaced (drop l.x-index l.numbers) ≡ spaced l.numbers
