use Rattle.std.proofs.Common.{◌≡◌, ℕ, List, ◌++◌, drop, codes}
use Rattle.std.specs.Fmt.{HasWritten, IsPlainFormatter}
use Rattle.words.specs.Calls.{behind_spaces, line_of}
use Rattle.words.proofs.call.LineDisplay.fmt.Given as goal

abbrev pub invariant-loop-number : goal.invariant-loop-number
invariant-loop-number g l = IsPlainFormatter l.fn.f → (done : List ℕ) × HasWritten g.W.Write.write_str_gives l.fn.f done l.f × (done ++ behind_spaces (drop l.number-index l.self.numbers.now) (codes ": " ++ l.self.sentence.now) ≡ line_of l.self.numbers.now l.self.sentence.now)
