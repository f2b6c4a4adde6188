use Rattle.std.proofs.Common.{◌≡◌, ◌+◌, ◌-◌, ◌^◌, ◌<◌, cond, leb, length, get_or}
use Rattle.code.specs.Correcting.{number}
use Rattle.code.proofs.decide.decided_byte.Given as goal

abbrev pub invariant-loop-bit : goal.invariant-loop-bit
invariant-loop-bit l = record {
  small : l.byte < 2 ^ length l.yielded;
  number : l.byte ≡ number (length l.yielded) (λ q. cond (leb (l.f + 1) (get_or l.differing q 0)) (1 - get_or l.received q 0) (get_or l.received q 0));
}
