use Rattle.std.proofs.Common.{◌≡◌, ◌*◌, length, take}
use Rattle.std.specs.List.{flat_map}
use Rattle.shake.specs.Shake.{lane_bytes}
use Rattle.shake.proofs.bytes.Given as goal

abbrev pub invariant-loop-k : goal.invariant-loop-k
invariant-loop-k l = (length l.bytes ≡ 200) × (take (8 * l.k) l.bytes ≡ flat_map lane_bytes (take l.k l.lanes))
