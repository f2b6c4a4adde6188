use Rattle.std.proofs.Common.{◌≡◌, ℕ, ◌+◌, ◌-◌, ◌*◌, ◌<◌, List, [], ◌++◌, length, get_or, take, sym, ap, ◌∙◌, arith, rules}
use Rattle.std.specs.List.{flat_map}
use Rattle.std.proofs.lemmas.List.{places, flat_map_more, take_more}
use Rattle.std.proofs.lemmas.Slice.{take-put_mid}
use Rattle.shake.specs.Shake.{lane_bytes}
use Rattle.shake.proofs.bytes.Goals as goal

pub loop-k-preserved : goal.loop-k-preserved
loop-k-preserved c =
    let k = c.loop-k.k in
    let ls = c.args.lanes.now in
    let e : c.copy_from_slice.new.self ≡ lane_bytes (get_or c.args.lanes.now c.loop-k.k 0) = c.copy_from_slice.ensures.after ∙ c.to_le_bytes.ensures in
    let n : length c.copy_from_slice.new.self ≡ 8 = ap length e in
    let h : c.loop-k.k < length c.args.lanes.now = omega arith in (
      search (rules, places),
      take-put_mid (8 * k) (8 * k + 8 - 8 * k) c.loop-k.bytes c.copy_from_slice.new.self (8 * (k + 1)) (omega arith) (omega arith)
          ∙ ap (λ (t : List ℕ). t ++ c.copy_from_slice.new.self) c.loop-k.invariant.1
          ∙ ap (λ (t : List ℕ). flat_map lane_bytes (take k ls) ++ t) e
          ∙ flat_map_more lane_bytes [] (take k ls) (get_or ls k 0)
          ∙ ap (flat_map lane_bytes) (sym (take_more ls k 0 h)),
    )
