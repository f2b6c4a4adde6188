use Rattle.std.proofs.Common.{◌≡◌, ℕ, ◌+◌, ◌*◌, ◌<◌, List, get_or, drop, ap, ◌∙◌, arith}
use Rattle.std.proofs.lemmas.List.{get_or-take, get_or-drop}
use Rattle.shake.specs.Shake.{lane_at}
use Rattle.shake.proofs.lane.Goals as goal

pub returns : goal.returns
unfolding lane_at
returns c =
    let start : ℕ = 8 * c.args.k in
    let eight = c.copy_from_slice.new.self in
    let byte : (i j : ℕ) → i < 8 → 8 * c.args.k + i ≡ j → get_or c.copy_from_slice.new.self i 0 ≡ get_or c.args.bytes.now j 0 =
    λ i j h e.
    ap (λ (t : List ℕ). get_or t i 0) c.copy_from_slice.ensures.after
    ∙ get_or-take _ (drop start c.args.bytes.now) i 0 (omega arith)
    ∙ get_or-drop start c.args.bytes.now i 0 ∙ ap (λ (n : ℕ). get_or c.args.bytes.now n 0) e in
    let b0 = byte 0 start (omega arith) (omega arith) in
    let b1 = byte 1 (start + 1) (omega arith) (omega arith) in
    let b2 = byte 2 (start + 2) (omega arith) (omega arith) in
    let b3 = byte 3 (start + 3) (omega arith) (omega arith) in
    let b4 = byte 4 (start + 4) (omega arith) (omega arith) in
    let b5 = byte 5 (start + 5) (omega arith) (omega arith) in
    let b6 = byte 6 (start + 6) (omega arith) (omega arith) in
    let b7 = byte 7 (start + 7) (omega arith) (omega arith) in
    c.from_le_bytes.ensures ∙ cc
