-- Bytes xored into a state, one run after the other.
use Rattle.std.proofs.Common.{◌≡◌, ℕ, zero, suc, ◌+◌, ◌<◌, ◌≤◌, List, [], ◌∷◌, ◌++◌, length, get_or, take, drop, set, replicate, sym, refl, ap, ◌∙◌, add-one, arith}
use lib.Bits.{bit_xor, xor_zero_r}
use borrow.Rule.Slice.PartMut.{put_mid}
use Rattle.shake.specs.Shake.{xored}

pub xored_nil : (s : List ℕ) → xored s [] ≡ s
xored_nil [] = refl
xored_nil (x ∷ s) = refl

same_head : (x y : ℕ) (s t : List ℕ) → x ≡ y → s ≡ t → x ∷ s ≡ y ∷ t
same_head x y s t p q = cc

-- one byte more of the run
more : (s run : List ℕ) (i : ℕ) → i < length s → i < length run
    → set (xored s (take i run)) i (bit_xor (get_or (xored s (take i run)) i 0) (get_or run i 0)) ≡ xored s (take (suc i) run)
more [] run i h l = absurd (omega arith)
more (x ∷ s) [] i h l = absurd (omega arith)
more (x ∷ s) (y ∷ run) zero h l = ap (λ (t : List ℕ). bit_xor x y ∷ t) (sym (xored_nil s))
more (x ∷ s) (y ∷ run) (suc i) h l = ap (λ (t : List ℕ). bit_xor x y ∷ t) (more s run i (omega arith) (omega arith))

pub xored_more : (s run t : List ℕ) (i : ℕ) → i < length s → i < length run → t ≡ xored s (take i run)
    → set t i (bit_xor (get_or t i 0) (get_or run i 0)) ≡ xored s (take (i + 1) run)
xored_more s run t i h l e =
    ap (λ (u : List ℕ). set u i (bit_xor (get_or u i 0) (get_or run i 0))) e ∙ more s run i h l ∙ ap (λ (n : ℕ). xored s (take n run)) (sym (add-one i))

-- a run after those bytes
pub xored_after : (s u v : List ℕ) → xored (xored s u) (replicate (length u) 0 ++ v) ≡ xored s (u ++ v)
xored_after [] u v = refl
xored_after (x ∷ s) [] v = refl
xored_after (x ∷ s) (y ∷ u) v = same_head _ _ _ _ (xor_zero_r (bit_xor x y)) (xored_after s u v)

-- one byte at place p
pub xored_at : (s : List ℕ) (p b : ℕ) → p < length s → xored s (replicate p 0 ++ b ∷ []) ≡ set s p (bit_xor (get_or s p 0) b)
xored_at [] p b h = absurd (omega arith)
xored_at (x ∷ s) zero b h = ap (λ (t : List ℕ). bit_xor x b ∷ t) (xored_nil s)
xored_at (x ∷ s) (suc p) b h = same_head _ _ _ _ (xor_zero_r x) (xored_at s p b (omega arith))

front : (s run : List ℕ) → length run ≤ length s → xored (take (length run) s) run ++ drop (length run) s ≡ xored s run
front s [] l = sym (xored_nil s)
front [] (x ∷ run) l = absurd (omega arith)
front (r ∷ s) (x ∷ run) l = ap (λ (t : List ℕ). bit_xor r x ∷ t) (front s run (omega arith))

part : (s run : List ℕ) (p : ℕ) → p + length run ≤ length s
    → put_mid p (length run) s (xored (take (length run) (drop p s)) run) ≡ xored s (replicate p 0 ++ run)
part s run zero l = front s run (omega arith)
part [] run (suc p) l = absurd (omega arith)
part (x ∷ s) run (suc p) l = same_head _ _ _ _ (sym (xor_zero_r x)) (part s run p (omega arith))

-- a run at place p, as a write of ys to that part of the state
pub xored_part : (s run ys : List ℕ) (p k : ℕ) → k ≡ length run → p + length run ≤ length s → ys ≡ xored (take k (drop p s)) run
    → put_mid p k s ys ≡ xored s (replicate p 0 ++ run)
xored_part s run ys p k n l e =
    ap (put_mid p k s) e ∙ ap (λ (j : ℕ). put_mid p j s (xored (take j (drop p s)) run)) n ∙ part s run p l
