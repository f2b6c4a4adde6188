-- The blocks of a message whose first bytes, u, are in the state already, with 0 in their place.
use Rattle.std.proofs.Common.{◌≡◌, ℕ, suc, ◌+◌, ◌-◌, ◌/◌, ◌%◌, ◌<◌, ◌≤◌, false, eqb, List, [], ◌∷◌, ◌++◌, length, get_or, take, drop, set, replicate, sym, refl, ap, ◌∙◌, subst, inl, inr, append_assoc, append-nil, arith, length-append, length-set, ne_eqb}
use lib.Bits.{bit_xor, xor_assoc}
use lib.ListN.{replicate-append-replicate}
use lib.Seq.{take-append-add, drop-append-add}
use borrow.Rule.Slice.PartMut.{put_mid}
use Rattle.std.proofs.lemmas.List.{take_all, take_at, drop_at, length-replicate, get_or-set_same, set-set}
use Rattle.std.proofs.lemmas.Bool.{cases_eq}
use Rattle.shake.specs.Shake.{rate, padding, padded, permuted, xored, absorbed, ended}
use Rattle.shake.proofs.Xor.{xored_after, xored_at, xored_part}

padding_more : (q : ℕ) → 2 ≤ q → padding q ≡ 0x1f ∷ (replicate (q - 2) 0 ++ 0x80 ∷ [])
padding_more q h = let e : eqb q 1 ≡ false = ne_eqb q 1 (λ e. omega arith) in rw e

length_padding : (q : ℕ) → 1 ≤ q → length (padding q) ≡ q
length_padding q h =
    elim (cases_eq q 1) [
      | inl e ↦ subst (λ (k : ℕ). length (padding k) ≡ k) (sym e) refl
      | inr n ↦ ap length (padding_more q (omega arith)) ∙ simp (length-append, length-replicate) (omega arith)
    ]

-- a message of l bytes and its padding
ended_by : (s m : List ℕ) (l : ℕ) → length m ≡ l → ended s m ≡ absorbed (suc (l / rate)) s (m ++ padding (rate - l % rate))
unfolding ended padded
ended_by s m l e =
    let n : length (padding (rate - l % rate)) ≡ rate - l % rate = length_padding (rate - l % rate) (omega arith) in
    let b : length (m ++ padding (rate - l % rate)) / rate ≡ suc (l / rate) = simp length-append (omega arith) in
    ap (λ (k : ℕ). absorbed (length (m ++ padding (rate - k % rate)) / rate) s (m ++ padding (rate - k % rate))) e
    ∙ ap (λ (k : ℕ). absorbed k s (m ++ padding (rate - l % rate))) b

take_past : (u w : List ℕ) (k n : ℕ) → length u + k ≡ n → take n (u ++ w) ≡ u ++ take k w
take_past u w k n e = ap (λ (i : ℕ). take i (u ++ w)) (sym e) ∙ take-append-add u w k

drop_past : (u w : List ℕ) (k n : ℕ) → length u + k ≡ n → drop n (u ++ w) ≡ drop k w
drop_past u w k n e = ap (λ (i : ℕ). drop i (u ++ w)) (sym e) ∙ drop-append-add u w k

first_block : (n : ℕ) (s u w : List ℕ) → length u ≤ rate → absorbed (suc n) (xored s u) (replicate (length u) 0 ++ w) ≡ absorbed (suc n) s (u ++ w)
unfolding absorbed
first_block n s u w h =
    let z : List ℕ = replicate (length u) 0 in
    let k : ℕ = rate - length u in
    let e : length u + (rate - length u) ≡ rate = omega arith in
    let f : length (replicate (length u) 0) + (rate - length u) ≡ rate = simp length-replicate (omega arith) in
    ap (λ (t : List ℕ). absorbed n (permuted (xored (xored s u) t)) (drop rate (z ++ w))) (take_past z w k rate f)
    ∙ ap (λ (t : List ℕ). absorbed n (permuted t) (drop rate (z ++ w))) (xored_after s u (take k w))
    ∙ ap (λ (t : List ℕ). absorbed n (permuted (xored s t)) (drop rate (z ++ w))) (sym (take_past u w k rate e))
    ∙ ap (λ (t : List ℕ). absorbed n (permuted (xored s (take rate (u ++ w)))) t) (drop_past z w k rate f ∙ sym (drop_past u w k rate e))

-- u does not fill a block
in_block : (s u m : List ℕ) (p : ℕ) → length u ≡ p → p ≤ rate → ended (xored s u) (replicate p 0 ++ m) ≡ ended s (u ++ m)
in_block s u m p e h =
    let z : List ℕ = replicate p 0 in
    let l : ℕ = p + length m in
    let q : List ℕ = padding (rate - l % rate) in
    ended_by (xored s u) (z ++ m) l (simp (length-append, length-replicate))
    ∙ ap (absorbed (suc (l / rate)) (xored s u)) (append_assoc z m q)
    ∙ ap (λ (i : ℕ). absorbed (suc (l / rate)) (xored s u) (replicate i 0 ++ (m ++ q))) (sym e)
    ∙ first_block (l / rate) s u (m ++ q) (omega arith)
    ∙ ap (absorbed (suc (l / rate)) s) (sym (append_assoc u m q))
    ∙ sym (ended_by s (u ++ m) l (simp length-append (omega arith)))

-- u fills a block
whole_block : (s u m : List ℕ) → length u ≡ rate → ended (permuted (xored s u)) m ≡ ended s (u ++ m)
unfolding absorbed
whole_block s u m e =
    let l : ℕ = length m in
    let q : List ℕ = padding (rate - l % rate) in
    let a : (rate + length m) / rate ≡ suc (length m / rate) = omega arith in
    let b : (rate + length m) % rate ≡ length m % rate = omega arith in
    ended_by (permuted (xored s u)) m l refl
    ∙ ap (λ (t : List ℕ). absorbed (suc (l / rate)) (permuted (xored s t)) (m ++ q)) (sym (take_at u (m ++ q) rate e))
    ∙ ap (λ (t : List ℕ). absorbed (suc (l / rate)) (permuted (xored s (take rate (u ++ (m ++ q))))) t) (sym (drop_at u (m ++ q) rate e))
    ∙ ap (absorbed (suc (suc (l / rate))) s) (sym (append_assoc u m q))
    ∙ ap (λ (i : ℕ). absorbed (suc (suc (l / rate))) s ((u ++ m) ++ padding (rate - i))) (sym b)
    ∙ ap (λ (i : ℕ). absorbed (suc i) s ((u ++ m) ++ padding (rate - (rate + l) % rate))) (sym a)
    ∙ sym (ended_by s (u ++ m) (rate + l) (simp length-append (omega arith)))

-- a run that is xored in at place p, and what is then to be absorbed
module _ (s run ys m : List ℕ) (p k : ℕ) (n : k ≡ length run) (l : p + length run ≤ length s) (e : ys ≡ xored (take k (drop p s)) run) where
  u : List ℕ
  u = replicate p 0 ++ run

  pub run_more : p + length run ≤ rate → ended (put_mid p k s ys) (replicate (p + length run) 0 ++ m) ≡ ended s (replicate p 0 ++ (run ++ m))
  unfolding u
  run_more h =
      ap (λ (t : List ℕ). ended t (replicate (p + length run) 0 ++ m)) (xored_part s run ys p k n l e)
      ∙ in_block s u m (p + length run) (simp (length-append, length-replicate)) h
      ∙ ap (ended s) (append_assoc (replicate p 0) run m)

  pub run_end : p + length run ≡ rate → ended (permuted (put_mid p k s ys)) m ≡ ended s (replicate p 0 ++ (run ++ m))
  unfolding u
  run_end h =
      ap (λ (t : List ℕ). ended (permuted t) m) (xored_part s run ys p k n l e)
      ∙ whole_block s u m (simp (length-append, length-replicate) h)
      ∙ ap (ended s) (append_assoc (replicate p 0) run m)

-- the last block: the first byte of the padding at p, and the last
abbrev pub closed : List ℕ → ℕ → List ℕ
closed s p = set (set s p (bit_xor (get_or s p 0) 0x1f)) 135 (bit_xor (get_or (set s p (bit_xor (get_or s p 0) 0x1f)) 135 0) 0x80)

one_byte : (s : List ℕ) → 135 < length s → xored s (replicate 135 0 ++ padding 1) ≡ closed s 135
one_byte s l =
    let x = get_or s 135 0 in
    xored_at s 135 0x9f l
    ∙ sym
    (ap (λ (v : ℕ). set (set s 135 (bit_xor x 0x1f)) 135 (bit_xor v 0x80)) (get_or-set_same s 135 (bit_xor x 0x1f) 0 l)
    ∙ set-set s 135 (bit_xor x 0x1f) (bit_xor (bit_xor x 0x1f) 0x80)
    ∙ ap (set s 135) (xor_assoc x 0x1f 0x80))

two_runs : (s u : List ℕ) (n q b : ℕ) → length u + n ≡ q → xored s (u ++ (replicate n 0 ++ b ∷ [])) ≡ xored (xored s u) (replicate q 0 ++ b ∷ [])
two_runs s u n q b e =
    sym (xored_after s u (replicate n 0 ++ b ∷ []))
    ∙ ap (xored (xored s u)) (sym (append_assoc (replicate (length u) 0) (replicate n 0) (b ∷ [])))
    ∙ ap (λ (w : List ℕ). xored (xored s u) (w ++ b ∷ [])) (replicate-append-replicate (length u) n 0 ∙ ap (λ (i : ℕ). replicate i 0) e)

more_bytes : (s : List ℕ) (p : ℕ) → p < 135 → 135 < length s → xored s (replicate p 0 ++ padding (136 - p)) ≡ closed s p
more_bytes s p h l =
    ap (λ (w : List ℕ). xored s (replicate p 0 ++ w)) (padding_more (136 - p) (omega arith))
    ∙ ap (xored s) (sym (append_assoc (replicate p 0) (0x1f ∷ []) (replicate (136 - p - 2) 0 ++ 0x80 ∷ [])))
    ∙ two_runs s (replicate p 0 ++ 0x1f ∷ []) (136 - p - 2) 135 0x80 (simp (length-append, length-replicate) (omega arith))
    ∙ ap (λ (w : List ℕ). xored w (replicate 135 0 ++ 0x80 ∷ [])) (xored_at s p 0x1f (omega arith))
    ∙ xored_at (set s p (bit_xor (get_or s p 0) 0x1f)) 135 0x80 (simp length-set l)

closing : (s : List ℕ) (p : ℕ) → p < 136 → 135 < length s → xored s (replicate p 0 ++ padding (136 - p)) ≡ closed s p
closing s p h l =
    elim (cases_eq p 135) [
      | inl e ↦ subst (λ (k : ℕ). xored s (replicate k 0 ++ padding (136 - k)) ≡ closed s k) (sym e) (one_byte s l)
      | inr n ↦ more_bytes s p (omega arith) l
    ]

pub last_block : (s : List ℕ) (p : ℕ) → p < rate → 135 < length s → ended s (replicate p 0 ++ []) ≡ permuted (closed s p)
unfolding absorbed
last_block s p h l =
    let z : List ℕ = replicate p 0 in
    let a : p / rate ≡ 0 = omega arith in
    let b : p % rate ≡ p = omega arith in
    let n : length (padding (rate - p)) ≡ rate - p = length_padding (rate - p) (omega arith) in
    ap (ended s) (append-nil z)
    ∙ ended_by s z p (length-replicate p 0)
    ∙ ap (λ (i : ℕ). absorbed (suc i) s (z ++ padding (rate - p % rate))) a
    ∙ ap (λ (i : ℕ). permuted (xored s (take rate (z ++ padding (rate - i))))) b
    ∙ ap (λ (t : List ℕ). permuted (xored s t)) (take_all rate (z ++ padding (rate - p)) (simp (length-append, length-replicate) (omega arith)))
    ∙ ap permuted (closing s p h l)
