-- Laws of runs of bits.
use Rattle.std.proofs.Common.{◌≡◌, ℕ, zero, suc, ◌+◌, ◌-◌, ◌*◌, ◌/◌, ◌%◌, ◌^◌, ◌<◌, ◌≤◌, min, List, [], ◌∷◌, ◌++◌, length, take, drop, replicate, sym, refl, ap, ◌∙◌, subst, mul-le-mul_right, mod-eq_of_lt, suc-mul, add_comm, suc-add, pow-suc, zero-add, zero-mul, arith, pow_mono}
use native.Mathlib.Nat.{zero-div}
use lib.Pow.{mod-mod-pow}
use Rattle.std.proofs.lemmas.List.{append-nil, append_assoc, length-append, take_at, drop_at, take-append-drop, length-take, length-take-le, length-drop, drop-drop}
use Rattle.std.proofs.ByRecursion.{All-append, All-take, All-drop}
use Rattle.std.proofs.lemmas.Nat.{shr-shr, field_of, mod-pow-add, shr_high, mod_low}
use Rattle.params.specs.Sizes.{bytes_for}
use Rattle.pack.specs.Bits.{bits, value, run, cut, filled, bytes, Below}

pub low_bits : (s d k w : ℕ) → d + k ≤ w → (s % 2 ^ w) / 2 ^ d % 2 ^ k ≡ s / 2 ^ d % 2 ^ k
low_bits s d k w le =
    let j : ℕ = w - d in
    let e : j + d ≡ w = omega arith in
    let i : ℕ = j - k in
    let f : i + k ≡ j = omega arith in
    let a : s % 2 ^ (j + d) / 2 ^ d ≡ s / 2 ^ d % 2 ^ j = field_of s j d in
    let b : s / 2 ^ d % 2 ^ (i + k) % 2 ^ k ≡ s / 2 ^ d % 2 ^ k = mod-mod-pow (s / 2 ^ d) i k in
    cc

pub length_bits : (w x : ℕ) → length (bits w x) ≡ w
unfolding bits
length_bits zero x = refl
length_bits (suc w) x = ap suc (length_bits w x)

-- bits above the w low ones do not count
pub bits_low : (w v n : ℕ) → w ≤ v → bits w (n % 2 ^ v) ≡ bits w n
unfolding bits
bits_low zero v n le = refl
bits_low (suc w) v n le =
    let a : (n % 2 ^ v) / 2 ^ w % 2 ≡ n / 2 ^ w % 2 = low_bits n w 1 v (omega arith) in
    let b : bits w (n % 2 ^ v) ≡ bits w n = bits_low w v n (omega arith) in
    cc

-- the bits of a number, in two parts
pub bits_split : (w v n : ℕ) → bits (w + v) n ≡ bits w (n / 2 ^ v) ++ bits v n
unfolding bits
bits_split zero v n = ap (λ k. bits k n) (zero-add v)
bits_split (suc w) v n =
    let e : suc w + v ≡ suc (w + v) = suc-add w v in
    let f : n / 2 ^ v / 2 ^ w ≡ n / 2 ^ (v + w) = shr-shr n v w in
    let k : v + w ≡ w + v = add_comm v w in
    let h : n / 2 ^ (w + v) % 2 ≡ n / 2 ^ v / 2 ^ w % 2 = cc in
    let t : bits (w + v) n ≡ bits w (n / 2 ^ v) ++ bits v n = bits_split w v n in
    let s : bits (suc (w + v)) n ≡ n / 2 ^ v / 2 ^ w % 2 ∷ (bits w (n / 2 ^ v) ++ bits v n) = cc in
    ap (λ m. bits m n) e ∙ s

-- two numbers put together
pub bits_join : (w v a b : ℕ) → b < 2 ^ v → bits (w + v) (a * 2 ^ v + b) ≡ bits w a ++ bits v b
bits_join w v a b lt =
    let n : ℕ = a * 2 ^ v + b in
    let s : bits (w + v) n ≡ bits w (n / 2 ^ v) ++ bits v n = bits_split w v n in
    let h : n / 2 ^ v ≡ a = shr_high a v b lt in
    let m : n % 2 ^ v ≡ b = mod_low a v b lt in
    let l : bits v (n % 2 ^ v) ≡ bits v n = bits_low v v n (omega arith) in
    cc

pub bits_none : (w : ℕ) → bits w 0 ≡ replicate w 0
unfolding bits
bits_none zero = refl
bits_none (suc w) =
    let d : 0 / 2 ^ w ≡ 0 = zero-div (2 ^ w) in
    let z : 0 / 2 ^ w % 2 ≡ 0 = ap (λ k. k % 2) d in
    let t : bits w 0 ≡ replicate w 0 = bits_none w in
    cc

pub value_bits : (w x : ℕ) → value (bits w x) ≡ x % 2 ^ w
unfolding bits value
value_bits zero x = omega arith
value_bits (suc w) x =
    let l : length (bits w x) ≡ w = length_bits w x in
    let v : value (bits w x) ≡ x % 2 ^ w = value_bits w x in
    let m : x % 2 ^ (1 + w) ≡ (x / 2 ^ w % 2) * 2 ^ w + x % 2 ^ w = mod-pow-add x 1 w in
    let e : 1 + w ≡ suc w = omega arith in
    let s : (x / 2 ^ w % 2) * 2 ^ length (bits w x) + value (bits w x) ≡ (x / 2 ^ w % 2) * 2 ^ w + x % 2 ^ w = cc in
    s ∙ sym m ∙ ap (λ k. x % 2 ^ k) e

pub value_lt : (bs : List ℕ) → Below 2 bs → value bs < 2 ^ length bs
unfolding value
value_lt [] h = omega arith
value_lt (b ∷ bs) h =
    let r : value bs < 2 ^ length bs = value_lt bs h.1 in
    let p : 2 ^ suc (length bs) ≡ 2 ^ length bs * 2 = pow-suc 2 (length bs) in
    let q : b * 2 ^ length bs ≤ 1 * 2 ^ length bs = mul-le-mul_right (2 ^ length bs) (omega (arith, h.0)) in
    rw p (omega arith)

pub bits_value : (bs : List ℕ) → Below 2 bs → bits (length bs) (value bs) ≡ bs
unfolding bits value
bits_value [] h = refl
bits_value (b ∷ bs) h =
    let n : ℕ = length bs in
    let v : ℕ = value bs in
    let lt : v < 2 ^ n = value_lt bs h.1 in
    let hi : (b * 2 ^ n + v) / 2 ^ n ≡ b = shr_high b n v lt in
    let lo : (b * 2 ^ n + v) % 2 ^ n ≡ v = mod_low b n v lt in
    let m : b % 2 ≡ b = mod-eq_of_lt h.0 in
    let l : bits n ((b * 2 ^ n + v) % 2 ^ n) ≡ bits n (b * 2 ^ n + v) = bits_low n n (b * 2 ^ n + v) (omega arith) in
    let t : bits n v ≡ bs = bits_value bs h.1 in
    cc

pub bits_below : (w x : ℕ) → Below 2 (bits w x)
unfolding bits
bits_below zero x = tt
bits_below (suc w) x = (omega arith, bits_below w x)

pub length_run : (w : ℕ) (xs : List ℕ) → length (run w xs) ≡ length xs * w
unfolding run
length_run w [] = sym (zero-mul w)
length_run w (x ∷ xs) =
    let a : length (bits w x ++ run w xs) ≡ length (bits w x) + length (run w xs) = length-append (bits w x) (run w xs) in
    let b : length (bits w x) ≡ w = length_bits w x in
    let c : length (run w xs) ≡ length xs * w = length_run w xs in
    let d : suc (length xs) * w ≡ length xs * w + w = suc-mul (length xs) w in
    omega arith

pub run_append : (w : ℕ) (xs ys : List ℕ) → run w (xs ++ ys) ≡ run w xs ++ run w ys
unfolding run
run_append w [] ys = refl
run_append w (x ∷ xs) ys =
    let a : run w (xs ++ ys) ≡ run w xs ++ run w ys = run_append w xs ys in
    ap (λ r. bits w x ++ r) a ∙ sym (append_assoc (bits w x) (run w xs) (run w ys))

pub run_one : (w x : ℕ) → run w (x ∷ []) ≡ bits w x
unfolding run
run_one w x = append-nil (bits w x)

pub run_push : (w : ℕ) (xs : List ℕ) (x : ℕ) → run w (xs ++ (x ∷ [])) ≡ run w xs ++ bits w x
run_push w xs x = run_append w xs (x ∷ []) ∙ ap (λ r. run w xs ++ r) (run_one w x)

pub run_below : (w : ℕ) (xs : List ℕ) → Below 2 (run w xs)
unfolding run
run_below w [] = tt
run_below w (x ∷ xs) = All-append (λ b. b < 2) (bits w x) (run w xs) (bits_below w x) (run_below w xs)

-- cut after run: the fields again
pub cut_run : (w : ℕ) (xs : List ℕ) (r : List ℕ) → Below (2 ^ w) xs → cut (length xs) w (run w xs ++ r) ≡ xs
unfolding run cut
cut_run w [] r h = refl
cut_run w (x ∷ xs) r h =
    let s : (bits w x ++ run w xs) ++ r ≡ bits w x ++ (run w xs ++ r) = append_assoc (bits w x) (run w xs) r in
    let a : take w (bits w x ++ (run w xs ++ r)) ≡ bits w x = take_at (bits w x) (run w xs ++ r) w (length_bits w x) in
    let b : drop w (bits w x ++ (run w xs ++ r)) ≡ run w xs ++ r = drop_at (bits w x) (run w xs ++ r) w (length_bits w x) in
    let v : value (bits w x) ≡ x % 2 ^ w = value_bits w x in
    let m : x % 2 ^ w ≡ x = mod-eq_of_lt h.0 in
    let t : cut (length xs) w (run w xs ++ r) ≡ xs = cut_run w xs r h.1 in
    cc

-- run after cut: the bits again
pub run_cut : (n w : ℕ) (bs : List ℕ) → Below 2 bs → n * w ≤ length bs → run w (cut n w bs) ++ drop (n * w) bs ≡ bs
unfolding run cut
run_cut zero w bs h le = ap (λ k. drop k bs) (zero-mul w)
run_cut (suc n) w bs h le =
    let e : suc n * w ≡ n * w + w = suc-mul n w in
    let l : length (drop w bs) ≡ length bs - w = length-drop w bs in
    let t : length (take w bs) ≡ w = length-take-le w bs (omega arith) in
    let v : bits (length (take w bs)) (value (take w bs)) ≡ take w bs = bits_value (take w bs) (All-take (λ b. b < 2) w bs h) in
    let v2 : bits w (value (take w bs)) ≡ take w bs = subst (λ k. bits k (value (take w bs)) ≡ take w bs) t v in
    let i : run w (cut n w (drop w bs)) ++ drop (n * w) (drop w bs) ≡ drop w bs = run_cut n w (drop w bs) (All-drop (λ b. b < 2) w bs h) (omega arith) in
    let d : drop (n * w) (drop w bs) ≡ drop (w + n * w) bs = drop-drop (n * w) w bs in
    let k : w + n * w ≡ suc n * w = omega arith in
    let s : (bits w (value (take w bs)) ++ run w (cut n w (drop w bs))) ++ drop (suc n * w) bs ≡ bits w (value (take w bs)) ++ (run w (cut n w (drop w bs)) ++ drop (suc n * w) bs) = append_assoc (bits w (value (take w bs))) (run w (cut n w (drop w bs))) (drop (suc n * w) bs) in
    let z : take w bs ++ drop w bs ≡ bs = take-append-drop w bs in
    cc

pub bits_zero : (x : ℕ) → bits 0 x ≡ []
unfolding bits
bits_zero x = refl

pub run_none : (w : ℕ) (xs : List ℕ) → xs ≡ [] → run w xs ≡ []
unfolding run
run_none w xs e = rw e

pub run_next : (w x : ℕ) (xs : List ℕ) → run w (x ∷ xs) ≡ bits w x ++ run w xs
unfolding run
run_next w x xs = refl

pub cut_more : (i w : ℕ) (bs : List ℕ) → cut (i + 1) w bs ≡ cut i w bs ++ (value (take w (drop (i * w) bs)) ∷ [])
unfolding cut
cut_more zero w bs = ap (λ k. value (take w (drop k bs)) ∷ []) (sym (zero-mul w))
cut_more (suc i) w bs =
    let e : suc i + 1 ≡ suc (i + 1) = omega arith in
    let t : cut (i + 1) w (drop w bs) ≡ cut i w (drop w bs) ++ (value (take w (drop (i * w) (drop w bs))) ∷ []) = cut_more i w (drop w bs) in
    let d : drop (i * w) (drop w bs) ≡ drop (w + i * w) bs = drop-drop (i * w) w bs in
    let k : w + i * w ≡ suc i * w = omega (arith, suc-mul i w) in
    let s : cut (suc (i + 1)) w bs ≡ value (take w bs) ∷ (cut i w (drop w bs) ++ (value (take w (drop (suc i * w) bs)) ∷ [])) = cc in
    ap (λ n. cut n w bs) e ∙ s

pub length_cut : (n w : ℕ) (bs : List ℕ) → length (cut n w bs) ≡ n
unfolding cut
length_cut zero w bs = refl
length_cut (suc n) w bs = ap suc (length_cut n w (drop w bs))

-- bytes with the bits of a run, filled up with zeros, are the bytes of that run
pub bytes_are : (ws bs : List ℕ) (k : ℕ) → Below 256 ws → length ws ≡ bytes_for (length bs) → k ≡ 8 * bytes_for (length bs) - length bs → run 8 ws ≡ bs ++ replicate k 0 → ws ≡ bytes bs
bytes_are ws bs k h l e r =
    let c : cut (length ws) 8 (run 8 ws ++ []) ≡ ws = cut_run 8 ws [] h in
    let a : run 8 ws ++ [] ≡ run 8 ws = append-nil (run 8 ws) in
    let f : run 8 ws ≡ filled bs = r ∙ ap (λ n. bs ++ replicate n 0) e in
    sym c ∙ ap (cut (length ws) 8) (a ∙ f) ∙ ap (λ n. cut n 8 (filled bs)) l

pub cut_none : (w : ℕ) (bs : List ℕ) → cut 0 w bs ≡ []
unfolding cut
cut_none w bs = refl

-- fields that are cut from bits are below 2 to their width
pub cut_below : (n w : ℕ) (bs : List ℕ) → Below 2 bs → Below (2 ^ w) (cut n w bs)
unfolding cut
cut_below zero w bs h = tt
cut_below (suc n) w bs h =
    let v : value (take w bs) < 2 ^ length (take w bs) = value_lt (take w bs) (All-take (λ b. b < 2) w bs h) in
    let l : length (take w bs) ≡ min w (length bs) = length-take w bs in
    let m : 2 ^ length (take w bs) ≤ 2 ^ w = pow_mono {i = length (take w bs)} {j = w} (omega arith) in
    (omega arith, cut_below n w (drop w bs) (All-drop (λ b. b < 2) w bs h))
