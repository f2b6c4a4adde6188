-- The steps of a writer and of a reader, over plain values.
use Rattle.std.proofs.Common.{◌≡◌, ℕ, zero, suc, ◌+◌, ◌-◌, ◌*◌, ◌/◌, ◌%◌, ◌^◌, ◌<◌, ◌≤◌, List, [], ◌∷◌, ◌++◌, map, length, get_or, take, drop, set, replicate, sym, refl, ap, ◌∙◌, add-mul, arith}
use lib.Bits.{bit_and, bit_or}
use Rattle.std.specs.Int.{w32, to_be_bytes}
use Rattle.std.proofs.Math.Seq.{take-append-add, take-nil}
use Rattle.std.proofs.lemmas.List.{append-nil, append_assoc, drop_more, take_at, drop_at, map_more, length-map, drop-drop, map_push, set_at, length-append, length-take, length-drop, take-append-drop, length-take-le, take-replicate}
use Rattle.std.proofs.ByRecursion.{All-from_get_or}
use Rattle.std.proofs.lemmas.Nat.{mul-le, pow_pos, shl-shr, one_shl, and_mask, mod-pow-add, mod_low, or_shifted, mod_below}
use borrow.Rule.Slice.PartMut.{put_mid}
use Rattle.params.specs.Sizes.{bytes_for}
use Rattle.pack.specs.Bits.{bits, value, run, cut, filled}
use Rattle.pack.specs.Packing.{packed}
use Rattle.pack.proofs.Runs.{bytes_are, bits_low, bits_join, bits_split, bits_none, run_append, run_push, run_next, value_bits, length_bits, length_run, length_cut, cut_more}

-- `a << k` at a type of j + k bits
pub shl_cut : (a j k : ℕ) → (a * 2 ^ k) % 2 ^ (j + k) ≡ a % 2 ^ j * 2 ^ k
shl_cut a j k =
    let m : (a * 2 ^ k) % 2 ^ (j + k) ≡ (a * 2 ^ k / 2 ^ k % 2 ^ j) * 2 ^ k + (a * 2 ^ k) % 2 ^ k = mod-pow-add (a * 2 ^ k) j k in
    let d : a * 2 ^ k / 2 ^ k ≡ a = shl-shr a k in
    let z : (a * 2 ^ k + 0) % 2 ^ k ≡ 0 = mod_low a k 0 (pow_pos k) in
    let n : a * 2 ^ k + 0 ≡ a * 2 ^ k = omega arith in
    let y : (a * 2 ^ k) % 2 ^ k ≡ 0 = cc in
    let s : (a * 2 ^ k) % 2 ^ (j + k) ≡ a % 2 ^ j * 2 ^ k + 0 = cc in
    omega arith

pub masked : (n k w : ℕ) → k < w → bit_and n ((1 * 2 ^ k) % 2 ^ w - 1) ≡ n % 2 ^ k
masked n k w lt = ap (λ m. bit_and n (m - 1)) (one_shl k w lt) ∙ and_mask n k

-- a field below 2^w taken into an accumulator of n bits, of which h are held
pub joined_in : (n acc x h w : ℕ) → x < 2 ^ w → h + w ≤ n → bits (h + w) (bit_or ((acc * 2 ^ w) % 2 ^ n) x) ≡ bits h acc ++ bits w x
joined_in n acc x h w lt le =
    let j : ℕ = n - w in
    let e : j + w ≡ n = omega arith in
    let c : (acc * 2 ^ w) % 2 ^ (j + w) ≡ acc % 2 ^ j * 2 ^ w = shl_cut acc j w in
    let o : bit_or (acc % 2 ^ j * 2 ^ w) x ≡ acc % 2 ^ j * 2 ^ w + x = or_shifted (acc % 2 ^ j) w x lt in
    let b : bits (h + w) (acc % 2 ^ j * 2 ^ w + x) ≡ bits h (acc % 2 ^ j) ++ bits w x = bits_join h w (acc % 2 ^ j) x lt in
    let f : bits h (acc % 2 ^ j) ≡ bits h acc = bits_low h j acc (omega arith) in
    cc

-- the w low bits of x taken in
pub taken_in : (n acc x h w : ℕ) → w < n → h + w ≤ n → bits (h + w) (bit_or ((acc * 2 ^ w) % 2 ^ n) (bit_and x ((1 * 2 ^ w) % 2 ^ n - 1))) ≡ bits h acc ++ bits w x
taken_in n acc x h w lt le =
    let m : bit_and x ((1 * 2 ^ w) % 2 ^ n - 1) ≡ x % 2 ^ w = masked x w n lt in
    let l : x % 2 ^ w < 2 ^ w = mod_below x (2 ^ w) (pow_pos w) in
    let b : bits (h + w) (bit_or ((acc * 2 ^ w) % 2 ^ n) (x % 2 ^ w)) ≡ bits h acc ++ bits w (x % 2 ^ w) = joined_in n acc (x % 2 ^ w) h w l le in
    let g : bits w (x % 2 ^ w) ≡ bits w x = bits_low w w x (omega arith) in
    cc

-- one more field of a list written
pub put_more : {X : Type 0} (bare : X → ℕ) (xs : List X) (i w : ℕ) (z : X) (s b c : List ℕ) → i < length xs → b ≡ s ++ run w (map bare (take i xs)) → c ≡ b ++ bits w (bare z) → z ≡ get_or xs i z → c ≡ s ++ run w (map bare (take (i + 1) xs))
put_more bare xs i w z s b c lt e f h =
    let m : map bare (take (i + 1) xs) ≡ map bare (take i xs) ++ (bare (get_or xs i z) ∷ []) = map_more bare xs i z lt in
    let r : run w (map bare (take i xs) ++ (bare z ∷ [])) ≡ run w (map bare (take i xs)) ++ bits w (bare z) = run_push w (map bare (take i xs)) (bare z) in
    let a : (s ++ run w (map bare (take i xs))) ++ bits w (bare z) ≡ s ++ (run w (map bare (take i xs)) ++ bits w (bare z)) = append_assoc s (run w (map bare (take i xs))) (bits w (bare z)) in
    cc

-- room for one more field
pub put_room : {X : Type 0} (bare : X → ℕ) (xs : List X) (i w room : ℕ) (s b : List ℕ) → i < length xs → b ≡ s ++ run w (map bare (take i xs)) → length s + length xs * w ≤ room → length b + w ≤ room
put_room bare xs i w room s b lt e le =
    let fields : List ℕ = map bare (take i xs) in
    let l : length b ≡ length s + length (run w fields) = ap length e ∙ length-append s (run w fields) in
    let n : length fields ≡ i = length-map (take i xs) bare ∙ length-take-le i xs (omega arith) in
    let r : length (run w fields) ≡ i * w = length_run w fields ∙ ap (λ k. k * w) n in
    let m : (i + 1) * w ≤ length xs * w = mul-le (i + 1) w (length xs) w (omega arith) (omega arith) in
    omega (arith, add-mul i 1 w)

-- one more byte taken in
pub load_unread : (bs : List ℕ) (at acc h : ℕ) → at < length bs → get_or bs at 0 < 256 → h + 8 ≤ 64 → bits (h + 8) (bit_or ((acc * 256) % 2 ^ 64) (get_or bs at 0)) ++ run 8 (drop (at + 1) bs) ≡ bits h acc ++ run 8 (drop at bs)
load_unread bs at acc h lt small le =
    let b : ℕ = get_or bs at 0 in
    let r : ℕ = bit_or ((acc * 256) % 2 ^ 64) b in
    let j : bits (h + 8) r ≡ bits h acc ++ bits 8 b = joined_in 64 acc b h 8 small le in
    let n : run 8 (drop at bs) ≡ bits 8 b ++ run 8 (drop (at + 1) bs) = ap (run 8) (drop_more bs at 0 lt) ∙ run_next 8 b (drop (at + 1) bs) in
    let a : (bits h acc ++ bits 8 b) ++ run 8 (drop (at + 1) bs) ≡ bits h acc ++ (bits 8 b ++ run 8 (drop (at + 1) bs)) = append_assoc (bits h acc) (bits 8 b) (run 8 (drop (at + 1) bs)) in
    cc

-- w of h held bits taken off
pub taken_off : (acc h w : ℕ) (r l : List ℕ) → w ≤ h → bits h acc ++ r ≡ l → (acc / 2 ^ (h - w) % 2 ^ w ≡ value (take w l)) × (bits (h - w) acc ++ r ≡ drop w l)
taken_off acc h w r l le e =
    let k : ℕ = h - w in
    let f : w + k ≡ h = omega arith in
    let s : bits (w + k) acc ≡ bits w (acc / 2 ^ k) ++ bits k acc = bits_split w k acc in
    let a : (bits w (acc / 2 ^ k) ++ bits k acc) ++ r ≡ bits w (acc / 2 ^ k) ++ (bits k acc ++ r) = append_assoc (bits w (acc / 2 ^ k)) (bits k acc) r in
    let g : l ≡ bits w (acc / 2 ^ k) ++ (bits k acc ++ r) = cc in
    let t : take w (bits w (acc / 2 ^ k) ++ (bits k acc ++ r)) ≡ bits w (acc / 2 ^ k) = take_at (bits w (acc / 2 ^ k)) (bits k acc ++ r) w (length_bits w (acc / 2 ^ k)) in
    let d : drop w (bits w (acc / 2 ^ k) ++ (bits k acc ++ r)) ≡ bits k acc ++ r = drop_at (bits w (acc / 2 ^ k)) (bits k acc ++ r) w (length_bits w (acc / 2 ^ k)) in
    let v : value (bits w (acc / 2 ^ k)) ≡ acc / 2 ^ k % 2 ^ w = value_bits w (acc / 2 ^ k) in
    let one : acc / 2 ^ (h - w) % 2 ^ w ≡ value (take w l) = cc in
    let two : bits (h - w) acc ++ r ≡ drop w l = cc in
    (one, two)

-- one more field read
pub get_more : {X : Type 0} (made : ℕ → X) (os ws : List X) (i w : ℕ) (z : X) (A B : List ℕ) → i < length os → ws ≡ map made (cut i w A) ++ drop i os → B ≡ drop (i * w) A → z ≡ made (value (take w B)) → set ws i z ≡ map made (cut (i + 1) w A) ++ drop (i + 1) os
get_more made os ws i w z A B lt e f h =
    let x : ℕ = value (take w (drop (i * w) A)) in
    let front = map made (cut i w A) in
    let y = get_or os i z in
    let c : drop i os ≡ y ∷ drop (i + 1) os = drop_more os i z lt in
    let long : length front ≡ i = length-map (cut i w A) made ∙ length_cut i w A in
    let put : set (front ++ (y ∷ drop (i + 1) os)) i z ≡ front ++ (z ∷ drop (i + 1) os) = set_at front y (drop (i + 1) os) z i long in
    let more : cut (i + 1) w A ≡ cut i w A ++ (x ∷ []) = cut_more i w A in
    let is : z ≡ made x = h ∙ ap (λ l. made (value (take w l))) f in
    let m : map made (cut i w A ++ (x ∷ [])) ≡ front ++ (made x ∷ []) = map_push made (cut i w A) x in
    let join : (front ++ (z ∷ [])) ++ drop (i + 1) os ≡ front ++ (z ∷ drop (i + 1) os) = append_assoc front (z ∷ []) (drop (i + 1) os) in
    cc

pub drop_next : (i w : ℕ) (A B C : List ℕ) → B ≡ drop (i * w) A → C ≡ drop w B → C ≡ drop ((i + 1) * w) A
drop_next i w A B C e f =
    let d : drop w (drop (i * w) A) ≡ drop (i * w + w) A = drop-drop w (i * w) A in
    let k : i * w + w ≡ (i + 1) * w = omega (arith, add-mul i 1 w) in
    cc

-- ---- four bytes at once
-- the bytes of a word of 32 bits, the highest first, have its bits
pub word_bits : (n : ℕ) → run 8 (to_be_bytes w32 n) ≡ bits 32 n
unfolding run
word_bits n =
    let a : bits 8 (n / 2 ^ 24 % 256) ≡ bits 8 (n / 2 ^ 24) = bits_low 8 8 (n / 2 ^ 24) (omega arith) in
    let b : bits 8 (n / 2 ^ 16 % 256) ≡ bits 8 (n / 2 ^ 16) = bits_low 8 8 (n / 2 ^ 16) (omega arith) in
    let c : bits 8 (n / 2 ^ 8 % 256) ≡ bits 8 (n / 2 ^ 8) = bits_low 8 8 (n / 2 ^ 8) (omega arith) in
    let d : bits 8 (n % 256) ≡ bits 8 n = bits_low 8 8 n (omega arith) in
    let e : bits 32 n ≡ bits 8 (n / 2 ^ 24) ++ bits 24 n = bits_split 8 24 n in
    let f : bits 24 n ≡ bits 8 (n / 2 ^ 16) ++ bits 16 n = bits_split 8 16 n in
    let g : bits 16 n ≡ bits 8 (n / 2 ^ 8) ++ bits 8 n = bits_split 8 8 n in
    let h : bits 8 (n % 256) ++ [] ≡ bits 8 (n % 256) = append-nil (bits 8 (n % 256)) in
    cc

-- four bytes taken in as one number
pub word_unread : (bs word rest : List ℕ) (acc h n : ℕ) → word ≡ take 4 bs → rest ≡ drop 4 bs → bits 32 n ≡ run 8 word → n < 2 ^ 32 → h + 32 ≤ 64 → bits (h + 32) (bit_or ((acc * 2 ^ 32) % 2 ^ 64) n) ++ run 8 rest ≡ bits h acc ++ run 8 bs
word_unread bs word rest acc h n front back is lt le =
    let j : bits (h + 32) (bit_or ((acc * 2 ^ 32) % 2 ^ 64) n) ≡ bits h acc ++ bits 32 n = joined_in 64 acc n h 32 lt le in
    let t : take 4 bs ++ drop 4 bs ≡ bs = take-append-drop 4 bs in
    let r : run 8 (take 4 bs ++ drop 4 bs) ≡ run 8 (take 4 bs) ++ run 8 (drop 4 bs) = run_append 8 (take 4 bs) (drop 4 bs) in
    let a : (bits h acc ++ bits 32 n) ++ run 8 (drop 4 bs) ≡ bits h acc ++ (bits 32 n ++ run 8 (drop 4 bs)) = append_assoc (bits h acc) (bits 32 n) (run 8 (drop 4 bs)) in
    cc

-- a field taken in, behind what is written
pub kept_written : (os : List ℕ) (at acc h w x : ℕ) → w < 64 → h + w ≤ 64 → run 8 (take at os) ++ bits (h + w) (bit_or ((acc * 2 ^ w) % 2 ^ 64) (bit_and x ((1 * 2 ^ w) % 2 ^ 64 - 1))) ≡ (run 8 (take at os) ++ bits h acc) ++ bits w x
kept_written os at acc h w x lt le = ap (λ l. run 8 (take at os) ++ l) (taken_in 64 acc x h w lt le) ∙ sym (append_assoc (run 8 (take at os)) (bits h acc) (bits w x))

-- 32 of the held bits written as four bytes
pub word_written : (os ws ns : List ℕ) (at acc h n : ℕ) → take (at + 4) ws ≡ take at os ++ ns → ns ≡ to_be_bytes w32 n → 32 ≤ h → n ≡ acc / 2 ^ (h - 32) % 2 ^ 32 → run 8 (take (at + 4) ws) ++ bits (h - 32) acc ≡ run 8 (take at os) ++ bits h acc
word_written os ws ns at acc h n front four le is =
    let k : ℕ = h - 32 in
    let f : 32 + k ≡ h = omega arith in
    let s : bits (32 + k) acc ≡ bits 32 (acc / 2 ^ k) ++ bits k acc = bits_split 32 k acc in
    let b : run 8 (to_be_bytes w32 n) ≡ bits 32 n = word_bits n in
    let l : bits 32 (acc / 2 ^ k % 2 ^ 32) ≡ bits 32 (acc / 2 ^ k) = bits_low 32 32 (acc / 2 ^ k) (omega arith) in
    let r : run 8 (take at os ++ ns) ≡ run 8 (take at os) ++ run 8 ns = run_append 8 (take at os) ns in
    let a : (run 8 (take at os) ++ bits 32 (acc / 2 ^ k)) ++ bits k acc ≡ run 8 (take at os) ++ (bits 32 (acc / 2 ^ k) ++ bits k acc) = append_assoc (run 8 (take at os)) (bits 32 (acc / 2 ^ k)) (bits k acc) in
    cc

-- ---- lengths
pub length_unread : (bs : List ℕ) (acc h : ℕ) → length (bits h acc ++ run 8 bs) ≡ h + length bs * 8
length_unread bs acc h = omega (arith, length-append (bits h acc) (run 8 bs), length_bits h acc, length_run 8 bs)

pub length_written : (os : List ℕ) (at acc h : ℕ) → at ≤ length os → length (run 8 (take at os) ++ bits h acc) ≡ at * 8 + h
length_written os at acc h le = omega (arith, length-append (run 8 (take at os)) (bits h acc), length_bits h acc, length_run 8 (take at os), length-take-le at os le)

-- ---- the end
-- the first bytes have the first bits
pub run_take : (k : ℕ) (xs : List ℕ) → run 8 (take k xs) ≡ take (k * 8) (run 8 xs)
unfolding run
run_take zero xs = refl
run_take (suc k) [] = sym (take-nil (suc k * 8))
run_take (suc k) (x ∷ xs) =
    let t : run 8 (take k xs) ≡ take (k * 8) (run 8 xs) = run_take k xs in
    let e : suc k * 8 ≡ 8 + k * 8 = omega arith in
    let l : length (bits 8 x) ≡ 8 = length_bits 8 x in
    let p : take (length (bits 8 x) + k * 8) (bits 8 x ++ run 8 xs) ≡ bits 8 x ++ take (k * 8) (run 8 xs) = take-append-add (bits 8 x) (run 8 xs) (k * 8) in
    cc

-- the held bits and zeros, written as bytes: no more than four
pub rest_written : (acc h n k : ℕ) → h ≤ k * 8 → k ≤ 4 → h < 32 → n ≡ (acc * 2 ^ (32 - h)) % 2 ^ 64 % 2 ^ 32 → run 8 (take k (to_be_bytes w32 n)) ≡ bits h acc ++ replicate (k * 8 - h) 0
rest_written acc h n k low high few is =
    let z : ℕ = 32 - h in
    let f : h + z ≡ 32 = omega arith in
    let y : ℕ = acc * 2 ^ z in
    let a : bits 32 (y % 2 ^ 64 % 2 ^ 32) ≡ bits 32 (y % 2 ^ 64) = bits_low 32 32 (y % 2 ^ 64) (omega arith) in
    let b : bits 32 (y % 2 ^ 64) ≡ bits 32 y = bits_low 32 64 y (omega arith) in
    let c : bits (h + z) (acc * 2 ^ z + 0) ≡ bits h acc ++ bits z 0 = bits_join h z acc 0 (pow_pos z) in
    let y-is : acc * 2 ^ z + 0 ≡ y = omega arith in
    let d : bits z 0 ≡ replicate z 0 = bits_none z in
    let w : run 8 (to_be_bytes w32 n) ≡ bits 32 n = word_bits n in
    let zs : List ℕ = replicate z 0 in
    let all : run 8 (to_be_bytes w32 n) ≡ bits h acc ++ zs = cc in
    let j : ℕ = k * 8 - h in
    let e : k * 8 ≡ h + j = omega arith in
    let l : length (bits h acc) ≡ h = length_bits h acc in
    let p : take (length (bits h acc) + j) (bits h acc ++ zs) ≡ bits h acc ++ take j zs = take-append-add (bits h acc) zs j in
    let q : take j zs ≡ replicate j 0 = take-replicate j z 0 (omega arith) in
    run_take k (to_be_bytes w32 n) ∙ ap (take (k * 8)) all ∙ cc

-- the bits that fill the last byte are zeros
pub finished : (os ns : List ℕ) (at acc h n : ℕ) → at ≤ length os → h < 32 → length os ≡ bytes_for (length (run 8 (take at os) ++ bits h acc)) → ns ≡ take (length os - at) (to_be_bytes w32 n) → n ≡ (acc * 2 ^ (32 - h)) % 2 ^ 64 % 2 ^ 32 → run 8 (take at os ++ ns) ≡ filled (run 8 (take at os) ++ bits h acc)
finished os ns at acc h n le few all is word =
    let k : ℕ = length os - at in
    let behind : List ℕ = run 8 (take at os) in
    let done : List ℕ = behind ++ bits h acc in
    let long : length done ≡ at * 8 + h = length_written os at acc h le in
    let zeros : List ℕ = replicate (8 * bytes_for (length done) - length done) 0 in
    let r : run 8 (take at os ++ ns) ≡ behind ++ run 8 ns = run_append 8 (take at os) ns in
    let t : run 8 (take k (to_be_bytes w32 n)) ≡ bits h acc ++ replicate (k * 8 - h) 0 = rest_written acc h n k (omega arith) (omega arith) few word in
    let e : k * 8 - h ≡ 8 * bytes_for (length done) - length done = omega (arith, ap (λ m. 8 * m) all) in
    let z : replicate (k * 8 - h) 0 ≡ zeros = ap (λ m. replicate m 0) e in
    let a : done ++ zeros ≡ behind ++ (bits h acc ++ zeros) = append_assoc behind (bits h acc) zeros in
    cc

-- four bytes of an area replaced: its length is the same
pub length_put : {X : Type 0} (at k : ℕ) (xs ys : List X) → at + k ≤ length xs → length ys ≡ k → length (put_mid at k xs ys) ≡ length xs
length_put at k xs ys le e = simp (length-append, length-take, length-drop) (omega arith)

-- two lists of fields written one after the other, and zeros after them
pub packed_by : (v w : ℕ) (xs ys ws out none first second : List ℕ) → ws ≡ out → none ≡ [] → first ≡ none ++ run v xs → second ≡ first ++ run w ys → run 8 out ≡ filled second → length ws ≡ bytes_for (length xs * v + length ys * w) → ((i : ℕ) → get_or ws i 0 < 256) → ws ≡ packed v xs w ys
unfolding packed
packed_by v w xs ys ws out none first second last begin a b all long small =
    let bs : List ℕ = run v xs ++ run w ys in
    let is : second ≡ bs = cc in
    let l : length bs ≡ length xs * v + length ys * w = omega (arith, length-append (run v xs) (run w ys), length_run v xs, length_run w ys) in
    bytes_are ws bs (8 * bytes_for (length bs) - length bs) (All-from_get_or (λ x. x < 256) ws 0 (λ i h. small i)) (long ∙ ap bytes_for (sym l)) refl (ap (run 8) last ∙ all ∙ ap filled is)
