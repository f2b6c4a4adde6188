-- Bytes that are written part by part.
use Rattle.std.proofs.Common.{◌≡◌, ℕ, suc, ◌+◌, ◌≤◌, List, [], ◌∷◌, ◌++◌, length, take, set, sym, refl, ap, ◌∙◌, ap₂, append_assoc, arith, length-append, length-drop, length-set, length-take}
use borrow.Rule.Slice.PartMut.{put_mid}
use Rattle.std.proofs.lemmas.List.{take_all, take_more_set}
use Rattle.std.proofs.lemmas.Slice.{take-put_mid}

length_put_mid : (a k : ℕ) (xs ys : List ℕ) → a + k ≤ length xs → length ys ≡ k → length (put_mid a k xs ys) ≡ length xs
length_put_mid a k xs ys h n = simp (length-append, length-take, length-drop) (omega arith)

-- one more part after a front that stands already
next_part : (front xs ys : List ℕ) (a k n : ℕ) → take a xs ≡ front → a + k ≡ n → n ≤ length xs → length ys ≡ k → take n (put_mid a k xs ys) ≡ front ++ ys
next_part front xs ys a k n e m h l = take-put_mid a k xs ys n (omega arith) (omega arith) ∙ ap (λ (f : List ℕ). f ++ ys) e

-- parts a, b and c, each known by another name
pub two_parts : (xs a b a' b' : List ℕ) (i j : ℕ) → length a ≡ i → length b ≡ j → length xs ≡ i + j → a ≡ a' → b ≡ b' → put_mid i j (put_mid 0 i xs a) b ≡ a' ++ b'
two_parts xs a b a' b' i j la lb l ea eb =
    let one : List ℕ = put_mid 0 i xs a in
    let two : List ℕ = put_mid i j one b in
    let l1 : length one ≡ length xs = length_put_mid 0 i xs a (omega arith) la in
    let l2 : length two ≡ length one = length_put_mid i j one b (omega arith) lb in
    let t1 : take i one ≡ a = next_part [] xs a 0 i i refl (omega arith) (omega arith) la in
    sym (take_all (i + j) two (omega arith)) ∙ next_part a one b i j (i + j) t1 refl (omega arith) lb ∙ ap₂ (λ (x y : List ℕ). x ++ y) ea eb

pub three_parts : (xs a b c a' b' c' : List ℕ) (i j k m : ℕ) → length a ≡ i → length b ≡ j → length c ≡ k → i + j ≡ m → length xs ≡ m + k
    → a ≡ a' → b ≡ b' → c ≡ c' → put_mid m k (put_mid i j (put_mid 0 i xs a) b) c ≡ a' ++ (b' ++ c')
three_parts xs a b c a' b' c' i j k m la lb lc em l ea eb ec =
    let two : List ℕ = put_mid i j (put_mid 0 i xs a) b in
    let three : List ℕ = put_mid m k two c in
    let l1 : length (put_mid 0 i xs a) ≡ length xs = length_put_mid 0 i xs a (omega arith) la in
    let l2 : length two ≡ length xs = length_put_mid i j (put_mid 0 i xs a) b (omega arith) lb ∙ l1 in
    let l3 : length three ≡ length two = length_put_mid m k two c (omega arith) lc in
    let t1 : take i (put_mid 0 i xs a) ≡ a = next_part [] xs a 0 i i refl (omega arith) (omega arith) la in
    let t2 : take m two ≡ a ++ b = next_part a (put_mid 0 i xs a) b i j m t1 em (omega arith) lb in
    sym (take_all (m + k) three (omega arith))
    ∙ next_part (a ++ b) two c m k (m + k) t2 refl (omega arith) lc
    ∙ append_assoc a b c
    ∙ ap₂ (λ (x y : List ℕ). x ++ y) ea (ap₂ (λ (x y : List ℕ). x ++ y) eb ec)

-- a byte between two parts
pub byte_between : (xs a c a' c' : List ℕ) (b b' i k m : ℕ) → length a ≡ i → length c ≡ k → i + 1 ≡ m → length xs ≡ m + k
    → a ≡ a' → b ≡ b' → c ≡ c' → put_mid m k (set (put_mid 0 i xs a) i b) c ≡ a' ++ (b' ∷ c')
byte_between xs a c a' c' b b' i k m la lc em l ea eb ec =
    let one : List ℕ = put_mid 0 i xs a in
    let two : List ℕ = set one i b in
    let three : List ℕ = put_mid m k two c in
    let l1 : length one ≡ length xs = length_put_mid 0 i xs a (omega arith) la in
    let l2 : length two ≡ length one = length-set one i b in
    let l3 : length three ≡ length two = length_put_mid m k two c (omega arith) lc in
    let t1 : take i one ≡ a = next_part [] xs a 0 i i refl (omega arith) (omega arith) la in
    let t2 : take m two ≡ a ++ b ∷ [] = ap (λ (n : ℕ). take n two) (sym em) ∙ take_more_set one i b (omega arith) ∙ ap (λ (f : List ℕ). f ++ b ∷ []) t1 in
    sym (take_all (m + k) three (omega arith))
    ∙ next_part (a ++ b ∷ []) two c m k (m + k) t2 refl (omega arith) lc
    ∙ append_assoc a (b ∷ []) c
    ∙ ap₂ (λ (x y : List ℕ). x ++ y) ea (ap₂ (λ (x : ℕ) (y : List ℕ). x ∷ y) eb ec)
