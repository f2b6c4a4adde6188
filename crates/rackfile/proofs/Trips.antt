-- What is written is read back as it was, and what is read was written so.
use Rattle.std.proofs.Common.{◌≡◌, ℕ, suc, ◌+◌, ◌*◌, ◌/◌, ◌%◌, Bool, true, false, cond, not, eqb, List, [], ◌∷◌, ◌++◌, length, take, drop, Ok, Err, Result, sym, refl, ap, ◌∙◌, ap₂, append_assoc, arith, length-append, MatchResult, Option, Some, None}
use Rattle.std.proofs.lemmas.List.{take_at, drop_at, take_all, drop-drop}
use Rattle.std.proofs.lemmas.Slice.Eq.{bytes_eq-Decides}
use Rattle.std.proofs.lemmas.Bool.{eq-eqb}
use Rattle.std.specs.Str.{bytes_eq}
use Rattle.params.specs.Sums.{bit}
use Rattle.shake.proofs.Laws.{length_shake256}
use Rattle.rack.specs.declared.record.Coins.{Coins}
use Rattle.rackfile.specs.Words.{word_bytes, words_from}
use Rattle.rack.specs.Calls.{place_count, coins_from, coin_bytes}
use Rattle.rackfile.specs.Places.{place_size, unused_bytes, place_bytes, places_bytes, place_from, places_from, WholeCoins, WholePlace, WholePlaces}
use Rattle.rackfile.specs.Format.{file_size, letters, number_bytes, body_bytes, checksum_of, encoded, numbers_from, image_from, decoded, Whole, NeverWritten}
use Rattle.rackfile.specs.declared.image.Image.{Image}
use Rattle.rackfile.specs.Sets.{KeptNumbers}
use Rattle.rackfile.specs.declared.fault.RackFault.{RackFault}

-- words

word_back : (x : ℕ) → x / 256 * 256 + x % 256 ≡ x
word_back x = omega arith

words_back : (ws : List ℕ) → words_from (word_bytes ws) ≡ ws
words_back [] = refl
words_back (w ∷ ws) = ap₂ (λ (x : ℕ) (xs : List ℕ). x ∷ xs) (word_back w) (words_back ws)

length_words : (ws : List ℕ) → length (word_bytes ws) ≡ 2 * length ws
length_words [] = refl
length_words (w ∷ ws) = omega (arith, length_words ws)

-- places

length_coins : (c : Coins) → WholeCoins c → length (coin_bytes c) ≡ 96
length_coins c w = simp length-append (omega arith)

length_place : (p : Option Coins) → WholePlace p → length (place_bytes p) ≡ place_size
unfolding unused_bytes
length_place None w = refl
length_place (Some c) w = ap suc (length_coins c w)

coins_back : (c : Coins) → WholeCoins c → coins_from (coin_bytes c) ≡ c
coins_back c w =
    let rest : List ℕ = c.seed ++ c.z in
    let one : take 32 (coin_bytes c) ≡ c.sigma = take_at c.sigma rest 32 w.sigma in
    let past : drop 32 (coin_bytes c) ≡ rest = drop_at c.sigma rest 32 w.sigma in
    let two : take 32 (drop 32 (coin_bytes c)) ≡ c.seed = ap (take 32) past ∙ take_at c.seed c.z 32 w.seed in
    let last : drop 64 (coin_bytes c) ≡ c.z = sym (drop-drop 32 32 (coin_bytes c)) ∙ ap (drop 32) past ∙ drop_at c.seed c.z 32 w.seed in
    let three : take 32 (drop 64 (coin_bytes c)) ≡ c.z = ap (take 32) last ∙ take_all 32 c.z (omega (arith, w.z)) in
    rw (one, two, three)

place_back : (p : Option Coins) → WholePlace p → place_from (place_bytes p) ≡ p
unfolding unused_bytes
place_back None w = refl
place_back (Some c) w = ap (λ (bs : List ℕ). Some (coins_from bs)) (take_all 96 (coin_bytes c) (omega (arith, length_coins c w))) ∙ ap (λ (d : Coins). Some d) (coins_back c w)

places_back : (ps : List (Option Coins)) → WholePlaces ps → places_from (length ps) (places_bytes ps) ≡ ps
places_back [] w = refl
places_back (p ∷ ps) w =
    let n : length (place_bytes p) ≡ place_size = length_place p (w 0) in
    ap₂ (λ (q : Option Coins) (qs : List (Option Coins)). q ∷ qs)
    (ap place_from (take_at (place_bytes p) (places_bytes ps) place_size n) ∙ place_back p (w 0))
    (ap (places_from (length ps)) (drop_at (place_bytes p) (places_bytes ps) place_size n) ∙ places_back ps (λ i. w (suc i)))

length_places : (ps : List (Option Coins)) → WholePlaces ps → length (places_bytes ps) ≡ place_size * length ps
length_places [] w = refl
length_places (p ∷ ps) w = simp length-append (omega (arith, length_place p (w 0), length_places ps (λ i. w (suc i))))

-- the numbers of a set

mark_back : (b : Bool) → not (eqb (bit b) 0) ≡ b
mark_back true = refl
mark_back false = refl

length_numbers : (s : KeptNumbers) → length s.lengths ≡ 10 → length (number_bytes s) ≡ 35
length_numbers s h = omega (arith, length_words s.lengths)

numbers_back : (s : KeptNumbers) → length s.lengths ≡ 10 → numbers_from (number_bytes s) ≡ s
numbers_back s h =
    let last : words_from (take 20 (word_bytes s.lengths)) ≡ s.lengths = ap words_from (take_all 20 (word_bytes s.lengths) (omega (arith, length_words s.lengths))) ∙ words_back s.lengths in
    rw (word_back s.n, word_back s.h, word_back s.qb, word_back s.pb, word_back s.tb, word_back s.kappa, word_back s.f, mark_back s.block, last)

-- the whole file

module _ (l n p rest : List ℕ) (hl : length l ≡ 8) (hn : length n ≡ 35) (hp : length p ≡ 388) where
  regrouped : (l ++ (n ++ p)) ++ rest ≡ l ++ (n ++ (p ++ rest))
  regrouped = simp append_assoc

  first_part : take 8 ((l ++ (n ++ p)) ++ rest) ≡ l
  first_part = ap (take 8) regrouped ∙ take_at l (n ++ (p ++ rest)) 8 hl

  past_first : drop 8 ((l ++ (n ++ p)) ++ rest) ≡ n ++ (p ++ rest)
  past_first = ap (drop 8) regrouped ∙ drop_at l (n ++ (p ++ rest)) 8 hl

  second_part : take 35 (drop 8 ((l ++ (n ++ p)) ++ rest)) ≡ n
  second_part = ap (take 35) past_first ∙ take_at n (p ++ rest) 35 hn

  third_part : take 388 (drop 43 ((l ++ (n ++ p)) ++ rest)) ≡ p
  third_part =
      ap (take 388) (sym (drop-drop 35 8 ((l ++ (n ++ p)) ++ rest)) ∙ ap (drop 35) past_first ∙ drop_at n (p ++ rest) 35 hn)
      ∙ take_at p rest 388 hp

length_places_bytes : (x : Image) → Whole x → length (places_bytes x.places) ≡ 388
length_places_bytes x w = omega (arith, length_places x.places w.places, w.count)

length_body : (x : Image) → Whole x → length (body_bytes x) ≡ 431
unfolding body_bytes
length_body x w = simp length-append (omega (arith, length_numbers x.numbers w.lengths, length_places_bytes x w))

length_encoded : (x : Image) → Whole x → length (encoded x) ≡ file_size
unfolding encoded checksum_of
length_encoded x w = simp length-append (omega (arith, length_body x w, length_shake256 (0x52 ∷ body_bytes x) 32))

letters_back : (x : Image) → Whole x → take 8 (encoded x) ≡ letters
unfolding encoded body_bytes
letters_back x w = first_part letters (number_bytes x.numbers) (places_bytes x.places) (checksum_of (body_bytes x)) refl (length_numbers x.numbers w.lengths) (length_places_bytes x w)

image_back : (x : Image) → Whole x → image_from (encoded x) ≡ x
unfolding encoded body_bytes image_from
image_back x w =
    let n : List ℕ = number_bytes x.numbers in
    let p : List ℕ = places_bytes x.places in
    let ln : length (number_bytes x.numbers) ≡ 35 = length_numbers x.numbers w.lengths in
    let lp : length (places_bytes x.places) ≡ 388 = length_places_bytes x w in
    let sum : List ℕ = checksum_of (body_bytes x) in
    ap₂ (λ (a : KeptNumbers) (b : List (Option Coins)). record { numbers = a; places = b })
    (ap numbers_from (second_part letters n p sum refl ln lp) ∙ numbers_back x.numbers w.lengths)
    (ap (places_from place_count) (third_part letters n p sum refl ln lp) ∙ ap (λ (k : ℕ). places_from k p) (sym w.count) ∙ places_back x.places w.places)

read_as : (bs : List ℕ) (x : Image) → length bs ≡ file_size → take 8 bs ≡ letters → image_from bs ≡ x → encoded x ≡ bs → decoded bs ≡ Ok x
read_as bs x n l is w =
    let long : eqb (length bs) file_size ≡ true = eq-eqb (length bs) file_size n in
    let named : bytes_eq (take 8 bs) letters ≡ true = (bytes_eq-Decides (take 8 bs) letters).1 l in
    let again : bytes_eq (encoded (image_from bs)) bs ≡ true = (bytes_eq-Decides (encoded (image_from bs)) bs).1 (ap encoded is ∙ w) in
    rw (long, named, again, is)

-- what is written is read back
pub there : (x : Image) → Whole x → decoded (encoded x) ≡ Ok x
there x w = read_as (encoded x) x (length_encoded x w) (letters_back x w) (image_back x w) refl

passed : (t : Bool) (r : Result Image RackFault) (e : RackFault) (x : Image) → cond t r (Err e) ≡ Ok x → (t ≡ true) × (r ≡ Ok x)
passed true r e x h = (refl, h)
passed false r e x h = cc

-- what is read was written so
back : (bs : List ℕ) (x : Image) → decoded bs ≡ Ok x → encoded x ≡ bs
back bs x h =
    let (long, h1) = passed (eqb (length bs) file_size) _ _ x h in
    let (named, h2) = passed (bytes_eq (take 8 bs) letters) _ _ x h1 in
    let (again, h3) = passed (bytes_eq (encoded (image_from bs)) bs) _ _ x h2 in
    let is : x ≡ image_from bs = cc in
    ap encoded is ∙ (bytes_eq-Decides (encoded (image_from bs)) bs).0 again

-- and what is refused was not
pub exact : (bs : List ℕ) (r : Result Image RackFault) → r ≡ decoded bs → MatchResult r (λ x. encoded x ≡ bs) (λ _. NeverWritten bs)
exact bs (Ok x) h = back bs x (sym h)
exact bs (Err e) h = λ x w written. let q : Err e ≡ Ok x = h ∙ ap decoded (sym written) ∙ there x w in cc
