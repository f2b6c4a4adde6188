-- From words that wrap to whole numbers.
use Rattle.std.proofs.Common.{◌≡◌, ℕ, ◌+◌, ◌*◌, ◌%◌, ◌^◌, ◌≤◌, List, map, length, get_or, ℤ, pos, ◌-ℤ◌, nat_abs, sym, refl, ap, ◌∙◌, arith, lit<, w32, SFits}
use mathlib.Core.Path.{fun_ext}
use borrow.Author.Differences.{ints}
use Rattle.std.proofs.Math.ListN.{get_or-map}
use Rattle.std.specs.Int.{int_wrap}
use Rattle.std.proofs.lemmas.Int.{int_wrap_fits, int_wrap-add_left, int_wrap-sub_right}
use Rattle.ring.specs.Words.{sub16, sub32}
use Rattle.ring.specs.Lists.{listed, whole, signed}
use Rattle.ring.specs.Cyclic.{cyclic_in, cyclic, mod_z, cyclic_words, cyclic_signed}
use Rattle.ring.proofs.Congruences.{mod_z_sub}
use Rattle.ring.proofs.CyclicLaws.{cyclic_map, cyclic_bound}
use Rattle.ring.proofs.Listing.{get_d_listed, length_listed, listed_holds}

-- a polynomial of any sort over words of 16 bits
pub words_product : {X : Type 0} (word : X → ℕ) (d : X) → word d ≡ 0 → (xs : List X) (ps : List ℕ)
    → listed (length xs + 1) (cyclic_in 0 sub16 (length xs + 1) (λ j. get_or (map (λ x. word x % 2 ^ 16) xs) j 0) ps) ≡ cyclic_words (length xs) (map word xs) ps
unfolding cyclic_words
words_product word d zero xs ps =
    let m = length xs + 1 in
    let place : (j : ℕ) → get_or (map (λ x. word x % 2 ^ 16) xs) j 0 ≡ mod_z (2 ^ 16) (whole (map word xs) j) = λ j.
    ap (λ e. get_or (map (λ x. word x % 2 ^ 16) xs) j (e % 2 ^ 16)) (sym zero)
    ∙ get_or-map (λ x. word x % 2 ^ 16) xs j d
    ∙ ap (λ y. y % 2 ^ 16) (sym (get_or-map word xs j d) ∙ ap (get_or (map word xs) j) zero) in
    ap (listed m) (fun_ext (λ k.
    ap (λ f. cyclic_in 0 sub16 m f ps k) (fun_ext place)
    ∙ sym (cyclic_map (mod_z (2 ^ 16)) (pos 0) ◌-ℤ◌ 0 sub16 refl (mod_z_sub (2 ^ 16) (lit< tt)) m (whole (map word xs)) ps k)))

wrapped_sub : (x y : ℤ) → int_wrap w32 (x -ℤ y) ≡ sub32 (int_wrap w32 x) (int_wrap w32 y)
wrapped_sub x y = sym (int_wrap-sub_right w32 (int_wrap w32 x) y ∙ int_wrap-add_left w32 x _)

near_fits : (z : ℤ) → nat_abs z ≤ 2 ^ 28 → SFits w32 z
near_fits z h = omega (arith, ints)

-- signed numbers: none wraps where the product stays below 2^31 in size
pub signed_product : (zs : List ℤ) (ps : List ℕ) → ((j : ℕ) → nat_abs (signed zs j) ≤ 2 ^ 14) → length ps * 2 ^ 14 ≤ 2 ^ 28
    → listed (length zs + 1) (cyclic_in (pos 0) sub32 (length zs + 1) (λ j. get_or (map (λ x. int_wrap w32 x) zs) j (pos 0)) ps) ≡ cyclic_signed (length zs) zs ps
unfolding cyclic_signed
signed_product zs ps near few =
    let m = length zs + 1 in
    let zero : int_wrap w32 (pos 0) ≡ pos 0 = int_wrap_fits w32 (pos 0) (near_fits (pos 0) (omega arith)) in
    let place : (j : ℕ) → get_or (map (λ x. int_wrap w32 x) zs) j (pos 0) ≡ int_wrap w32 (signed zs j) = λ j.
    ap (get_or (map (λ x. int_wrap w32 x) zs) j) (sym zero) ∙ get_or-map (λ x. int_wrap w32 x) zs j (pos 0) in
    ap (listed m) (fun_ext (λ k.
    ap (λ f. cyclic_in (pos 0) sub32 m f ps k) (fun_ext place)
    ∙ sym (cyclic_map (int_wrap w32) (pos 0) ◌-ℤ◌ (pos 0) sub32 zero wrapped_sub m (signed zs) ps k)
    ∙ int_wrap_fits w32 (cyclic m (signed zs) ps k) (near_fits (cyclic m (signed zs) ps k) (omega (arith, cyclic_bound m (signed zs) (2 ^ 14) near ps k)))))

-- ---- the lists, place by place
pub length_cyclic_words : (n : ℕ) (ws ps : List ℕ) → length (cyclic_words n ws ps) ≡ n + 1
unfolding cyclic_words
length_cyclic_words n ws ps = length_listed (n + 1) _

pub get_d_cyclic_words : (n : ℕ) (ws ps : List ℕ) (k d : ℕ) → k ≤ n → get_or (cyclic_words n ws ps) k d ≡ mod_z (2 ^ 16) (cyclic (n + 1) (whole ws) ps k)
unfolding cyclic_words
get_d_cyclic_words n ws ps k d le = get_d_listed (n + 1) _ k d (omega arith)

pub length_cyclic_signed : (n : ℕ) (zs : List ℤ) (ps : List ℕ) → length (cyclic_signed n zs ps) ≡ n + 1
unfolding cyclic_signed
length_cyclic_signed n zs ps = length_listed (n + 1) _

pub get_d_cyclic_signed : (n : ℕ) (zs : List ℤ) (ps : List ℕ) (k : ℕ) (d : ℤ) → k ≤ n → get_or (cyclic_signed n zs ps) k d ≡ cyclic (n + 1) (signed zs) ps k
unfolding cyclic_signed
get_d_cyclic_signed n zs ps k d le = get_d_listed (n + 1) _ k d (omega arith)

-- no coefficient of a product of signed numbers is larger than 2^28 in size
pub signed_near : (zs : List ℤ) (ps : List ℕ) → ((j : ℕ) → nat_abs (signed zs j) ≤ 2 ^ 14) → length ps * 2 ^ 14 ≤ 2 ^ 28 → (k : ℕ) → nat_abs (signed (cyclic_signed (length zs) zs ps) k) ≤ 2 ^ 28
unfolding cyclic_signed
signed_near zs ps near few k =
    listed_holds (λ z. nat_abs z ≤ 2 ^ 28) (length zs + 1) (cyclic (length zs + 1) (signed zs) ps) (pos 0) (omega arith) (λ i. omega (arith, cyclic_bound (length zs + 1) (signed zs) (2 ^ 14) near ps i)) k
