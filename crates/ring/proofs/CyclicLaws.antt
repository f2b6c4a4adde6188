-- The laws of the cyclic product in whole numbers.
use Rattle.std.proofs.Common.{◌≡◌, ℕ, ◌+◌, ◌-◌, ◌*◌, ◌%◌, ◌<◌, ◌≤◌, ltb, List, [], ◌∷◌, length, ℤ, pos, ◌+ℤ◌, ◌-ℤ◌, nat_abs, sym, refl, ap, ◌∙◌, ap₂, inl, inr, mod-lt, arith}
use native.Mathlib.Nat.{mod-add-mod}
use borrow.Author.Differences.{ints}
use Rattle.std.proofs.lemmas.Bool.{cases_lt, cond-true, cond-false, lt-ltb, le-ltb}
use Rattle.ring.specs.Cyclic.{back, cyclic_in, cyclic, reduced, mod_z}
use Rattle.ring.specs.Congruence.{Congruent}
use Rattle.ring.specs.RingLaws.{Balanced, Multiplies}
use Rattle.ring.proofs.Congruences.{cong_same, cong_sub, mod_z_cong, mod_z_same}

-- a map that keeps zero and differences keeps products
pub cyclic_map : {X Y : Type 0} (h : X → Y) (none : X) (minus : X → X → X) (none' : Y) (minus' : Y → Y → Y) → h none ≡ none' → ((x y : X) → h (minus x y) ≡ minus' (h x) (h y)) → (m : ℕ) (f : ℕ → X) (s : List ℕ) (i : ℕ) → h (cyclic_in none minus m f s i) ≡ cyclic_in none' minus' m (λ j. h (f j)) s i
unfolding cyclic_in
cyclic_map h none minus none' minus' e k m f [] i = e
cyclic_map h none minus none' minus' e k m f (p ∷ ps) i =
    k (f (back m i p)) (cyclic_in none minus m f ps i) ∙ ap (minus' (h (f (back m i p)))) (cyclic_map h none minus none' minus' e k m f ps i)

-- ---- additive
add_four : (a b c d : ℤ) → (a +ℤ b) -ℤ (c +ℤ d) ≡ (a -ℤ c) +ℤ (b -ℤ d)
add_four a b c d = omega (arith, ints)

cyclic_add : (m : ℕ) (f g : ℕ → ℤ) (s : List ℕ) (i : ℕ) → cyclic m (λ j. f j +ℤ g j) s i ≡ cyclic m f s i +ℤ cyclic m g s i
unfolding cyclic_in
cyclic_add m f g [] i = refl
cyclic_add m f g (p ∷ ps) i = ap (λ z. (f (back m i p) +ℤ g (back m i p)) -ℤ z) (cyclic_add m f g ps i) ∙ add_four (f (back m i p)) (g (back m i p)) (cyclic m f ps i) (cyclic m g ps i)

-- ---- remainders
cyclic_cong : (m q : ℕ) (f g : ℕ → ℤ) → ((j : ℕ) → Congruent q (f j) (g j)) → (s : List ℕ) (i : ℕ) → Congruent q (cyclic m f s i) (cyclic m g s i)
unfolding cyclic_in
cyclic_cong m q f g h [] i = cong_same refl
cyclic_cong m q f g h (p ∷ ps) i = cong_sub (h (back m i p)) (cyclic_cong m q f g h ps i)

-- ---- bounded
abs_sub : (x y : ℤ) → nat_abs (x -ℤ y) ≤ nat_abs x + nat_abs y
abs_sub x y = omega (arith, ints)

pub cyclic_bound : (m : ℕ) (f : ℕ → ℤ) (c : ℕ) → ((j : ℕ) → nat_abs (f j) ≤ c) → (s : List ℕ) (i : ℕ) → nat_abs (cyclic m f s i) ≤ length s * c
unfolding cyclic_in
cyclic_bound m f c h [] i = omega arith
cyclic_bound m f c h (p ∷ ps) i =
    omega (arith, abs_sub (f (back m i p)) (cyclic m f ps i), h (back m i p), cyclic_bound m f c h ps i)

-- ---- exchange
back_back : (m i p o : ℕ) → back m (back m i p) o ≡ back m (back m i o) p
back_back m i p o = mod-add-mod (i + (m - p)) m (m - o) ∙ ap (λ n. n % m) (omega arith) ∙ sym (mod-add-mod (i + (m - o)) m (m - p))

sub_four : (a b c d : ℤ) → (a -ℤ b) -ℤ (c -ℤ d) ≡ (a -ℤ c) -ℤ (b -ℤ d)
sub_four a b c d = omega (arith, ints)

cyclic_sub : (m : ℕ) (f g : ℕ → ℤ) (s : List ℕ) (i : ℕ) → cyclic m (λ j. f j -ℤ g j) s i ≡ cyclic m f s i -ℤ cyclic m g s i
unfolding cyclic_in
cyclic_sub m f g [] i = refl
cyclic_sub m f g (p ∷ ps) i = ap (λ z. (f (back m i p) -ℤ g (back m i p)) -ℤ z) (cyclic_sub m f g ps i) ∙ sub_four (f (back m i p)) (g (back m i p)) (cyclic m f ps i) (cyclic m g ps i)

cyclic_zero : (m : ℕ) (s : List ℕ) (i : ℕ) → cyclic m (λ _. pos 0) s i ≡ pos 0
unfolding cyclic_in
cyclic_zero m [] i = refl
cyclic_zero m (p ∷ ps) i = ap (λ z. pos 0 -ℤ z) (cyclic_zero m ps i)

-- a shift may be made before the product or after it
cyclic_back : (m : ℕ) (f : ℕ → ℤ) (s : List ℕ) (p i : ℕ) → cyclic m (λ j. f (back m j p)) s i ≡ cyclic m f s (back m i p)
unfolding cyclic_in
cyclic_back m f [] p i = refl
cyclic_back m f (o ∷ ps) p i = ap₂ (λ y z. f y -ℤ z) (back_back m i o p) (cyclic_back m f ps p i)

cyclic_comm : (m : ℕ) (f : ℕ → ℤ) (s r : List ℕ) (i : ℕ) → cyclic m (cyclic m f s) r i ≡ cyclic m (cyclic m f r) s i
unfolding cyclic_in
cyclic_comm m f s [] i = sym (cyclic_zero m s i)
cyclic_comm m f s (p ∷ ps) i =
    ap₂ (λ y z. y -ℤ z) (sym (cyclic_back m f s p i)) (cyclic_comm m f s ps i)
    ∙ sym (cyclic_sub m (λ j. f (back m j p)) (cyclic m f ps) s i)

cancels : (c : ℤ) → c -ℤ (c -ℤ pos 0) ≡ pos 0
cancels c = omega (arith, ints)

-- a constant times a secret whose coefficients sum to 0
cyclic_constant : (m : ℕ) (c : ℤ) (s : List ℕ) (i : ℕ) → Balanced s → cyclic m (λ _. c) s i ≡ pos 0
unfolding cyclic_in
cyclic_constant m c [] i e = refl
cyclic_constant m c (p ∷ []) i e = absurd (omega arith)
cyclic_constant m c (p ∷ o ∷ ps) i e = ap (λ z. c -ℤ (c -ℤ z)) (cyclic_constant m c ps i (omega arith)) ∙ cancels c

-- only coefficients 0 to m - 1 count
cyclic_below : (m : ℕ) → 0 < m → (f g : ℕ → ℤ) → ((j : ℕ) → j < m → f j ≡ g j) → (s : List ℕ) (i : ℕ) → cyclic m f s i ≡ cyclic m g s i
unfolding cyclic_in
cyclic_below m some f g e [] i = refl
cyclic_below m some f g e (p ∷ ps) i = ap₂ ◌-ℤ◌ (e (back m i p) (mod-lt (i + (m - p)) some)) (cyclic_below m some f g e ps i)

less_self : (x : ℤ) → pos 0 ≡ x -ℤ x
less_self x = omega (arith, ints)

less_none : (x : ℤ) → x -ℤ pos 0 ≡ x
less_none x = omega (arith, ints)

-- up to n, the reduction subtracts coefficient n from each, and from itself too
pub reduced_is : (n : ℕ) (f : ℕ → ℤ) (j : ℕ) → j < n + 1 → reduced n f j ≡ f j -ℤ f n
reduced_is n f j lt = elim (cases_lt j n) [
  | inl less ↦ cond-true (ltb j n) _ _ (lt-ltb j n less)
  | inr more ↦
      let e : n ≡ j = omega arith in
      cond-false (ltb j n) _ _ (le-ltb j n more) ∙ less_self (f n) ∙ ap (λ k. f k -ℤ f n) e
]

-- the reduction makes no difference to the product by a balanced secret
cyclic_reduced : (n : ℕ) (f : ℕ → ℤ) (r : List ℕ) (i : ℕ) → Balanced r → cyclic (n + 1) (reduced n f) r i ≡ cyclic (n + 1) f r i
cyclic_reduced n f r i e =
    cyclic_below (n + 1) (omega arith) (reduced n f) (λ j. f j -ℤ f n) (reduced_is n f) r i
    ∙ cyclic_sub (n + 1) f (λ _. f n) r i
    ∙ ap (λ z. cyclic (n + 1) f r i -ℤ z) (cyclic_constant (n + 1) (f n) r i e)
    ∙ less_none (cyclic (n + 1) f r i)

pub cyclic_multiplies : (n : ℕ) → Multiplies n (cyclic (n + 1))
cyclic_multiplies n = record {
  additive = cyclic_add (n + 1);
  remainders = λ q some f s i. mod_z_same q some (cyclic_cong (n + 1) q (λ j. pos (mod_z q (f j))) f (λ j. mod_z_cong q some (f j)) s i);
  bounded = cyclic_bound (n + 1);
  exchange = λ f s r es er i.
      cyclic_reduced n (cyclic (n + 1) f s) r i er ∙ cyclic_comm (n + 1) f s r i ∙ sym (cyclic_reduced n (cyclic (n + 1) f r) s i es);
}
