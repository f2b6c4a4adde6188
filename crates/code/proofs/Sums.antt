-- More laws of sums over a range.
use Rattle.std.proofs.Common.{◌≡◌, ℕ, zero, suc, ◌+◌, ◌-◌, ◌*◌, ◌%◌, ◌<◌, ◌≤◌, Bool, true, sym, refl, ap, ◌∙◌, inl, inr, arith}
use Rattle.std.proofs.lemmas.Bool.{cases_Bool}
use Rattle.params.specs.Sums.{sum, bit}

pub sum_le : (n : ℕ) (F G : ℕ → ℕ) → ((i : ℕ) → i < n → F i ≤ G i) → sum n F ≤ sum n G
unfolding sum
sum_le zero F G h = omega arith
sum_le (suc n) F G h = omega (arith, sum_le n F G (λ i lt. h i (omega arith)), h n (omega arith))

pub sum_zero : (n : ℕ) (F : ℕ → ℕ) → ((i : ℕ) → i < n → F i ≡ 0) → sum n F ≡ 0
unfolding sum
sum_zero zero F h = refl
sum_zero (suc n) F h = omega (arith, sum_zero n F (λ i lt. h i (omega arith)), h n (omega arith))

pub sum_ones : (n : ℕ) → sum n (λ _. 1) ≡ n
unfolding sum
sum_ones zero = refl
sum_ones (suc n) = omega (arith, sum_ones n)

pub sum_add : (n : ℕ) (F G : ℕ → ℕ) → sum n (λ i. F i + G i) ≡ sum n F + sum n G
unfolding sum
sum_add zero F G = refl
sum_add (suc n) F G = omega (arith, sum_add n F G)

pub sum_times : (n a : ℕ) (F : ℕ → ℕ) → sum n (λ i. a * F i) ≡ a * sum n F
unfolding sum
sum_times zero a F = omega arith
sum_times (suc n) a F = omega (arith, sum_times n a F)

-- the order of two sums
pub sum_swap : (n m : ℕ) (F : ℕ → ℕ → ℕ) → sum n (λ i. sum m (λ j. F i j)) ≡ sum m (λ j. sum n (λ i. F i j))
unfolding sum
sum_swap zero m F = sym (sum_zero m (λ _. 0) (λ _ _. refl))
sum_swap (suc n) m F = ap (λ x. x + sum m (F n)) (sum_swap n m F) ∙ sym (sum_add m (λ j. sum n (λ i. F i j)) (F n))

-- a range in two parts
pub sum_append : (a b : ℕ) (F : ℕ → ℕ) → sum (a + b) F ≡ sum a F + sum b (λ i. F (a + i))
unfolding sum
sum_append a zero F = let e : a + 0 ≡ a = omega arith in omega (arith, ap (λ n. sum n F) e)
sum_append a (suc b) F = let e : a + suc b ≡ suc (a + b) = omega arith in omega (arith, ap (λ n. sum n F) e, sum_append a b F)

-- a shorter range
pub sum_upto : (a n : ℕ) (F : ℕ → ℕ) → a ≤ n → sum a F ≤ sum n F
sum_upto a n F le = let e : n ≡ a + (n - a) = omega arith in omega (arith, ap (λ x. sum x F) e, sum_append a (n - a) F)

-- a sum modulo 2, term by term
pub sum_parity : (n : ℕ) (F G K : ℕ → ℕ) → ((i : ℕ) → i < n → F i % 2 ≡ (G i + K i) % 2) → sum n F % 2 ≡ (sum n G + sum n K) % 2
unfolding sum
sum_parity zero F G K h = refl
sum_parity (suc n) F G K h = omega (arith, sum_parity n F G K (λ i lt. h i (omega arith)), h n (omega arith))

-- at most one test passes
pub sum_once : (n : ℕ) (b : ℕ → Bool) → ((i j : ℕ) → i < n → j < n → b i ≡ true → b j ≡ true → i ≡ j) → sum n (λ i. bit (b i)) ≤ 1
unfolding sum
sum_once zero b h = omega arith
sum_once (suc n) b h = elim (cases_Bool (b n)) [
  | inl t ↦ (
      let rest : sum n (λ i. bit (b i)) ≡ 0 = sum_zero n (λ i. bit (b i)) (λ i lt. elim (cases_Bool (b i)) [
        | inl y ↦ absurd (omega (arith, h i n (omega arith) (omega arith) y t))
        | inr x ↦ ap bit x
      ]) in
      omega (arith, ap bit t))
  | inr f ↦ omega (arith, ap bit f, sum_once n b (λ i j hi hj. h i j (omega arith) (omega arith)))
]
