-- Laws of sums over a range.
use Rattle.std.proofs.Common.{◌≡◌, ℕ, zero, suc, ◌+◌, ◌-◌, ◌*◌, ◌<◌, ◌≤◌, Bool, true, cond, eqb, List, length, get_or, map, take, drop, replicate, sym, refl, ap, ◌∙◌, ap₂, inl, inr, add-one, arith}
use Rattle.std.proofs.lemmas.List.{drop-replicate}
use Rattle.std.proofs.lemmas.List.Sums.{sum_by_more, sum-map, length-filter}
use Rattle.std.proofs.lemmas.List.FromFn.{sum_by-map-range_with_len_more}
use Rattle.std.specs.List as list
use Rattle.std.specs.List.{filter, range_with_len}
use Rattle.std.proofs.lemmas.Bool.{cases_eq, cases_Bool, eq-eqb, ne_eqb, cond-true, cond-false}
use Rattle.params.specs.Sums.{sum, bit}

pub sum_none : (F : ℕ → ℕ) → sum 0 F ≡ 0
unfolding sum
sum_none F = refl

pub sum_more : (n : ℕ) (F : ℕ → ℕ) → sum (n + 1) F ≡ sum n F + F n
unfolding sum
sum_more n F = ap (λ k. sum k F) (add-one n)

pub sum_same : (n : ℕ) (F G : ℕ → ℕ) → ((i : ℕ) → i < n → F i ≡ G i) → sum n F ≡ sum n G
unfolding sum
sum_same zero F G h = refl
sum_same (suc n) F G h = ap₂ (λ x y. x + y) (sum_same n F G (λ i lt. h i (omega arith))) (h n (omega arith))

-- a sum of terms that are small
pub sum_at_most : (n m : ℕ) (F : ℕ → ℕ) → ((i : ℕ) → i < n → F i ≤ m) → sum n F ≤ n * m
unfolding sum
sum_at_most zero m F h = omega arith
sum_at_most (suc n) m F h = omega (arith, sum_at_most n m F (λ i lt. h i (omega arith)), h n (omega arith))

-- the first numbers of a list, added up
pub sum_front : (n : ℕ) (xs : List ℕ) → n ≤ length xs → list.sum (take n xs) ≡ sum n (λ j. get_or xs j 0)
unfolding sum
sum_front zero xs h = refl
sum_front (suc n) xs h =
    let more : list.sum (take (n + 1) xs) ≡ list.sum (take n xs) + get_or xs n 0 = sum_by_more (λ x. x) xs n 0 (omega arith) in
    ap (λ k. list.sum (take k xs)) (sym (add-one n)) ∙ more ∙ ap (λ v. v + get_or xs n 0) (sum_front n xs (omega arith))

-- a sum over the numbers below n, as they come in turn
pub sum_range : (n : ℕ) (F : ℕ → ℕ) → list.sum_by F (range_with_len 0 n) ≡ sum n F
unfolding sum
sum_range n F = sym (sum-map F (range_with_len 0 n)) ∙ turns n
  where
    turns : (k : ℕ) → list.sum (map F (range_with_len 0 k)) ≡ sum k F
    turns zero = refl
    turns (suc k) =
        ap (λ i. list.sum (map F (range_with_len 0 i))) (sym (add-one k))
        ∙ sum_by-map-range_with_len_more (λ x. x) F 0 k k (omega arith)
        ∙ ap (λ v. v + F k) (turns k)

-- how many of the numbers below n pass a test
pub count_range : (n : ℕ) (test : ℕ → Bool) → length (filter test (range_with_len 0 n)) ≡ sum n (λ j. bit (test j))
count_range n test = length-filter test (range_with_len 0 n) ∙ sum_range n (λ j. bit (test j))

-- one term set apart
abbrev pub others : ℕ → (ℕ → ℕ) → ℕ → ℕ
others k F i = cond (eqb i k) 0 (F i)

-- below k nothing is set apart
here : (n k : ℕ) (F : ℕ → ℕ) → n ≡ k → sum n (others k F) ≡ sum n F
here n k F e = sum_same n (others k F) F (λ i lt. cond-false (eqb i k) 0 (F i) (ne_eqb i k (λ same. omega arith)))

pub sum_split : (n k : ℕ) (F : ℕ → ℕ) → k < n → sum n F ≡ F k + sum n (others k F)
unfolding sum
sum_split zero k F h = absurd (omega arith)
sum_split (suc n) k F h = elim (cases_eq n k) [
  | inl e ↦ omega (arith, here n k F e, cond-true (eqb n k) 0 (F n) (eq-eqb n k e), ap F e)
  | inr ne ↦ omega (arith, sum_split n k F (omega arith), cond-false (eqb n k) 0 (F n) (ne_eqb n k ne))
]

-- a term is at most the sum
pub sum_term : (n k : ℕ) (F : ℕ → ℕ) → k < n → F k ≤ sum n F
sum_term n k F h = omega (arith, sum_split n k F h)

-- two tests that pass count two
pub count_two : (n : ℕ) (b : ℕ → Bool) (i j : ℕ) → i < n → j < n → b i ≡ true → b j ≡ true → (i ≡ j → ⊥) → 2 ≤ sum n (λ x. bit (b x))
count_two n b i j hi hj ei ej ne =
    let F : ℕ → ℕ = λ x. bit (b x) in
    let other : others i F j ≡ F j = cond-false (eqb j i) 0 (F j) (ne_eqb j i (λ s. ne (sym s))) in
    omega (arith, sum_split n i F hi, sum_term n j (others i F) hj, other, ap bit ei, ap bit ej)

-- where tests count one, one passes
one_of : (n : ℕ) (b : ℕ → Bool) → 1 ≤ sum n (λ x. bit (b x)) → (i : ℕ) × (i < n) × (b i ≡ true)
unfolding sum
one_of zero b h = absurd (omega arith)
one_of (suc n) b h = elim (cases_Bool (b n)) [
  | inl t ↦ (n, omega arith, t)
  | inr f ↦ (let r = one_of n b (omega (arith, ap bit f)) in (r.0, omega (arith, r.1), r.2))
]

-- where tests count two, two pass
pub two_of : (n : ℕ) (b : ℕ → Bool) → 2 ≤ sum n (λ x. bit (b x)) → (i : ℕ) × (j : ℕ) × (i < j) × (j < n) × (b i ≡ true) × (b j ≡ true)
unfolding sum
two_of zero b h = absurd (omega arith)
two_of (suc n) b h = elim (cases_Bool (b n)) [
  | inl t ↦ (let r = one_of n b (omega (arith, ap bit t)) in (r.0, n, r.1, omega arith, r.2, t))
  | inr f ↦ (let r = two_of n b (omega (arith, ap bit f)) in (r.0, r.1, r.2, omega (arith, r.3), r.4, r.5))
]

-- a table of zeros, written from its front
pub rest_zeros : (n m : ℕ) → drop (n - 0) (replicate {A = ℕ} m 0) ≡ replicate {A = ℕ} (m - n) 0
rest_zeros n m = let e : n - 0 ≡ n = omega arith in ap (λ k. drop k (replicate {A = ℕ} m 0)) e ∙ drop-replicate n m 0
