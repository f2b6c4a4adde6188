-- At most f flips are outvoted.
use Rattle.std.proofs.Common.{◌≡◌, ℕ, zero, suc, ◌+◌, ◌-◌, ◌*◌, ◌%◌, ◌<◌, ◌≤◌, Bool, cond, not, eqb, leb, List, length, get_or, sym, refl, ap, subst, inl, inr, le_of_eq, mul-le-mul_left, arith}
use Rattle.std.proofs.lemmas.Bool.Decides.{nat_tests}
use Rattle.std.proofs.lemmas.Bool.{cases_Bool, cases_order, eq-eqb, eqb-true, eqb-false}
use Rattle.params.specs.Sums.{sum, bit}
use Rattle.params.specs.Checks.{check_length, check_start, place_of, CodeRule}
use Rattle.params.specs.declared.shape.Shape.{Shape}
use Rattle.params.specs.declared.code.Code.{Code}
use Rattle.params.proofs.Sums.{others, sum_split, sum_term}
use Rattle.params.proofs.Places.{place_inside}
use Rattle.code.specs.Words.{Bits, parity, Checked, flip, distance}
use Rattle.code.specs.Correcting.{differs, differing, corrected_bit}
use Rattle.code.proofs.Sums.{sum_le, sum_zero, sum_ones, sum_add, sum_times, sum_swap, sum_append, sum_parity, sum_once}
use Rattle.code.proofs.Bits.{differ_odd}
use Rattle.code.proofs.Places.{bit_inside}

-- a flipped bit in a parity, where it counts and where it does not
flipped_term : (x y e : ℕ) (counts : Bool) → y ≡ (x + e) % 2 → y * bit counts % 2 ≡ (x * bit counts + e * bit counts) % 2
flipped_term x y e counts is = grind (arith, nat_tests)

-- a sum over a word: the payload first, and then check by check
sum_word : (s : Shape) (n : ℕ) (F : ℕ → ℕ) → sum (check_start s n) F ≡ sum s.kappa F + sum n (λ j. sum (check_length s j) (λ l. F (check_start s j + l)))
unfolding sum
sum_word s zero F = let e : s.kappa + 0 ≡ s.kappa = omega arith in omega (arith, ap (λ n. sum n F) e)
sum_word s (suc n) F =
    let e : check_start s (suc n) ≡ check_start s n + check_length s n = omega arith in
    omega (arith, ap (λ x. sum x F) e, sum_append (check_start s n) (check_length s n) F, sum_word s n F)

-- the code rule for two positions in any order, and two checks in any order
one_check : (s : Shape) → CodeRule s → (k o : ℕ) → k < s.kappa → o < s.kappa → (k ≡ o → ⊥) → (i j : ℕ) → i < 2 * s.f → j < 2 * s.f
    → place_of s i o ≡ place_of s i k → place_of s j o ≡ place_of s j k → i ≡ j
one_check s rule k o hk ho ne i j hi hj ei ej = elim (cases_order i j) [
  | inl e ↦ e
  | inr (inl lt) ↦ absurd (two i j lt hj ei ej)
  | inr (inr gt) ↦ absurd (two j i gt hi ej ei)
]
  where
    two : (x y : ℕ) → x < y → y < 2 * s.f → place_of s x o ≡ place_of s x k → place_of s y o ≡ place_of s y k → ⊥
    two x y lt hy ex ey = elim (cases_order k o) [
      | inl e ↦ ne e
      | inr (inl below) ↦ rule k o (record { i = x; j = y; two = lt; known = hy; order = below; inside = ho; in_i = sym ex; in_j = sym ey })
      | inr (inr above) ↦ rule o k (record { i = x; j = y; two = lt; known = hy; order = above; inside = hk; in_i = ex; in_j = ey })
    ]

-- a bit x, received as y, is decided by how many checks differ
decides : (f n x y : ℕ) → y ≡ (x + bit (not (eqb x y))) % 2 → x < 2 → (bit (not (eqb x y)) ≡ 0 → n ≤ f) → (bit (not (eqb x y)) ≡ 1 → f + 1 ≤ n) → cond (leb (f + 1) n) (1 - y) y ≡ x
decides f n x y is small quiet loud = grind (arith, nat_tests)

-- a word w whose checks hold, a word v of the same length, and a payload position k
module _ (c : Code) (w v : List ℕ) (long_w : length w ≡ c.mu) (long_v : length v ≡ c.mu) (bits_w : Bits w) (bits_v : Bits v) (checked : Checked c.shape w) (k : ℕ) (hk : k < c.shape.kappa) where
  abbrev s : Shape
  s = c.shape

  -- whether payload position i has its bit of check j where position k has
  abbrev with_k : ℕ → ℕ → Bool
  with_k j i = eqb (place_of s j i) (place_of s j k)

  -- where position k has its bit of check j
  abbrev own : ℕ → ℕ
  own j = check_start s j + place_of s j k

  -- the other flips in the payload that check j of position k meets
  met : ℕ → ℕ
  met j = sum s.kappa (others k (λ i. flip w v i * bit (with_k j i)))

  flipped : (i : ℕ) → i < c.mu → get_or v i 0 ≡ (get_or w i 0 + flip w v i) % 2
  flipped i h = omega (arith, differ_odd (get_or w i 0) (get_or v i 0) (bits_w i (omega arith)) (bits_v i (omega arith)), bits_w i (omega arith), bits_v i (omega arith))

  -- a check of k differs where the flips that it meets, that of its own bit and that at k are odd in number
  differs_odd : (j : ℕ) → j < 2 * s.f → bit (differs s v j (place_of s j k)) ≡ (flip w v (own j) + (flip w v k + met j)) % 2
  unfolding met
  differs_odd j lt =
      let at = own j in
      let S : ℕ → ℕ = λ i. bit (with_k j i) in
      let mine : S k ≡ 1 = ap bit (eq-eqb (place_of s j k) _ refl) in
      let holds = checked j (place_of s j k) lt (place_inside s c.lengths c.mark j k lt hk) in
      omega (
        arith,
        differ_odd (get_or v at 0) (parity s v j (place_of s j k)) (bits_v at (omega (arith, c.count, bit_inside c j k lt hk))) (omega arith),
        flipped at (omega (arith, c.count, bit_inside c j k lt hk)),
        holds,
        sum_parity s.kappa (λ i. get_or v i 0 * S i) (λ i. get_or w i 0 * S i) (λ i. flip w v i * S i)
            (λ i h. flipped_term (get_or w i 0) (get_or v i 0) (flip w v i) (with_k j i) (flipped i (omega arith))),
        sum_split s.kappa k (λ i. flip w v i * S i) hk,
        ap (λ n. flip w v k * n) mine,
      )

  -- each other flip is met by at most one check of k
  met_once : (i : ℕ) → i < s.kappa → sum (2 * s.f) (λ j. others k (λ o. flip w v o * bit (with_k j o)) i) ≤ others k (flip w v) i
  met_once i hi =
      let e = flip w v i in
      let P : Bool → Type 0 = λ t. sum (2 * s.f) (λ j. cond t 0 (e * bit (with_k j i))) ≤ cond t 0 e in
      elim (cases_Bool (eqb i k)) [
        | inl is ↦ subst P (sym is) (le_of_eq (sum_zero (2 * s.f) (λ _. 0) (λ _ _. refl)))
        | inr other ↦ subst P (sym other) (
            let once : sum (2 * s.f) (λ j. bit (with_k j i)) ≤ 1 = sum_once (2 * s.f) (λ j. with_k j i) (λ x y hx hy ex ey.
            one_check s c.apart k i hk hi (λ is. eqb-false i k other (sym is)) x y hx hy (eqb-true _ _ ex) (eqb-true _ _ ey)) in
            omega (arith, sum_times (2 * s.f) e (λ j. bit (with_k j i)), mul-le-mul_left e once))
      ]

  all_met : sum (2 * s.f) met ≤ sum s.kappa (others k (flip w v))
  unfolding met
  all_met = rw (sum_swap (2 * s.f) s.kappa (λ j i. others k (λ o. flip w v o * bit (with_k j o)) i)) (sum_le s.kappa _ (others k (flip w v)) met_once)

  all_own : sum (2 * s.f) (λ j. flip w v (own j)) ≤ sum (2 * s.f) (λ j. sum (check_length s j) (λ l. flip w v (check_start s j + l)))
  all_own = sum_le (2 * s.f) _ _ (λ j lt. sum_term (check_length s j) (place_of s j k) (λ l. flip w v (check_start s j + l)) (place_inside s c.lengths c.mark j k lt hk))

  -- the flips that the checks of k meet
  abbrev around : ℕ → ℕ
  around j = flip w v (own j) + met j

  -- with the one at k they are at most all flips
  budget : sum (2 * s.f) around + flip w v k ≤ distance w v
  budget = omega (
    arith,
    sum_add (2 * s.f) (λ j. flip w v (own j)) met,
    all_met,
    all_own,
    sum_split s.kappa k (flip w v) hk,
    sum_word s (2 * s.f) (flip w v),
    ap (λ n. sum n (flip w v)) long_w,
    ap (λ n. sum n (flip w v)) c.count,
  )

  -- as many checks differ as flips are met, where k is not flipped; all the others differ where it is
  quiet : flip w v k ≡ 0 → differing s v k ≤ sum (2 * s.f) around
  quiet z = sum_le (2 * s.f) (λ j. bit (differs s v j (place_of s j k))) around (λ j lt. omega (arith, differs_odd j lt))

  loud : flip w v k ≡ 1 → 2 * s.f ≤ differing s v k + sum (2 * s.f) around
  loud z = omega (
    arith,
    sum_ones (2 * s.f),
    sum_add (2 * s.f) (λ j. bit (differs s v j (place_of s j k))) around,
    sum_le (2 * s.f) (λ _. 1) (λ j. bit (differs s v j (place_of s j k)) + around j) (λ j lt. omega (arith, differs_odd j lt)),
  )

  -- at most f flips: payload bit k is corrected
  pub outvoted : distance w v ≤ s.f → corrected_bit s v k ≡ get_or w k 0
  outvoted few =
      let is = flipped k (omega (arith, c.count)) in
      decides s.f (differing s v k) (get_or w k 0) (get_or v k 0) is (bits_w k (omega (arith, c.count))) (λ z. omega (arith, quiet z, budget)) (λ z. omega (arith, loud z, budget))
