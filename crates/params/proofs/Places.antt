-- Places in checks, and why the code rule need only be tried at position 0.
use Rattle.std.proofs.Common.{◌≡◌, ℕ, ◌+◌, ◌-◌, ◌*◌, ◌/◌, ◌%◌, ◌<◌, ◌≤◌, Bool, true, false, cond, eqb, Option, None, Some, MatchOption, sym, refl, ap, ◌∙◌, inl, inr, mod-lt, arith}
use native.Mathlib.Nat.{mod-add-div', add-mul-mod_self_right, mul-mod_left, zero-mod, zero-div, div-eq_of_lt}
use Rattle.std.proofs.lemmas.Bool.{cases_eq, cases_Bool, eq-eqb, ne_eqb, eqb-true, and_parts, and_from, cond-true, cond-false}
use Rattle.std.proofs.lemmas.Nat.{div_below}
use Rattle.params.specs.declared.shape.Shape.{Shape}
use Rattle.params.specs.Sums.{bit}
use Rattle.params.specs.Checks.{check_length, in_blocks, block_length, place_of, SharesTwo, CodeRule, LengthsFit, MarkFits, shared_with_first}
use Rattle.params.proofs.Sums.{sum_more, count_two, two_of}

-- a payload that is a whole number of blocks has blocks of some length
pub block_some : (s : Shape) → 0 < s.kappa → s.kappa % check_length s 0 ≡ 0 → 0 < block_length s
block_some s some whole = elim (cases_eq (block_length s) 0) [
  | inl z ↦ absurd (omega (arith, mod-add-div' s.kappa (check_length s 0), ap (λ n. n * check_length s 0) z))
  | inr ne ↦ omega arith
]

-- the place in a check that goes by blocks
pub place_in_block : (s : Shape) (j k : ℕ) → s.block ≡ true → j ≡ 0 → k / (s.kappa / check_length s j) ≡ place_of s j k
place_in_block s j k t z =
    ap (λ i. k / (s.kappa / check_length s i)) z ∙ sym (cond-true (in_blocks s j) (k / block_length s) (k % check_length s j) (and_from s.block (eqb j 0) t (eq-eqb j 0 z)))

block_inside : (s : Shape) (j k : ℕ) → MarkFits s → s.block ≡ true → j ≡ 0 → k < s.kappa → place_of s j k < check_length s j
block_inside s j k mark t z h =
    let whole = (mark t).1 in
    let is : place_of s j k ≡ k / block_length s = cond-true (in_blocks s j) (k / block_length s) (k % check_length s j) (and_from s.block (eqb j 0) t (eq-eqb j 0 z)) in
    let below : k / block_length s < check_length s 0 = div_below k (block_length s) (check_length s 0) (block_some s (omega arith) whole) (omega (arith, mod-add-div' s.kappa (check_length s 0))) in
    omega (arith, is, below, ap (check_length s) z)

-- a place lies inside its check
pub place_inside : (s : Shape) → LengthsFit s → MarkFits s → (j k : ℕ) → j < 2 * s.f → k < s.kappa → place_of s j k < check_length s j
place_inside s fit mark j k hj hk = elim (cases_Bool (in_blocks s j)) [
  | inl t ↦ (let both = and_parts s.block (eqb j 0) t in block_inside s j k mark both.0 (eqb-true j 0 both.1) hk)
  | inr n ↦ omega (arith, cond-false (in_blocks s j) (k / block_length s) (k % check_length s j) n, mod-lt k {m = check_length s j} (fit j hj).0)
]

-- the same remainder: the distance is a multiple
apart_mod : (k d L : ℕ) → (k + d) % L ≡ k % L → d % L ≡ 0
apart_mod k d L e =
    let level : d + k / L * L ≡ (k + d) / L * L = omega (arith, mod-add-div' (k + d) L, mod-add-div' k L) in
    sym (add-mul-mod_self_right d (k / L) L) ∙ ap (λ n. n % L) level ∙ mul-mod_left ((k + d) / L) L

-- the same block: the distance is below a block's length
apart_div : (k d B : ℕ) → 0 < B → (k + d) / B ≡ k / B → d < B
apart_div k d B some e =
    omega (arith, mod-add-div' (k + d) B, mod-add-div' k B, ap (λ n. n * B) e, mod-lt (k + d) some)

place_zero : (s : Shape) (j : ℕ) → place_of s j 0 ≡ 0
place_zero s j = by (in_blocks s j)
  where
    by : (b : Bool) → cond b (0 / block_length s) (0 % check_length s j) ≡ 0
    by true = zero-div (block_length s)
    by false = zero-mod (check_length s j)

-- where k and k + d share a check, 0 and d do
moved : (s : Shape) → 0 < s.kappa → MarkFits s → (j k d : ℕ) → place_of s j (k + d) ≡ place_of s j k → place_of s j d ≡ 0
moved s some mark j k d e = by (in_blocks s j) refl e
  where
    by : (b : Bool) → in_blocks s j ≡ b → cond b ((k + d) / block_length s) ((k + d) % check_length s j) ≡ cond b (k / block_length s) (k % check_length s j) → cond b (d / block_length s) (d % check_length s j) ≡ 0
    by true t e = let m = mark (and_parts s.block (eqb j 0) t).0 in div-eq_of_lt (apart_div k d (block_length s) (block_some s some m.1) e)
    by false t e = apart_mod k d (check_length s j) e

-- the code rule holds where no position shares two checks with position 0
pub rule_by_first : (s : Shape) → 0 < s.kappa → MarkFits s → ((d : ℕ) → 1 ≤ d → d < s.kappa → shared_with_first s d (2 * s.f) ≤ 1) → CodeRule s
rule_by_first s some mark alone a b c =
    let d = b - a in
    let is : a + d ≡ b = omega (arith, c.order) in
    let at : (j : ℕ) → place_of s j a ≡ place_of s j b → eqb (place_of s j d) 0 ≡ true = λ j e. eq-eqb _ 0 (moved s some mark j a d (ap (place_of s j) is ∙ sym e)) in
    omega (
      arith,
      c.two,
      alone d (omega (arith, c.order)) (omega (arith, c.order, c.inside)),
      count_two (2 * s.f) (λ j. eqb (place_of s j d) 0) c.i c.j (omega (arith, c.two, c.known)) c.known (at c.i c.in_i) (at c.j c.in_j) (λ e. omega (arith, c.two)),
    )

-- two checks shared with position 0 break it
pub shares_by_first : (s : Shape) (d : ℕ) → 1 ≤ d → d < s.kappa → 2 ≤ shared_with_first s d (2 * s.f) → SharesTwo s 0 d
shares_by_first s d low high two =
    let r = two_of (2 * s.f) (λ j. eqb (place_of s j d) 0) two in
    record {
      i = r.0;
      j = r.1;
      two = r.2;
      known = r.3;
      order = low;
      inside = high;
      in_i = place_zero s r.0 ∙ sym (eqb-true _ 0 r.4);
      in_j = place_zero s r.1 ∙ sym (eqb-true _ 0 r.5);
    }

-- one check more
pub shared_more : (s : Shape) (d j at v u : ℕ) → at ≡ place_of s j d → v ≡ shared_with_first s d j → at ≡ 0 → u ≡ v + 1 → u ≡ shared_with_first s d (j + 1)
shared_more s d j at v u e is z up = omega (arith, sum_more j (λ i. bit (eqb (place_of s i d) 0)), ap bit (eq-eqb (place_of s j d) 0 (sym e ∙ z)))

pub shared_kept : (s : Shape) (d j at v u : ℕ) → at ≡ place_of s j d → v ≡ shared_with_first s d j → (at ≡ 0 → ⊥) → u ≡ v → u ≡ shared_with_first s d (j + 1)
shared_kept s d j at v u e is nz up = omega (arith, sum_more j (λ i. bit (eqb (place_of s i d) 0)), ap bit (ne_eqb (place_of s j d) 0 (λ z. nz (e ∙ z))))

-- the first position that shares two checks with position 0, if there is one
pub first_shared : (s : Shape) (r : Option ℕ) → 0 < s.kappa → MarkFits s → MatchOption r ((d : ℕ) → 1 ≤ d → d < s.kappa → shared_with_first s d (2 * s.f) ≤ 1) (λ d. (1 ≤ d) × (d < s.kappa) × (2 ≤ shared_with_first s d (2 * s.f)) × ((k : ℕ) → 1 ≤ k → k < d → shared_with_first s k (2 * s.f) ≤ 1)) → MatchOption r (CodeRule s) (λ d. SharesTwo s 0 d)
first_shared s None some mark alone = rule_by_first s some mark alone
first_shared s (Some d) some mark first = shares_by_first s d first.0 first.1 first.2
