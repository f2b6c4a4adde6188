-- Where payload positions have their check bits.
use Rattle.std.proofs.Common.{◌≡◌, ℕ, ◌+◌, ◌*◌, ◌/◌, ◌%◌, ◌<◌, false, sym, ap, ◌∙◌, mod-eq_of_lt, arith}
use native.Mathlib.Nat.{mod-add-mod, mod_self}
use Rattle.std.proofs.lemmas.Bool.{cond-false}
use Rattle.params.specs.Checks.{check_length, in_blocks, block_length, place_of}
use Rattle.params.specs.declared.shape.Shape.{Shape}
use Rattle.params.specs.declared.code.Code.{Code}
use Rattle.params.proofs.Places.{place_inside}
use Rattle.code.specs.Words.{check_offset}
use Rattle.code.proofs.Words.{check_within}

-- where position k has its bit of check j, a word has a check bit
pub bit_inside : (c : Code) (j k : ℕ) → j < 2 * c.shape.f → k < c.shape.kappa → check_offset c.shape j + place_of c.shape j k < check_offset c.shape (2 * c.shape.f)
bit_inside c j k hj hk = omega (arith, check_within c.shape j (2 * c.shape.f) hj, place_inside c.shape c.lengths c.mark j k hj hk)

-- the next place of a check that does not go by blocks
module _ (s : Shape) (j k : ℕ) (plain : in_blocks s j ≡ false) where
  here : (i : ℕ) → place_of s j i ≡ i % check_length s j
  here i = cond-false (in_blocks s j) (i / block_length s) (i % check_length s j) plain

  next : place_of s j (k + 1) ≡ (place_of s j k + 1) % check_length s j
  next = here (k + 1) ∙ sym (mod-add-mod k (check_length s j) 1) ∙ ap (λ p. (p + 1) % check_length s j) (sym (here k))

  pub place_wraps : (p : ℕ) → p ≡ place_of s j k → p + 1 ≡ check_length s j → 0 ≡ place_of s j (k + 1)
  place_wraps p at last = sym (next ∙ ap (λ x. x % check_length s j) (omega arith) ∙ mod_self (check_length s j))

  pub place_steps : (p : ℕ) → p ≡ place_of s j k → p + 1 < check_length s j → p + 1 ≡ place_of s j (k + 1)
  place_steps p at below = sym (next ∙ ap (λ x. (x + 1) % check_length s j) (sym at) ∙ mod-eq_of_lt below)
