-- The product, one position more: what is in the area, with the rest of the product added or subtracted, is the product.
use Rattle.std.proofs.Common.{◌≡◌, ℕ, ◌+◌, ◌%◌, ◌<◌, ◌≤◌, Bool, cond, not, eqb, ◌⊎◌, List, length, get_or, drop, sym, ap, ◌∙◌, ⊎_elim, arith}
use Rattle.std.proofs.lemmas.List.{drop_more, drop_all}
use Rattle.ring.specs.GroupLaws.{GroupLaws}
use Rattle.ring.specs.Cyclic.{cyclic_in, back}
use Rattle.ring.proofs.Algebra.{turned, kept, from_none, cyclic_fits}

-- whether the j-th position has the sign -
abbrev pub odd : ℕ → Bool
odd j = not (eqb (j % 2) 0)

parity : (j : ℕ) → (j % 2 ≡ 0) ⊎ (j % 2 ≡ 1)
parity j = grind arith

odd_more : (j : ℕ) → odd (j + 1) ≡ not (odd j)
odd_more j =
    ⊎_elim
    (λ e. let f : (j + 1) % 2 ≡ 1 = omega arith in ap (λ n. not (eqb n 0)) f ∙ sym (ap (λ n. not (not (eqb n 0))) e))
    (λ e. let f : (j + 1) % 2 ≡ 0 = omega arith in ap (λ n. not (eqb n 0)) f ∙ sym (ap (λ n. not (not (eqb n 0))) e))
    (parity j)

module _ {X : Type 0} (none : X) (plus minus : X → X → X) (fits : X → Type 0) (G : GroupLaws none plus minus fits) (m : ℕ) (f : ℕ → X) (whole : (j : ℕ) → fits (f j)) (ps : List ℕ) (k : ℕ) where
  -- what is still to come once j positions are done
  abbrev pub Rest : ℕ → X → Type 0
  Rest j a = cond (odd j) minus plus a (cyclic_in none minus m f (drop j ps) k) ≡ cyclic_in none minus m f ps k

  pub rest_none : (a : X) → a ≡ none → Rest 0 a
  rest_none a e = ap (λ x. plus x (cyclic_in none minus m f ps k)) e ∙ from_none none plus minus fits G _ (cyclic_fits none plus minus fits G m f ps k)

  pub rest_more : (j : ℕ) (a b : X) → j < length ps → fits a → Rest j a → b ≡ cond (odd j) minus plus a (f (back m k (get_or ps j 0))) → Rest (j + 1) b
  unfolding cyclic_in
  rest_more j a b lt fa is step =
      let z = cyclic_in none minus m f (drop (j + 1) ps) k in
      let x = f (back m k (get_or ps j 0)) in
      let cut : cyclic_in none minus m f (drop j ps) k ≡ minus x z = ap (λ qs. cyclic_in none minus m f qs k) (drop_more ps j 0 lt) in
      ap (λ o. cond o minus plus b z) (odd_more j)
      ∙ ap (λ y. cond (not (odd j)) minus plus y z) step
      ∙ turned none plus minus fits G (odd j) a x z fa (whole _) (cyclic_fits none plus minus fits G m f (drop (j + 1) ps) k)
      ∙ ap (cond (odd j) minus plus a) (sym cut)
      ∙ is

  pub rest_all : (j : ℕ) (a : X) → length ps ≤ j → fits a → Rest j a → a ≡ cyclic_in none minus m f ps k
  unfolding cyclic_in
  rest_all j a le fa is =
      let end : cyclic_in none minus m f (drop j ps) k ≡ none = ap (λ qs. cyclic_in none minus m f qs k) (drop_all j ps le) in
      sym (kept none plus minus fits G (odd j) a fa) ∙ ap (cond (odd j) minus plus a) (sym end) ∙ is
