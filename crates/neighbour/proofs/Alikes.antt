-- Sets that are alike.
use Rattle.std.proofs.Common.{◌≡◌, ℕ, ◌+◌, ◌<◌, Option, sym, ap, ◌∙◌, subst, inl, inr, arith}
use Rattle.params.specs.Checks.{symbol_count}
use Rattle.params.specs.Sizes.{BelowLine, line_left, line_right}
use Rattle.params.specs.declared.set.Set.{Set}
use Rattle.std.proofs.lemmas.Bool.{cases_lt}
use Rattle.neighbour.specs.Cost.{Alike, cost, Beats, Finds}

-- sets that are alike and have the same pb and tb have the same numbers
module _ (s o c : Set) (a : Alike s o) (b : Alike s c) (pb : o.moduli.pb ≡ c.moduli.pb) (tb : o.moduli.tb ≡ c.moduli.tb) where
  same_n : o.n ≡ c.n
  same_n = a.n ∙ sym b.n

  same_h : o.h ≡ c.h
  same_h = a.h ∙ sym b.h

  same_mu : o.code.mu ≡ c.code.mu
  same_mu = o.code.count ∙ ap symbol_count (a.shape ∙ sym b.shape) ∙ sym c.code.count

  pub same_cost : cost o ≡ cost c
  same_cost = cc (same_n, same_mu, pb, tb)

  same_left : line_left o ≡ line_left c
  same_left = cc (same_h, pb, tb)

  same_right : line_right o ≡ line_right c
  same_right = cc (pb, tb)

  pub same_line : BelowLine o → BelowLine c
  same_line below = omega (arith, same_left, same_right)

-- one more tb is tried: c has it, and r beats what the best so far beats, and c where that is below the line
pub finds_more : (s c : Set) (best r : Option Set) (pb tb : ℕ) → Alike s c → c.moduli.pb ≡ pb → c.moduli.tb ≡ tb → ((k : ℕ) → Beats best k → Beats r k) → (BelowLine c → Beats r (cost c)) → Finds s best (λ m. (m.pb ≡ pb) × (m.tb < tb)) → Finds s r (λ m. (m.pb ≡ pb) × (m.tb < tb + 1))
finds_more s c best r pb tb b at-pb at-tb keeps takes finds o a tried below =
    elim (cases_lt o.moduli.tb tb) [
      | inl lt ↦ keeps (cost o) (finds o a (tried.0, lt) below)
      | inr ge ↦
          let same-pb : o.moduli.pb ≡ c.moduli.pb = tried.0 ∙ sym at-pb in
          let same-tb : o.moduli.tb ≡ c.moduli.tb = omega (arith, tried.1) in
          subst (λ (k : ℕ). Beats r k) (sym (same_cost s o c a b same-pb same-tb)) (takes (same_line s o c a b same-pb same-tb below))
    ]
