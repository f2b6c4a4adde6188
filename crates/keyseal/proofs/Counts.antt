-- How many symbols a gauge can count.
use Rattle.std.proofs.Common.{◌≡◌, ℕ, ◌≤◌, Bool, true, false, cond, not, eqb, List, length, ℤ, Ok, Err, refl, arith}
use Rattle.std.proofs.lemmas.List.Sums.{count_by-le-length}
use Rattle.std.proofs.lemmas.Bool.{eqb-true}
use Rattle.params.specs.Limits.{most_n}
use Rattle.params.specs.declared.set.Set.{Set}
use Rattle.rounding.specs.Rounding.{in_band}
use Rattle.rounding.specs.Symbols.{out_of_band}
use Rattle.calls.specs.Chains.{Book, sized}
use Rattle.calls.specs.declared.refusal.Buffer.TheVariants.{Output}
use Rattle.calls.specs.declared.refusal.Refusal.{Refusal}
use Rattle.calls.specs.declared.refusal.Refusal.TheVariants.{WrongBuffer}
use Rattle.lab.specs.Lab.{gauge_checks, gauged}
use Rattle.keyseal.proofs.Steps.{bind_ok}

passed : (t : Bool) (e : Refusal) → cond t (Ok (tt {0})) (Err e) ≡ Ok (tt {0}) → t ≡ true
passed true e h = refl
passed false e h = let z : ◌≡◌ {A = ℕ} 0 1 = cc in absurd (omega arith)

out_of_some : (s : Set) (ws : List ℤ) → out_of_band s.moduli ws ≤ length ws
unfolding out_of_band
out_of_some s ws = count_by-le-length (λ w. not (in_band s.moduli w)) ws

-- no more than the set has symbols
pub count_fits : (B : Book) (s : Set) (n a b : ℕ) (seeds : List ℕ) (ws : List ℤ) → length ws ≡ n → gauged B s n a b seeds ≡ Ok ws → out_of_band s.moduli ws ≤ most_n
count_fits B s n a b seeds ws long e =
    let (_, checks, _) = bind_ok (gauge_checks s n a b seeds) _ _ e in
    let (_, fits, _) = bind_ok (sized n s.code.mu (WrongBuffer Output)) _ _ checks in
    let m : n ≡ s.code.mu = eqb-true n s.code.mu (passed (eqb n s.code.mu) (WrongBuffer Output) fits) in
    omega (arith, out_of_some s ws, s.code.short)
