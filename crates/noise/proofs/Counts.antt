-- Counts over a list as sums over its places.
use Rattle.std.proofs.Common.{◌≡◌, ℕ, zero, suc, ◌+◌, ◌<◌, ◌≤◌, Bool, not, List, length, get_or, take, ℤ, pos, count_by, sym, refl, ap, ◌∙◌, add-one, arith}
use Rattle.std.proofs.lemmas.List.{take_all}
use Rattle.std.proofs.lemmas.List.Sums.{sum_by_more}
use Rattle.params.specs.Sums.{sum, bit}
use Rattle.params.proofs.Sums.{sum_at_most}
use Rattle.params.specs.declared.moduli.Moduli.{Moduli}
use Rattle.ring.specs.Lists.{signed}
use Rattle.rounding.specs.Rounding.{in_band}
use Rattle.rounding.specs.Symbols.{out_of_band}

-- where every term is 0, the sum is
pub sum_zero : (n : ℕ) (F : ℕ → ℕ) → ((i : ℕ) → i < n → F i ≡ 0) → sum n F ≡ 0
sum_zero n F each = omega (arith, sum_at_most n 0 F (λ i lt. omega (arith, each i lt)))

-- how many of the first k elements pass a test
count_front : {X : Type 0} (test : X → Bool) (xs : List X) (d : X) (k : ℕ) → k ≤ length xs → count_by test (take k xs) ≡ sum k (λ i. bit (test (get_or xs i d)))
unfolding sum
count_front test xs d zero le = refl
count_front test xs d (suc k) le =
    ap (λ m. count_by test (take m xs)) (sym (add-one k))
    ∙ sum_by_more (λ x. bit (test x)) xs k d (omega arith)
    ∙ ap (λ m. m + bit (test (get_or xs k d))) (count_front test xs d k (omega arith))

-- how many symbols are out of band
pub out_of_band_is : (M : Moduli) (ws : List ℤ) → out_of_band M ws ≡ sum (length ws) (λ i. bit (not (in_band M (signed ws i))))
unfolding out_of_band
out_of_band_is M ws =
    ap (count_by (λ w. not (in_band M w))) (sym (take_all (length ws) ws (omega arith)))
    ∙ count_front (λ w. not (in_band M w)) ws (pos 0) (length ws) (omega arith)
