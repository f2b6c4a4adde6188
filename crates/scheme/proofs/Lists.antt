-- Lists of coefficients as their words.
use Rattle.std.proofs.Common.{◌≡◌, ℕ, ◌<◌, List, length, get_or, ◌∙◌, arith}
use Rattle.std.proofs.lemmas.List.{ext_get_or, length-map}
use Rattle.ring.specs.Lists.{words_q}
use Rattle.ring.specs.declared.sorts.Coefficient.{Coefficient}
use Rattle.std.proofs.Math.ListN.{get_or-map}

-- coefficients that hold the words, place by place
pub coefficient_words : (xs : List Coefficient) (ws : List ℕ) → length xs ≡ length ws
    → ((k : ℕ) → k < length ws → (get_or xs k (record { 0 = 0 })).0 ≡ get_or ws k 0) → words_q xs ≡ ws
coefficient_words xs ws long each =
    let same : length (words_q xs) ≡ length xs = length-map xs (λ (x : Coefficient). x.0) in
    ext_get_or 0 (words_q xs) ws (same ∙ long) (λ k h. get_or-map (λ (x : Coefficient). x.0) xs k (record { 0 = 0 }) ∙ each k (omega arith))
