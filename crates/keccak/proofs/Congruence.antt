-- Equal parts make equal wholes.
use Rattle.std.proofs.Common.{◌≡◌, ℕ, List, ◌∷◌, ap, ◌∙◌}

pub cons : {x y : ℕ} {xs ys : List ℕ} → x ≡ y → xs ≡ ys → x ∷ xs ≡ y ∷ ys
cons {x} {y} {xs} {ys} p q = ap (λ (z : ℕ). z ∷ xs) p ∙ ap (λ (zs : List ℕ). y ∷ zs) q

pub of_five : {X : Type 0} (f : X → X → X → X → X → List ℕ) {a b c d e a' b' c' d' e' : X} → a ≡ a' → b ≡ b' → c ≡ c' → d ≡ d' → e ≡ e'
    → f a b c d e ≡ f a' b' c' d' e'
of_five {X} f {a} {b} {c} {d} {e} {a'} {b'} {c'} {d'} {e'} p q r s t =
    ap (λ (x : X). f x b c d e) p ∙ ap (λ (x : X). f a' x c d e) q ∙ ap (λ (x : X). f a' b' x d e) r ∙ ap (λ (x : X). f a' b' c' x e) s
    ∙ ap (λ (x : X). f a' b' c' d' x) t
