-- The laws of the two expansions.
use Rattle.std.proofs.Common.{◌≡◌, ℕ, zero, suc, ◌*◌, ◌/◌, ◌^◌, ◌<◌, ◌≤◌, false, eqb, ltb, ◌≢◌, List, [], ◌∷◌, ◌++◌, take, Ok, Err, sym, subst}
use Rattle.std.specs.List.{AllByRecursion}
use Rattle.std.proofs.lemmas.Nat.{pow_pos, mod_below}
use Rattle.std.proofs.ByRecursion.{All-push, All-take}
use Rattle.std.proofs.lemmas.List.{length-take-le}
use Rattle.std.proofs.lemmas.Bool.{ltb-true, cond_both, or_parts, eqb-false}
use Rattle.sampler.specs.declared.SamplerFault.{SamplerFault}
use Rattle.sampler.specs.Values.{values, residues}
use Rattle.sampler.specs.Positions.{marks_room, share, has, kept, kept_from}
use Rattle.sampler.specs.Expanded.{public_label, secret_label, expanded_public, expanded_secret}
use Rattle.sampler.specs.Facts.{Distinct, Reduced, Picked, Shortfall}
use Rattle.sampler.proofs.First.{first_front, first_shortfall}
use Rattle.sampler.proofs.Table.{position_below}

residues_below : (qb : ℕ) (vs : List ℕ) → AllByRecursion (λ a. a < 2 ^ qb) (residues qb vs)
residues_below qb [] = tt
residues_below qb (v ∷ vs) = (mod_below v (2 ^ qb) (pow_pos qb), residues_below qb vs)

-- A public polynomial has n coefficients modulo 2 ^ qb.
pub public_reduced : (qb n : ℕ) (list out : List ℕ) → expanded_public qb n list ≡ Ok out → Reduced qb n out
unfolding expanded_public
public_reduced qb n list out e =
    let f = first_front public_label n (residues qb (values list)) (values list) out e in
    subst (Reduced qb n) f.1 (record { count = length-take-le n _ f.0; below = All-take _ n _ (residues_below qb (values list)) })

-- A public polynomial that cannot be made: the list ran short.
pub public_shortfall : (qb n : ℕ) (list : List ℕ) (fault : SamplerFault) → expanded_public qb n list ≡ Err fault → Shortfall public_label n list fault
unfolding expanded_public
public_shortfall qb n list fault e = first_shortfall public_label n (residues qb (values list)) list fault e

distinct_push : (ps : List ℕ) (p : ℕ) → Distinct ps → has p ps ≡ false → Distinct (ps ++ (p ∷ []))
distinct_push [] p d e = (tt, tt)
distinct_push (x ∷ ps) p d e =
    let o = or_parts (eqb p x) (has p ps) e in
    (All-push (λ y. x ≢ y) ps p d.0 (λ s. eqb-false p x o.0 (sym s)), distinct_push ps p d.1 o.1)

distinct_take : (n : ℕ) (ps : List ℕ) → Distinct ps → Distinct (take n ps)
distinct_take zero ps d = tt
distinct_take (suc n) [] d = tt
distinct_take (suc n) (p ∷ ps) d = (All-take (λ y. p ≢ y) n ps d.0, distinct_take n ps d.1)

-- Positions below n, no two equal.
record Apart (n : ℕ) (ps : List ℕ) : Type 0 where
  below : AllByRecursion (λ p. p < n) ps
  distinct : Distinct ps

kept_apart : (n : ℕ) (ps : List ℕ) (v : ℕ) → 0 < n → n ≤ marks_room → Apart n ps → Apart n (kept n ps v)
kept_apart n ps v a b k =
    cond_both (ltb v (share n * n)) _ _ (Apart n)
    (λ t. cond_both (has (v / share n) ps) _ _ (Apart n)
    (λ _. k)
    (λ e. record { below = All-push (λ p. p < n) ps (v / share n) k.below (position_below n v a b (ltb-true v (share n * n) t)); distinct = distinct_push ps (v / share n) k.distinct e }))
    (λ _. k)

kept_from_apart : (n : ℕ) (ps vs : List ℕ) → 0 < n → n ≤ marks_room → Apart n ps → Apart n (kept_from n ps vs)
kept_from_apart n ps [] a b k = k
kept_from_apart n ps (v ∷ vs) a b k = kept_from_apart n (kept n ps v) vs a b (kept_apart n ps v a b k)

-- A secret is h distinct positions below n.
pub secret_picked : (n h : ℕ) (list out : List ℕ) → 0 < n → n ≤ marks_room → expanded_secret n h list ≡ Ok out → Picked n h out
unfolding expanded_secret
secret_picked n h list out a b e =
    let f = first_front secret_label h (kept_from n [] (values list)) (values list) out e in
    let k = kept_from_apart n [] (values list) a b (record { below = tt; distinct = tt }) in
    subst (Picked n h) f.1 (record { count = length-take-le h _ f.0; below = All-take _ h _ k.below; distinct = distinct_take h _ k.distinct })

-- A secret that cannot be made: the list ran short.
pub secret_shortfall : (n h : ℕ) (list : List ℕ) (fault : SamplerFault) → expanded_secret n h list ≡ Err fault → Shortfall secret_label h list fault
unfolding expanded_secret
secret_shortfall n h list fault e = first_shortfall secret_label h (kept_from n [] (values list)) list fault e
