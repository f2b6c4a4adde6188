-- The occupancy table and the positions kept.
use Rattle.std.proofs.Common.{◌≡◌, ℕ, ◌*◌, ◌/◌, ◌<◌, ◌≤◌, false, ◌||◌, eqb, ltb, List, [], ◌∷◌, ◌++◌, length, get_or, set, replicate, sym, refl, mul_comm, arith}
use Rattle.std.proofs.lemmas.Nat.{div_below, le-div}
use Rattle.std.proofs.lemmas.List.{append-nil, append_assoc, get_or-replicate}
use Rattle.std.proofs.lemmas.Bool.{cond_both}
use Rattle.std.proofs.lemmas.Grind.{common_steps}
use Rattle.std.proofs.lemmas.Bool.Decides.{nat_tests}
use Rattle.sampler.specs.Positions.{marks_room, share, has, kept, kept_from, Marked}

pub has_push : (p : ℕ) (ps : List ℕ) (x : ℕ) → has p (ps ++ (x ∷ [])) ≡ (has p ps || eqb p x)
has_push p [] x = grind (arith, nat_tests)
has_push p (y ∷ ps) x = grind (arith, nat_tests, has_push p ps x)

-- Some value falls to every position.
pub share_pos : (n : ℕ) → 0 < n → n ≤ marks_room → 0 < share n
share_pos n a b = le-div 1 65536 n a (omega arith)

-- A value that is not too large has a position below n.
pub position_below : (n v : ℕ) → 0 < n → n ≤ marks_room → v < share n * n → v / share n < n
position_below n v a b l = div_below v (share n) n (share_pos n a b) (rw (mul_comm n (share n)) l)

-- A clear table has no position marked.
pub marked_none : Marked (replicate marks_room 0) []
marked_none p l = get_or-replicate marks_room p 0 0 l

-- What a read of the table tells.
pub has_at_clear : (table ps : List ℕ) (p : ℕ) → Marked table ps → p < marks_room → get_or table p 0 ≡ 0 → has p ps ≡ false
has_at_clear table ps p m l z = grind (arith, nat_tests, m p l)

-- A position more, and its mark.
pub marked_push : (table ps : List ℕ) (x : ℕ) → x < length table → Marked table ps → Marked (set table x 1) (ps ++ (x ∷ []))
marked_push table ps x l m p h = grind (arith, common_steps, nat_tests, m p h, has_push p ps x)

-- What is kept stays, in front.
kept_front : (n : ℕ) (ps : List ℕ) (v : ℕ) → (more : List ℕ) × (kept n ps v ≡ ps ++ more)
kept_front n ps v =
    let Front : List ℕ → Type 0 = λ xs. (more : List ℕ) × (xs ≡ ps ++ more) in
    let same : Front ps = ([], sym (append-nil ps)) in
    cond_both (ltb v (share n * n)) _ _ Front (λ _. cond_both (has (v / share n) ps) _ _ Front (λ _. same) (λ _. ((v / share n) ∷ [], refl))) (λ _. same)

pub kept_from_front : (n : ℕ) (ps vs : List ℕ) → (more : List ℕ) × (kept_from n ps vs ≡ ps ++ more)
kept_from_front n ps [] = ([], sym (append-nil ps))
kept_from_front n ps (v ∷ vs) =
    let one = kept_front n ps v in
    let rest = kept_from_front n (kept n ps v) vs in
    (one.0 ++ rest.0, grind (arith, append_assoc, one.1, rest.1))
