use Rattle.std.proofs.Common.{◌≡◌, ℕ, ◌∷◌, drop}
use Rattle.std.specs.List.{flat_map}
use Rattle.shake.specs.Meaning.{after}
use Rattle.shake.specs.Shake.{shake256}
use Rattle.shake.proofs.hash.Given as goal

-- what is left gives what the whole gives
abbrev pub invariant-loop-piece : goal.invariant-loop-piece
invariant-loop-piece l =
    (k : ℕ) → after l.message (flat_map (λ p. p.now) (drop l.piece-index l.pieces)) k ≡ shake256 (l.label ∷ flat_map (λ p. p.now) l.pieces) k
