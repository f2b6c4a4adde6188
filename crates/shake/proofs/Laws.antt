-- The laws of SHAKE256 and of the bytes to come, for the crates above.
use Rattle.std.proofs.Common.{◌≡◌, ℕ, ◌≤◌, List, [], length, take, refl}
use Rattle.shake.specs.Shake.{output, shake256}
use Rattle.shake.specs.Meaning.{coming}
use Rattle.shake.specs.declared.state.Squeezing.{Squeezing}
use Rattle.shake.proofs.Output.{length_output, take_output}

pub length_shake256 : (m : List ℕ) (n : ℕ) → length (shake256 m n) ≡ n
unfolding shake256
length_shake256 m n = length_output _ 0 n

pub length_coming : (s : Squeezing) (k : ℕ) → length (coming s k) ≡ k
unfolding coming
length_coming s k = length_output s.state s.position k

pub take_coming : (s : Squeezing) (n k : ℕ) → n ≤ k → take n (coming s k) ≡ coming s n
unfolding coming
take_coming s n k h = take_output s.state s.position n k h

pub coming_none : (s : Squeezing) → coming s 0 ≡ []
unfolding coming output
coming_none s = refl
