-- What a sponge means: the bytes that it will give, as a function of the value. The contracts of `new`, `absorb`, `finish` and `squeeze` say all of it that counts.
use Rattle.std.specs.Prelude.{ℕ, List, ◌++◌, replicate}
use Rattle.shake.specs.Shake.{ended, output}
use Rattle.shake.specs.declared.state.Absorbing.{Absorbing}
use Rattle.shake.specs.declared.state.Squeezing.{Squeezing}

-- the state once m too is absorbed and the message ends; the bytes of the block before the position are in the state already, and xoring 0 changes nothing
abbrev pub filled : Absorbing → List ℕ → List ℕ
filled s m = ended s.state (replicate s.position 0 ++ m)

-- the first k bytes to come once m too is absorbed and the message ends
unfoldable pub after : Absorbing → List ℕ → ℕ → List ℕ
after s m k = output (filled s m) 0 k

-- the next k bytes to come
unfoldable pub coming : Squeezing → ℕ → List ℕ
coming s k = output s.state s.position k
