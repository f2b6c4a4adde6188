-- What a sponge has still to give.
use Rattle.std.specs.Prelude.{List, ℕ}
use Rattle.shake.specs.Meaning.{coming}
use Rattle.sponge.specs.declared.Sponge.{Sponge}

-- the bytes still to come
abbrev pub remaining : Sponge → List ℕ
remaining s = coming s.stream s.left
