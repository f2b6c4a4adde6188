-- What a draw does to the bytes still to come and to the caller's buffer.
-- `was` and `is` are the bytes to come before and after; `hold` and `held` are what the buffer holds before and after.
use Rattle.std.specs.Prelude.{◌≡◌, ℕ, ◌<◌, ◌≤◌, List, length, take, drop}

-- The draw is served: the first bytes to come fill the buffer and come no more.
pub record Filled (was is hold held : List ℕ) : Type 0 where
  pub enough : length hold ≤ length was
  pub bytes : held ≡ take (length hold) was
  pub rest : is ≡ drop (length hold) was

-- The draw is refused: fewer bytes remain than the buffer holds, and nothing changes.
pub record Refused (was is hold held : List ℕ) : Type 0 where
  pub short : length was < length hold
  pub bytes : held ≡ hold
  pub rest : is ≡ was
