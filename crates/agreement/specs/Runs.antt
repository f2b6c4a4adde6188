-- Runs of calls on a rack just made, refused ones included.
use Rattle.std.specs.Prelude.{ℕ, List, [], ◌∷◌, Ok, Err, Result, ◌≢◌}
use Rattle.params.specs.declared.set.Set.{Set}
use Rattle.calls.specs.Chains.{Book}
use Rattle.calls.specs.declared.refusal.Refusal.{Refusal}
use Rattle.rack.specs.Calls.{Places, issued, retired}

-- a call: the place that it names, the lengths of the buffers that it is lent, and its input
pub data Call : Type 0 where
  -- the secret area, the product area; the coins
  issue : ℕ → ℕ → ℕ → List ℕ → Call
  -- the key, the two areas
  publish : ℕ → ℕ → ℕ → ℕ → Call
  -- the secret, the two areas; the parcel
  open_parcel : ℕ → ℕ → ℕ → ℕ → List ℕ → Call
  retire : ℕ → Call

-- the places after a call that may be refused: a refused one leaves them as they were
abbrev pub or_same : Places → Result Places Refusal → Places
or_same ps (Ok qs) = qs
or_same ps (Err e) = ps

-- the places after a call, by its own answer
abbrev pub after : Book → Set → Places → Call → Places
after B s ps (issue i secret_words product_words coins) = or_same ps (issued B s ps i secret_words product_words coins)
after B s ps (publish i key secret_words product_words) = ps
after B s ps (open_parcel i secret secret_words product_words parcel) = ps
after B s ps (retire i) = or_same ps (retired ps i)

-- the places after calls one after another
abbrev pub run : Book → Set → Places → List Call → Places
run B s ps [] = ps
run B s ps (c ∷ cs) = run B s (after B s ps c) cs

-- no call of the list retires place i
abbrev pub Unretired : ℕ → List Call → Type 0
Unretired i [] = Unit {0}
Unretired i (c ∷ cs) = (c ≢ retire i) × Unretired i cs
