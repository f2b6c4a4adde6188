-- Bytes: spaces, words, and the parts between marks.
use Rattle.std.specs.Prelude.{◌≡◌, ℕ, Bool, true, false, cond, ◌||◌, List, [], ◌∷◌, Some, None, Option, ◌==◌}
use Rattle.std.specs.List.{slice_split}
use Rattle.std.specs.Borrow.{Bor}

-- a space, a tab or a carriage return
abbrev pub space : ℕ → Bool
space x = x == 32 || x == 9 || x == 13

-- without the spaces in front
abbrev pub skipped : List ℕ → List ℕ
skipped [] = []
skipped (x ∷ xs) = cond (space x) (skipped xs) (x ∷ xs)

-- no bytes
abbrev pub empty : List ℕ → Bool
empty [] = true
empty (x ∷ xs) = false

-- nothing but spaces
abbrev pub blank : List ℕ → Bool
blank xs = empty (skipped xs)

-- what stands before the first c, or all
abbrev pub before : ℕ → List ℕ → List ℕ
before c [] = []
before c (x ∷ xs) = cond (x == c) [] (x ∷ before c xs)

-- what follows the first c, where there is one
abbrev pub after : ℕ → List ℕ → Option (List ℕ)
after c [] = None
after c (x ∷ xs) = cond (x == c) (Some xs) (after c xs)

-- the parts between the marks c: one more than there are marks
abbrev pub parts : ℕ → List ℕ → List (List ℕ)
parts c = slice_split (λ x. x == c)

-- what follows a word, where the bytes begin with it
abbrev pub stripped : List ℕ → List ℕ → Option (List ℕ)
stripped [] xs = Some xs
stripped (p ∷ ps) [] = None
stripped (p ∷ ps) (x ∷ xs) = cond (x == p) (stripped ps xs) None

-- something follows, and it is blank
abbrev pub only_blank : Option (List ℕ) → Bool
only_blank None = false
only_blank (Some xs) = blank xs

-- a word and nothing else, with free spaces around it
abbrev pub says : List ℕ → List ℕ → Bool
says word xs = only_blank (stripped word (skipped xs))

-- a part of some bytes that is lent is the one that is meant
abbrev pub Gives : Option (Bor (List ℕ)) → Option (List ℕ) → Type 0
Gives None o = o ≡ None
Gives (Some r) o = o ≡ Some r.now
