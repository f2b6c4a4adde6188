-- The values of a set file: numbers, lists of numbers, yes and no.
use Rattle.std.specs.Prelude.{ℕ, ◌+◌, ◌-◌, ◌*◌, Bool, true, false, cond, ◌&&◌, List, [], ◌∷◌, take, replicate, Ok, Err, codes, Result, nat_le, nat_lt, slice_set}
use Rattle.setfile.specs.Scan.{skipped, blank, parts, says}
use Rattle.setfile.specs.declared.field.Lengths.{Lengths}
use Rattle.setfile.specs.declared.fault.Wrong.{Wrong}
use Rattle.setfile.specs.declared.fault.Wrong.TheVariants.{NoNumber, TooLarge, NoMark}

-- the largest number that a file may state
abbrev pub largest : ℕ
largest = 65535

-- how many check lengths are kept
abbrev pub most_kept : ℕ
most_kept = 11

-- then, unless something is wrong
abbrev pub bind : {X Y E : Type 0} → Result X E → (X → Result Y E) → Result Y E
bind (Ok x) then = then x
bind (Err e) then = Err e

-- 0 to 9
abbrev pub digit : ℕ → Bool
digit x = nat_le 48 x && nat_le x 57

-- the number so far with one more digit
abbrev pub with_digit : ℕ → ℕ → ℕ
with_digit sum x = sum * 10 + (x - 48)

-- after a number only spaces may stand
abbrev pub ended : ℕ → Bool → Result ℕ Wrong
ended sum spaces = cond spaces (Ok sum) (Err NoNumber)

-- the number that more digits give, after those that gave the sum
abbrev pub digits_of : ℕ → List ℕ → Result ℕ Wrong
digits_of sum [] = Ok sum
digits_of sum (x ∷ xs) =
    cond (digit x)
    (cond (nat_le (with_digit sum x) largest) (digits_of (with_digit sum x) xs) (Err TooLarge))
    (ended sum (blank (x ∷ xs)))

-- a number begins with a digit
abbrev pub from_digit : List ℕ → Result ℕ Wrong
from_digit [] = Err NoNumber
from_digit (x ∷ xs) = cond (digit x) (digits_of 0 (x ∷ xs)) (Err NoNumber)

-- a number, with free spaces around it
abbrev pub number_of : List ℕ → Result ℕ Wrong
number_of xs = from_digit (skipped xs)

-- no lengths, in a table of zeros
unfoldable pub no_lengths : Lengths
no_lengths = record { table = replicate most_kept 0; count = 0 }

-- one more length, where there is room for it
abbrev pub kept : Lengths → ℕ → Lengths
kept l x = cond (nat_lt l.count most_kept) (record { table = slice_set l.table l.count x; count = l.count + 1 }) l

-- the list with the numbers of these parts
abbrev pub keep_parts : Lengths → List (List ℕ) → Result Lengths Wrong
keep_parts l [] = Ok l
keep_parts l (x ∷ xs) = bind (number_of x) (λ long. keep_parts (kept l long) xs)

-- nothing, or numbers with commas (44) between them
abbrev pub lengths_of : List ℕ → Result Lengths Wrong
lengths_of xs = cond (blank xs) (Ok no_lengths) (keep_parts no_lengths (parts 44 xs))

-- yes or no
abbrev pub mark_of : List ℕ → Result Bool Wrong
mark_of xs = cond (says (codes "yes") xs) (Ok true) (cond (says (codes "no") xs) (Ok false) (Err NoMark))

-- the lengths that a list holds
abbrev pub given_lengths : Lengths → List ℕ
given_lengths l = take l.count l.table
