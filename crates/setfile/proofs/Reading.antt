-- The steps of the loops that read numbers, lists and lines, over plain lists.
use Rattle.std.proofs.Common.{◌≡◌, ℕ, ◌+◌, ◌<◌, List, length, get_or, drop, Some, None, Option, Ok, Err, Result, sym, ap, zero-add, ◌∙◌, arith}
use Rattle.std.specs.Iterator.{Yields}
use Rattle.std.specs.List.{enumerate_from}
use Rattle.std.specs.Result.{MatchResult}
use Rattle.std.proofs.lemmas.List.{at_drop_more}
use Rattle.std.proofs.lemmas.List.FromFn.{length-enumerate_from, get_or-enumerate_from}
use Rattle.std.proofs.lemmas.Iterator.{YieldsList}
use Rattle.std.proofs.lemmas.Iterator.Consumers.{YieldsList-turn, YieldsList-end}
use Rattle.setfile.specs.Values.{number_of, kept, keep_parts}
use Rattle.setfile.specs.declared.field.Lengths.{Lengths}
use Rattle.setfile.specs.Meaning.{put_row, put_lines}
use Rattle.setfile.specs.declared.found.Found.{Found}
use Rattle.setfile.specs.declared.fault.Fault.{Fault}
use Rattle.setfile.specs.declared.fault.Fault.TheVariants.{Line}
use Rattle.setfile.specs.declared.fault.Wrong.{Wrong}

-- a turn and the end of a `for`, in an order in which what the loop knows comes first
module _ {S A B : Type 0} {steps : S → Option A → S → Type 0} {v : A → B} {s : S} {all : List B} (xs : List A) (t : S) (y : Yields steps s xs t) (r : Option A) (u : S) where
  pub turn_of : (x : A) → r ≡ Some x → steps t r u → YieldsList steps v s all → (length xs < length all) × (v x ≡ get_or all (length xs) (v x))
  turn_of x e h road = YieldsList-turn road xs t y r u x e h

  pub end_of : r ≡ None → steps t r u → YieldsList steps v s all → length xs ≡ length all
  end_of e h road = (YieldsList-end road xs t y r u e h).1

-- a turn of the loop over lengths: at a part that is no number, and at a number
module _ (all : List (List ℕ)) (l : Lengths) (k : ℕ) (part : List ℕ) (turn : (k < length all) × (part ≡ get_or all k part)) where
  pub turn_stop : (w : Wrong) → Err w ≡ number_of part → Err w ≡ keep_parts l (drop k all)
  turn_stop w h = sym (at_drop_more (keep_parts l) all k part turn.0 ∙ rw (← turn.1, ← h))

  pub turn_next : (x : ℕ) → Ok x ≡ number_of part → keep_parts l (drop k all) ≡ keep_parts (kept l x) (drop (k + 1) all)
  turn_next x h = at_drop_more (keep_parts l) all k part turn.0 ∙ rw (← turn.1, ← h)

-- the parts with their numbers
pub numbered : (all : List (List ℕ)) (k i : ℕ) (row : List ℕ) → (k < length (enumerate_from 0 all)) × ((i, row) ≡ get_or (enumerate_from 0 all) k (i, row)) → (i ≡ k) × (k < length all) × (row ≡ get_or all k row)
numbered all k i row h =
    let n : k < length all = omega (arith, length-enumerate_from 0 all) in
    let e : (i, row) ≡ (0 + k, get_or all k row) = h.1 ∙ get_or-enumerate_from 0 all k (i, row) n in
    (ap (λ (p : ℕ × List ℕ). p.0) e ∙ zero-add k, n, ap (λ (p : ℕ × List ℕ). p.1) e)

-- what a row gave, from what `map_err` made of it at line n
module _ (n : ℕ) (d e : Found) (row : List ℕ) where
  pub row_wrong : (f : Fault) (r : Result (Unit {0}) Wrong) → MatchResult r (λ _. put_row d row ≡ Ok e) (λ w. put_row d row ≡ Err w) → MatchResult r (λ x. Err f ≡ Ok x) (λ w. f ≡ Line n w) → (w : Wrong) × (put_row d row ≡ Err w) × (f ≡ Line n w)
  row_wrong f (Ok x) p h = (cc)
  row_wrong f (Err w) p h = (w, p, h)

  pub row_right : (r : Result (Unit {0}) Wrong) → MatchResult r (λ _. put_row d row ≡ Ok e) (λ w. put_row d row ≡ Err w) → MatchResult r (λ _. Unit {0}) (λ _. ⊥) → put_row d row ≡ Ok e
  row_right (Ok x) p h = p
  row_right (Err w) p h = absurd h

-- a turn of the loop over lines: at a line that is wrong, and at another
module _ (all : List (List ℕ)) (d : Found) (k : ℕ) (row : List ℕ) (turn : (k < length all) × (row ≡ get_or all k row)) where
  pub line_stop : (i : ℕ) (w : Wrong) (f : Fault) → i ≡ k → put_row d row ≡ Err w → f ≡ Line (i + 1) w → Err f ≡ put_lines (k + 1) d (drop k all)
  line_stop i w f same h e = rw (e, same) (sym (at_drop_more (put_lines (k + 1) d) all k row turn.0 ∙ rw (← turn.1, h)))

  pub line_next : (e : Found) → put_row d row ≡ Ok e → put_lines (k + 1) d (drop k all) ≡ put_lines (k + 1 + 1) e (drop (k + 1) all)
  line_next e h = at_drop_more (put_lines (k + 1) d) all k row turn.0 ∙ rw (← turn.1, h)
