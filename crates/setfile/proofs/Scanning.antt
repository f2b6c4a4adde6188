-- The scanning functions in the library's words, over plain lists.
use Rattle.std.proofs.Common.{◌≡◌, ℕ, suc, ◌+◌, ◌-◌, ◌≤◌, Bool, true, false, not, cond, eqb, ltb, List, [], ◌∷◌, ◌++◌, length, take, drop, Some, None, Option, sym, refl, ap, ◌∙◌, ap₂, arith, Bor, add-one, eq-eqb}
use Rattle.std.specs.List.{position, position_or_len, before_first, after_first, onto_first}
use Rattle.std.specs.Option.{unwrap_or, MatchOption}
use Rattle.std.proofs.lemmas.Grind.{common_steps}
use Rattle.std.proofs.lemmas.Bool.{le-ltb, lt-ltb, ltb-true, ltb-false, eqb-true}
use Rattle.std.proofs.lemmas.List.{take_all}
use Rattle.std.proofs.lemmas.List.Sums.{prefix_len-le-length}
use Rattle.std.proofs.lemmas.Slice.{between_to_end}
use Rattle.setfile.specs.Scan.{space, skipped, before, after, parts, stripped, blank, only_blank}

-- the bytes from the first that is no space
skipped_step : (x : ℕ) (xs : List ℕ) (t : Bool) → drop (position_or_len (λ y. not (space y)) xs) xs ≡ skipped xs → drop (cond (not (not t)) (1 + position_or_len (λ y. not (space y)) xs) 0) (x ∷ xs) ≡ cond t (skipped xs) (x ∷ xs)
skipped_step x xs true h = grind (arith, common_steps)
skipped_step x xs false h = refl

pub skipped_is : (xs : List ℕ) → drop (position_or_len (λ y. not (space y)) xs) xs ≡ skipped xs
skipped_is [] = refl
skipped_is (x ∷ xs) = skipped_step x xs (space x) (skipped_is xs)

-- the two sides of the first mark
before_step : (c x : ℕ) (xs : List ℕ) (t : Bool) → take (position_or_len (λ y. eqb y c) xs) xs ≡ before c xs → take (cond (not t) (1 + position_or_len (λ y. eqb y c) xs) 0) (x ∷ xs) ≡ cond t [] (x ∷ before c xs)
before_step c x xs true h = refl
before_step c x xs false h = grind (arith, common_steps)

pub before_is : (c : ℕ) (xs : List ℕ) → before_first (λ y. eqb y c) xs ≡ before c xs
before_is c [] = refl
before_is c (x ∷ xs) = before_step c x xs (eqb x c) (before_is c xs)

after_later : (x : ℕ) (xs : List ℕ) (n m : ℕ) (t : Bool) → ltb n m ≡ t → (o : Option (List ℕ)) → cond t (Some (drop (n + 1) xs)) None ≡ o → cond (ltb (1 + n) (m + 1)) (Some (drop (1 + n + 1) (x ∷ xs))) None ≡ o
after_later x xs n m true e o h =
    let l : ltb (1 + n) (m + 1) ≡ true = lt-ltb _ _ (omega (arith, ltb-true n m e)) in
    let s : 1 + n + 1 ≡ suc (n + 1) = omega arith in
    rw (l, s) h
after_later x xs n m false e o h =
    let l : ltb (1 + n) (m + 1) ≡ false = le-ltb _ _ (omega (arith, ltb-false n m e)) in
    rw l h

after_step : (c x : ℕ) (xs : List ℕ) (n m : ℕ) (t : Bool) → m ≡ length xs → cond (ltb n m) (Some (drop (n + 1) xs)) None ≡ after c xs → cond (ltb (cond (not t) (1 + n) 0) (m + 1)) (Some (drop (cond (not t) (1 + n) 0 + 1) (x ∷ xs))) None ≡ cond t (Some xs) (after c xs)
after_step c x xs n m true e h = let lt : ltb 0 (m + 1) ≡ true = lt-ltb 0 (m + 1) (omega arith) in rw lt
after_step c x xs n m false e h = after_later x xs n m (ltb n m) refl (after c xs) h

pub after_is : (c : ℕ) (xs : List ℕ) → cond (ltb (position_or_len (λ y. eqb y c) xs) (length xs)) (Some (after_first (λ y. eqb y c) xs)) None ≡ after c xs
after_is c [] = refl
after_is c (x ∷ xs) = rw (← add-one (length xs)) (after_step c x xs _ _ (eqb x c) refl (after_is c xs))

-- what `position` finds
between_drop : (xs : List ℕ) (i : ℕ) → take (length xs - i) (drop i xs) ≡ drop i xs
between_drop xs i = between_to_end xs i (length xs) (omega arith)

position_by : (n m : ℕ) (t : Bool) → ltb n m ≡ t → n ≤ m → unwrap_or (cond t (Some n) None) m ≡ n
position_by n m true e h = refl
position_by n m false e h = omega (arith, ltb-false n m e)

pub skipped_from : (xs : List ℕ) (r : Option ℕ) (n : ℕ) → r ≡ position (λ y. not (space y)) xs → n ≡ unwrap_or r (length xs) → take (length xs - n) (drop n xs) ≡ skipped xs
skipped_from xs r n e h =
    let at : n ≡ position_or_len (λ y. not (space y)) xs = h ∙ ap (λ o. unwrap_or o (length xs)) e ∙ position_by _ _ _ refl (prefix_len-le-length _ xs) in
    between_drop xs n ∙ ap (λ i. drop i xs) at ∙ skipped_is xs

mark_by : (c : ℕ) (xs : List ℕ) (i n : ℕ) (t : Bool) → Some i ≡ cond t (Some n) None → take n xs ≡ before c xs → cond t (Some (drop (n + 1) xs)) None ≡ after c xs → (take i xs ≡ before c xs) × (after c xs ≡ Some (take (length xs - (i + 1)) (drop (i + 1) xs)))
mark_by c xs i n true e f a = let same : i ≡ n = cc in rw same (f, sym a ∙ ap (λ (l : List ℕ). Some l) (sym (between_drop xs (n + 1))))
mark_by c xs i n false e f a = (cc)

pub mark_at : (c : ℕ) (xs : List ℕ) (r : Option ℕ) (i : ℕ) → r ≡ position (λ y. eqb y c) xs → r ≡ Some i → (take i xs ≡ before c xs) × (after c xs ≡ Some (take (length xs - (i + 1)) (drop (i + 1) xs)))
mark_at c xs r i e h = mark_by c xs i _ _ (sym h ∙ e) (before_is c xs) (after_is c xs)

no_mark_by : (c : ℕ) (xs : List ℕ) (n : ℕ) (t : Bool) → ltb n (length xs) ≡ t → n ≤ length xs → None ≡ cond t (Some n) None → take n xs ≡ before c xs → cond t (Some (drop (n + 1) xs)) None ≡ after c xs → (xs ≡ before c xs) × (after c xs ≡ None)
no_mark_by c xs n true l h e f a = (cc)
no_mark_by c xs n false l h e f a = (sym (take_all n xs (ltb-false n (length xs) l)) ∙ f, sym a)

pub no_mark : (c : ℕ) (xs : List ℕ) (r : Option ℕ) → r ≡ position (λ y. eqb y c) xs → r ≡ None → (xs ≡ before c xs) × (after c xs ≡ None)
no_mark c xs r e h = no_mark_by c xs _ _ refl (prefix_len-le-length _ xs) (sym h ∙ e) (before_is c xs) (after_is c xs)

-- what follows a word
pub stripped_is : (ps xs : List ℕ) → stripped ps (ps ++ xs) ≡ Some xs
stripped_is [] xs = refl
stripped_is (p ∷ ps) xs = let t : eqb p p ≡ true = eq-eqb p p refl in rw t (stripped_is ps xs)

stripped_none_step : (p x : ℕ) (ps xs : List ℕ) (t : Bool) → (t ≡ true → x ≡ p) → (((rest : List ℕ) → xs ≡ ps ++ rest → ⊥) → stripped ps xs ≡ None) → ((rest : List ℕ) → x ∷ xs ≡ p ∷ (ps ++ rest) → ⊥) → cond t (stripped ps xs) None ≡ None
stripped_none_step p x ps xs false same ih h = refl
stripped_none_step p x ps xs true same ih h = ih (λ rest e. h rest (let s : x ≡ p = same refl in cc))

pub stripped_none : (ps xs : List ℕ) → ((rest : List ℕ) → xs ≡ ps ++ rest → ⊥) → stripped ps xs ≡ None
stripped_none [] xs h = absurd (h xs refl)
stripped_none (p ∷ ps) [] h = refl
stripped_none (p ∷ ps) (x ∷ xs) h = stripped_none_step p x ps xs (eqb x p) (eqb-true x p) (stripped_none ps xs) h

pub word_is : (ps xs : List ℕ) (r : Option (Bor (List ℕ))) (b : Bool) → MatchOption r ((rest : List ℕ) → xs ≡ ps ++ rest → ⊥) (λ x. xs ≡ ps ++ x.now) → MatchOption r (b ≡ false) (λ x. b ≡ blank x.now) → b ≡ only_blank (stripped ps xs)
word_is ps xs None b e h = h ∙ sym (ap only_blank (stripped_none ps xs e))
word_is ps xs (Some x) b e h = h ∙ sym (ap (λ l. only_blank (stripped ps l)) e ∙ ap only_blank (stripped_is ps x.now))

-- the parts are what stands before the first mark, and the parts of what follows it
module _ (c : ℕ) where
  abbrev pub parts_after : Option (List ℕ) → List (List ℕ)
  parts_after None = []
  parts_after (Some xs) = parts c xs

  cut_by : (x : ℕ) (xs : List ℕ) (t : Bool) → parts c xs ≡ before c xs ∷ parts_after (after c xs) → cond t ([] ∷ parts c xs) (onto_first x (parts c xs)) ≡ cond t [] (x ∷ before c xs) ∷ parts_after (cond t (Some xs) (after c xs))
  cut_by x xs true ih = refl
  cut_by x xs false ih = ap (onto_first x) ih

  pub parts_cut : (xs : List ℕ) → parts c xs ≡ before c xs ∷ parts_after (after c xs)
  parts_cut [] = refl
  parts_cut (x ∷ xs) = cut_by x xs (eqb x c) (parts_cut xs)

  -- going over the parts takes the first and goes on with what follows the mark
  pub next_part : (rest front : List ℕ) (o : Option (List ℕ)) → front ≡ before c rest → after c rest ≡ o → parts c rest ≡ front ∷ parts_after o
  next_part rest front o first more = parts_cut rest ∙ ap₂ (λ (l : List ℕ) (p : Option (List ℕ)). l ∷ parts_after p) (sym first) more
