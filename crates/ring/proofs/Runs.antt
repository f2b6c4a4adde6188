-- The runs of the product: what `along` does, one element more at a time, and what two runs do.
use Rattle.std.proofs.Common.{◌≡◌, ℕ, zero, suc, ◌+◌, ◌-◌, ◌%◌, ◌<◌, min, List, [], ◌∷◌, ◌++◌, map, length, get_or, take, drop, set, sym, refl, ap, ◌∙◌, subst, inl, inr, mod-eq_of_lt, add-one, arith}
use native.Mathlib.Nat.{add-mod_right}
use Rattle.std.proofs.lemmas.Bool.{cases_lt}
use Rattle.std.proofs.lemmas.List.{length-take-le, length-drop, length-map, take-map, drop-map, get_or_append_left, get_or-append_right, get_or-drop, get_or-take, get_or_past}
use Rattle.ring.specs.Cyclic.{along, back}

module _ {X : Type 0} (op : X → X → X) where
  pub along_nil : (xs : List X) → along op xs [] ≡ xs
  along_nil [] = refl
  along_nil (x ∷ xs) = refl

  along_suc : (xs ys : List X) (i : ℕ) (a b : X) → i < length xs → i < length ys → a ≡ get_or (along op xs (take i ys)) i a → b ≡ get_or ys i b → set (along op xs (take i ys)) i (op a b) ≡ along op xs (take (suc i) ys)
  along_suc [] ys i a b h k p q = absurd (omega arith)
  along_suc (x ∷ xs) [] i a b h k p q = absurd (omega arith)
  along_suc (x ∷ xs) (y ∷ ys) zero a b h k p q =
      let e : a ≡ x = p in
      let f : b ≡ y = q in
      let n : along op xs [] ≡ xs = along_nil xs in
      let goal : op a b ∷ xs ≡ op x y ∷ along op xs [] = cc in
      goal
  along_suc (x ∷ xs) (y ∷ ys) (suc i) a b h k p q = ap (λ zs. op x y ∷ zs) (along_suc xs ys i a b (omega arith) (omega arith) p q)

  -- a loop's step: ds is what the list has become
  pub along_more : (xs ys ds : List X) (i : ℕ) (a b r : X) → ds ≡ along op xs (take i ys) → i < length xs → i < length ys → a ≡ get_or ds i a → b ≡ get_or ys i b → r ≡ op a b → set ds i r ≡ along op xs (take (i + 1) ys)
  along_more xs ys ds i a b r e h k p q s =
      let P : List X → Type 0 = λ zs. a ≡ get_or zs i a in
      let m : set (along op xs (take i ys)) i (op a b) ≡ along op xs (take (i + 1) ys) = rw add-one (along_suc xs ys i a b h k (subst P e p) q) in
      cc

  length_along : (xs ys : List X) → length (along op xs ys) ≡ length xs
  length_along [] ys = refl
  length_along (x ∷ xs) [] = refl
  length_along (x ∷ xs) (y ∷ ys) = ap suc (length_along xs ys)

  -- where the second list ends, d stands for its element, which op leaves out
  get_d_along : (xs ys : List X) (k : ℕ) (d : X) → k < length xs → op (get_or xs k d) d ≡ get_or xs k d → get_or (along op xs ys) k d ≡ op (get_or xs k d) (get_or ys k d)
  get_d_along [] ys k d h e = absurd (omega arith)
  get_d_along (x ∷ xs) [] zero d h e = sym e
  get_d_along (x ∷ xs) [] (suc k) d h e = sym e
  get_d_along (x ∷ xs) (y ∷ ys) zero d h e = refl
  get_d_along (x ∷ xs) (y ∷ ys) (suc k) d h e = get_d_along xs ys k d (omega arith) e

  -- the two runs that add ys, shifted by p: at each place the coefficient that p takes there
  two_runs : (xs ys : List X) (p s k : ℕ) (d : X) → length xs ≡ length ys + 1 → p < length ys → s ≡ min (length ys) (length xs - p) → k < length ys + 1 → op (get_or xs k d) d ≡ get_or xs k d → get_or (along op (take p xs) (drop s ys) ++ along op (drop p xs) (take s ys)) k d ≡ op (get_or xs k d) (get_or ys (back (length ys + 1) k p) d)
  two_runs xs ys p s k d long within split lt stays =
      let n = length ys in
      let P : X → Type 0 = λ x. op x d ≡ x in
      let first : length (along op (take p xs) (drop s ys)) ≡ p = length_along (take p xs) (drop s ys) ∙ length-take-le p xs (omega arith) in
      elim (cases_lt k p) [
        | inl less ↦
            let x-is : get_or (take p xs) k d ≡ get_or xs k d = get_or-take p xs k d less in
            let place : back (n + 1) k p ≡ s + k = mod-eq_of_lt (omega arith) ∙ omega arith in
            get_or_append_left (along op (take p xs) (drop s ys)) (along op (drop p xs) (take s ys)) d k (omega arith)
            ∙ get_d_along (take p xs) (drop s ys) k d (omega (arith, length-take-le p xs (omega arith))) (subst P (sym x-is) stays)
            ∙ ap (λ x. op x (get_or (drop s ys) k d)) x-is
            ∙ ap (op (get_or xs k d)) (get_or-drop s ys k d ∙ sym (ap (λ i. get_or ys i d) place))
        | inr more ↦
            let j : ℕ = k - p in
            let e : p + j ≡ k = omega arith in
            let x-is : get_or (drop p xs) j d ≡ get_or xs k d = get_or-drop p xs j d ∙ ap (λ i. get_or xs i d) e in
            let sum : k + (n + 1 - p) ≡ j + (n + 1) = omega arith in
            let place : back (n + 1) k p ≡ j = ap (λ i. i % (n + 1)) sum ∙ add-mod_right j (n + 1) ∙ mod-eq_of_lt (omega arith) in
            let y-is : get_or (take s ys) j d ≡ get_or ys j d = elim (cases_lt j s) [
              | inl under ↦ get_or-take s ys j d under
              | inr over ↦ get_or_past (take s ys) j d (omega (arith, length-take-le s ys (omega arith))) ∙ sym (get_or_past ys j d (omega arith))
            ] in
            get_or-append_right (along op (take p xs) (drop s ys)) (along op (drop p xs) (take s ys)) p k d first more
            ∙ get_d_along (drop p xs) (take s ys) j d (omega (arith, length-drop p xs)) (subst P (sym x-is) stays)
            ∙ ap (λ x. op x (get_or (take s ys) j d)) x-is
            ∙ ap (op (get_or xs k d)) (y-is ∙ sym (ap (λ i. get_or ys i d) place))
      ]

  -- what the slice holds after two runs: us over the part from p on, and vs over the part before it
  pub two_parts : {Y : Type 0} (f : Y → X) (xs us vs low high : List X) (poly first rest : List Y) (p s k : ℕ) (d : X) → length xs ≡ length poly + 1 → p < length poly → low ≡ take p xs → high ≡ drop p xs → s ≡ min (length poly) (length high) → first ≡ take s poly → rest ≡ drop s poly → us ≡ along op high (map f first) → vs ≡ along op low (map f rest) → k < length poly + 1 → op (get_or xs k d) d ≡ get_or xs k d → get_or (vs ++ us) k d ≡ op (get_or xs k d) (get_or (map f poly) (back (length poly + 1) k p) d)
  two_parts f xs us vs low high poly first rest p s k d long within l h split a b u v lt stays =
      let ys = map f poly in
      let same : length ys ≡ length poly = length-map poly f in
      let end : s ≡ min (length ys) (length xs - p) = omega (arith, length-drop p xs, ap length h) in
      let s₁ : map f (take s poly) ≡ take s ys = sym (take-map f s poly) in
      let s₂ : map f (drop s poly) ≡ drop s ys = sym (drop-map f s poly) in
      let joined : vs ++ us ≡ along op (take p xs) (drop s ys) ++ along op (drop p xs) (take s ys) = cc in
      ap (λ zs. get_or zs k d) joined
      ∙ two_runs xs ys p s k d (omega arith) (omega arith) end (omega arith) stays
      ∙ ap (λ m. op (get_or xs k d) (get_or ys (back (m + 1) k p) d)) same
