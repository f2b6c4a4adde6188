use Rattle.std.proofs.Common.{◌≡◌, ℕ, List, [], ◌∷◌, map, length, get_or, refl, ap, ◌∙◌, ap₂, rules, arith}
use native.Mathlib.Nat.{div-one}
use Rattle.std.specs.Simd.{first_chunks}
use Rattle.ring.specs.Cyclic.{cyclic_words}
use Rattle.ring.proofs.Bridge.{words_product}
use Rattle.ring.proofs.Rows.{map_rows}
use Rattle.ring.proofs.whole.multiply_residues.Goals as goal

-- the product of no residues
none_left : {X : Type 0} (bare : X → ℕ) (xs : List X) (ps : List ℕ) → length xs ≡ 0 → cyclic_words 0 [] ps ≡ cyclic_words (length xs) (map bare xs) ps
none_left bare [] ps e = refl
none_left bare (x ∷ xs) ps e = absurd (omega arith)

pub returns-then-is_empty : goal.returns-then-is_empty
returns-then-is_empty g c = c.multiply_operands.ensures ∙ none_left g.R.Residue.bare c.args.poly.now c.args.secret.now (search rules)

pub returns-else-is_empty : goal.returns-else-is_empty
returns-else-is_empty g c =
    let r = g.R.Residue in
    let xs = c.args.poly.now in
    let word : List g.row.R.Denot → ℕ = λ row. r.bare (get_or row 0 (r.made 0)) in
    let rows = c.as_chunks.result.0.now in
    let long : length rows ≡ length xs = c.as_chunks.ensures.front_len ∙ div-one (length xs) in
    let same : map word rows ≡ map r.bare xs =
    ap (map word) (c.as_chunks.ensures.front ∙ ap (λ n. first_chunks 1 n xs) (div-one (length xs))) ∙ map_rows r.bare (r.made 0) xs in
    c.multiply_terms.ensures
    ∙ words_product word [] (g.met.R.Residue.back 0) rows c.args.secret.now
    ∙ ap₂ (λ n ws. cyclic_words n ws c.args.secret.now) long same
