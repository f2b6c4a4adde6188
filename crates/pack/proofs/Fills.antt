-- The fill bits of bytes.
use Rattle.std.proofs.Common.{◌≡◌, ℕ, ◌+◌, ◌-◌, ◌*◌, ◌/◌, ◌%◌, ◌^◌, ◌≤◌, Bool, true, false, cond, eqb, List, [], ◌∷◌, ◌++◌, length, get_or, take, drop, Ok, Err, Result, sym, refl, ap, ◌∙◌, add-mul, mul_right_comm, arith, eq-eqb, eqb-true}
use Rattle.std.proofs.lemmas.List.{append_assoc, length-append, take-append-drop, length-take-le, drop_more, drop_all, drop_at}
use Rattle.std.proofs.lemmas.Nat.{div-add-mod'}
use Rattle.params.specs.Sizes.{bytes_for}
use Rattle.pack.specs.Bits.{bits, value, run}
use Rattle.pack.specs.declared.reader.PackFault.{PackFault}
use Rattle.pack.specs.declared.reader.PackFault.TheVariants.{Fill}
use Rattle.pack.specs.Packing.{fields_at, fill_after, fill_form, unpacked}
use Rattle.pack.proofs.Runs.{bits_split, length_bits, value_bits, length_run, run_push}

-- where the bits end with a byte, none is left
pub fill_none : (k : ℕ) (bs : List ℕ) → length bs * 8 ≤ k → fill_after k bs ≡ 0
unfolding fill_after value
fill_none k bs le = ap value (drop_all k (run 8 bs) (omega (arith, length_run 8 bs)))

-- the s fill bits are the low bits of the last byte
pub fill_last : (k s : ℕ) (bs : List ℕ) → k + s ≡ length bs * 8 → 1 ≤ length bs → s ≤ 8 → fill_after k bs ≡ get_or bs (length bs - 1) 0 % 2 ^ s
unfolding fill_after
fill_last k s bs e some most =
    let i : ℕ = length bs - 1 in
    let last : ℕ = get_or bs i 0 in
    let front : List ℕ = run 8 (take i bs) in
    let high : List ℕ = bits (8 - s) (last / 2 ^ s) in
    let one : drop i bs ≡ last ∷ drop (i + 1) bs = drop_more bs i 0 (omega arith) in
    let none : drop (i + 1) bs ≡ [] = drop_all (i + 1) bs (omega arith) in
    let join : take i bs ++ drop i bs ≡ bs = take-append-drop i bs in
    let all : take i bs ++ (last ∷ []) ≡ bs = cc in
    let push : run 8 (take i bs ++ (last ∷ [])) ≡ front ++ bits 8 last = run_push 8 (take i bs) last in
    let split : bits (8 - s + s) last ≡ high ++ bits s last = bits_split (8 - s) s last in
    let eight : 8 - s + s ≡ 8 = omega arith in
    let assoc : (front ++ high) ++ bits s last ≡ front ++ (high ++ bits s last) = append_assoc front high (bits s last) in
    let r : run 8 bs ≡ (front ++ high) ++ bits s last = cc in
    let lf : length front ≡ length (take i bs) * 8 = length_run 8 (take i bs) in
    let lt : length (take i bs) ≡ i = length-take-le i bs (omega arith) in
    let lh : length high ≡ 8 - s = length_bits (8 - s) (last / 2 ^ s) in
    let la : length (front ++ high) ≡ length front + length high = length-append front high in
    let d : drop k ((front ++ high) ++ bits s last) ≡ bits s last = drop_at (front ++ high) (bits s last) k (omega arith) in
    let v : value (bits s last) ≡ last % 2 ^ s = value_bits s last in
    cc

-- a product by its remainder modulo 8
eighths : (n v : ℕ) → n * v ≡ n / 8 * v * 8 + n % 8 * v
eighths n v = ap (λ k. k * v) (sym (div-add-mod' n 8)) ∙ add-mul (n / 8 * 8) (n % 8) v ∙ ap (λ k. k + n % 8 * v) (mul_right_comm (n / 8) 8 v)

-- how many fill bits there are, for n fields of v bits and m of w bits
pub fill_count : (n v m w x y : ℕ) → x ≡ v → y ≡ w → n * v + m * w + (8 - (n % 8 * x + m % 8 * y) % 8) % 8 ≡ bytes_for (n * v + m * w) * 8
fill_count n v m w x y ex ey = omega (arith, eighths n v, eighths m w, ap (λ k. n % 8 * k) ex, ap (λ k. m % 8 * k) ey)

passed : (t : Bool) (u : Unit {0}) (r : Result (Unit {0}) PackFault) → r ≡ cond t (Ok tt) (Err Fill) → r ≡ Ok u → t ≡ true
passed true u r e f = refl
passed false u r e f = let z : ◌≡◌ {A = ℕ} 0 1 = cc in absurd (omega arith)

-- bytes that pass have fill bits of zero
pub passed_fill : (k : ℕ) (bs : List ℕ) (u : Unit {0}) (r : Result (Unit {0}) PackFault) → r ≡ fill_form k bs → r ≡ Ok u → fill_after k bs ≡ 0
passed_fill k bs u r e f = eqb-true (fill_after k bs) 0 (passed (eqb (fill_after k bs) 0) u r e f)

-- bytes with fill bits of zero are unpacked
pub unpacked_ok : (n v m w : ℕ) (bs xs ys : List ℕ) → fill_after (n * v + m * w) bs ≡ 0 → fields_at 0 n v bs ≡ xs → fields_at (n * v) m w bs ≡ ys → unpacked n v m w bs ≡ Ok (xs, ys)
unpacked_ok n v m w bs xs ys z ex ey =
    let both : List ℕ → List ℕ → Result (List ℕ × List ℕ) PackFault = λ p q. Ok (p, q) in
    let x : List ℕ = fields_at 0 n v bs in
    let y : List ℕ = fields_at (n * v) m w bs in
    ap (λ (t : Bool). cond t (both x y) (Err Fill)) (eq-eqb _ 0 z) ∙ ap (λ l. both l y) ex ∙ ap (both xs) ey
