-- The laws of packing: what stands in packed bytes, and the two round trips.
use Rattle.std.proofs.Common.{◌≡◌, ℕ, zero, suc, ◌+◌, ◌-◌, ◌*◌, ◌%◌, ◌^◌, ◌<◌, Bool, true, false, cond, eqb, List, [], ◌++◌, map, length, drop, replicate, Ok, Err, Result, sym, refl, ap, ◌∙◌, zero-mul, arith, eqb-true, MatchResult}
use native.Mathlib.Nat.{zero-mod}
use Rattle.std.proofs.lemmas.List.{append-nil, append_assoc, length-append, length-replicate, length-drop, drop_at, drop-drop, drop_all}
use Rattle.std.proofs.ByRecursion.{All-append, All-drop}
use Rattle.params.specs.Sizes.{bytes_for}
use Rattle.pack.specs.declared.reader.PackFault.{PackFault}
use Rattle.pack.specs.declared.reader.PackFault.TheVariants.{Fill}
use Rattle.pack.specs.Bits.{bits, value, run, cut, filled, bytes, Below}
use Rattle.pack.specs.Packing.{packed, fields_at, fill_after, unpacked}
use Rattle.pack.specs.Trips.{UnpacksPacked, PacksUnpacked, Worked}
use Rattle.pack.proofs.Runs.{bits_none, bits_value, value_bits, length_run, run_below, cut_run, run_cut, bytes_are, length_cut, cut_none, cut_below}
use Rattle.ring.proofs.Listing.{map_undone}
use Rattle.pack.proofs.Fills.{unpacked_ok}

zeros_below : (k : ℕ) → Below 2 (replicate k 0)
zeros_below zero = tt
zeros_below (suc k) = (omega arith, zeros_below k)

value_zeros : (k : ℕ) → value (replicate k 0) ≡ 0
value_zeros k =
    let a : value (bits k 0) ≡ 0 % 2 ^ k = value_bits k 0 in
    let b : bits k 0 ≡ replicate k 0 = bits_none k in
    let z : 0 % 2 ^ k ≡ 0 = zero-mod (2 ^ k) in
    cc

zeros_are : (bs : List ℕ) → Below 2 bs → value bs ≡ 0 → bs ≡ replicate (length bs) 0
zeros_are bs h e = sym (bits_value bs h) ∙ ap (bits (length bs)) e ∙ bits_none (length bs)

-- the bits of the bytes of a run
run_bytes : (bs : List ℕ) → Below 2 bs → run 8 (bytes bs) ≡ filled bs
run_bytes bs h =
    let n : ℕ = bytes_for (length bs) in
    let k : ℕ = 8 * n - length bs in
    let zs : List ℕ = replicate k 0 in
    let l : length (bs ++ zs) ≡ length bs + length zs = length-append bs zs in
    let z : length zs ≡ k = length-replicate k 0 in
    let r : run 8 (cut n 8 (filled bs)) ++ drop (n * 8) (filled bs) ≡ filled bs = run_cut n 8 (filled bs) (All-append (λ b. b < 2) bs (replicate k 0) h (zeros_below k)) (omega arith) in
    let d : drop (n * 8) (filled bs) ≡ [] = drop_all (n * 8) (filled bs) (omega arith) in
    let a : run 8 (cut n 8 (filled bs)) ++ [] ≡ run 8 (cut n 8 (filled bs)) = append-nil (run 8 (cut n 8 (filled bs))) in
    cc

-- the fill bits of packed bytes
fill_bits : ℕ → List ℕ → ℕ → List ℕ → List ℕ
fill_bits v xs w ys = replicate (8 * bytes_for (length (run v xs ++ run w ys)) - length (run v xs ++ run w ys)) 0

-- the bits of packed bytes: the fields, and the fill bits
run_packed : (v w : ℕ) (xs ys : List ℕ) → run 8 (packed v xs w ys) ≡ run v xs ++ (run w ys ++ fill_bits v xs w ys)
unfolding packed fill_bits
run_packed v w xs ys =
    run_bytes (run v xs ++ run w ys) (All-append (λ x. x < 2) (run v xs) (run w ys) (run_below v xs) (run_below w ys))
    ∙ append_assoc (run v xs) (run w ys) (fill_bits v xs w ys)

length_runs : (v w : ℕ) (xs ys : List ℕ) → length (run v xs ++ run w ys) ≡ length xs * v + length ys * w
length_runs v w xs ys = omega (arith, length-append (run v xs) (run w ys), length_run v xs, length_run w ys)

pub length_packed : (v w : ℕ) (xs ys : List ℕ) → length (packed v xs w ys) ≡ bytes_for (length xs * v + length ys * w)
unfolding packed
length_packed v w xs ys =
    length_cut (bytes_for (length (run v xs ++ run w ys))) 8 (filled (run v xs ++ run w ys)) ∙ ap bytes_for (length_runs v w xs ys)

-- the first fields again
pub packed_first : (v w : ℕ) (xs ys : List ℕ) → Below (2 ^ v) xs → fields_at 0 (length xs) v (packed v xs w ys) ≡ xs
unfolding fields_at
packed_first v w xs ys h = ap (cut (length xs) v) (run_packed v w xs ys) ∙ cut_run v xs (run w ys ++ fill_bits v xs w ys) h

-- the second fields again
pub packed_second : (v w : ℕ) (xs ys : List ℕ) → Below (2 ^ w) ys → fields_at (length xs * v) (length ys) w (packed v xs w ys) ≡ ys
unfolding fields_at
packed_second v w xs ys h =
    ap (λ l. cut (length ys) w (drop (length xs * v) l)) (run_packed v w xs ys)
    ∙ ap (cut (length ys) w) (drop_at (run v xs) (run w ys ++ fill_bits v xs w ys) (length xs * v) (length_run v xs))
    ∙ cut_run w ys (fill_bits v xs w ys) h

-- packed bytes pass the test of their fill bits
pub packed_fill : (v w : ℕ) (xs ys : List ℕ) → fill_after (length xs * v + length ys * w) (packed v xs w ys) ≡ 0
unfolding fill_after fill_bits
packed_fill v w xs ys =
    let both : List ℕ = run v xs ++ run w ys in
    let zs : List ℕ = fill_bits v xs w ys in
    ap (λ l. value (drop (length xs * v + length ys * w) l)) (run_packed v w xs ys ∙ sym (append_assoc (run v xs) (run w ys) zs))
    ∙ ap value (drop_at both zs (length xs * v + length ys * w) (length_runs v w xs ys))
    ∙ value_zeros (8 * bytes_for (length both) - length both)

-- fields that stand in bytes are below 2 to their width
pub fields_below : (k n w : ℕ) (bs : List ℕ) → Below (2 ^ w) (fields_at k n w bs)
unfolding fields_at
fields_below k n w bs = cut_below n w (drop k (run 8 bs)) (All-drop (λ b. b < 2) k (run 8 bs) (run_below 8 bs))

fields_none : (k w : ℕ) (bs : List ℕ) → fields_at k 0 w bs ≡ []
unfolding fields_at
fields_none k w bs = cut_none w (drop k (run 8 bs))

-- the fields that stand in bytes, packed again
pub packed_again : (n v m w : ℕ) (bs : List ℕ) → Below 256 bs → length bs ≡ bytes_for (n * v + m * w) → fill_after (n * v + m * w) bs ≡ 0 → packed v (fields_at 0 n v bs) w (fields_at (n * v) m w bs) ≡ bs
unfolding packed fields_at fill_after
packed_again n v m w bs hb l t =
    let rs : List ℕ = run 8 bs in
    let D : List ℕ = drop (n * v) rs in
    let xs : List ℕ = cut n v rs in
    let ys : List ℕ = cut m w D in
    let h : Below 2 rs = run_below 8 bs in
    let lr : length rs ≡ length bs * 8 = length_run 8 bs in
    let ld : length D ≡ length rs - n * v = length-drop (n * v) rs in
    let r1 : run v xs ++ D ≡ rs = run_cut n v rs h (omega arith) in
    let r2 : run w ys ++ drop (m * w) D ≡ D = run_cut m w D (All-drop (λ b. b < 2) (n * v) rs h) (omega arith) in
    let dd : drop (m * w) D ≡ drop (n * v + m * w) rs = drop-drop (m * w) (n * v) rs in
    let k : ℕ = length (drop (n * v + m * w) rs) in
    let lk : k ≡ length rs - (n * v + m * w) = length-drop (n * v + m * w) rs in
    let z : drop (n * v + m * w) rs ≡ replicate k 0 = zeros_are (drop (n * v + m * w) rs) (All-drop (λ b. b < 2) (n * v + m * w) rs h) t in
    let s : (run v xs ++ run w ys) ++ replicate k 0 ≡ run v xs ++ (run w ys ++ replicate k 0) = append_assoc (run v xs) (run w ys) (replicate k 0) in
    let f : rs ≡ (run v xs ++ run w ys) ++ replicate k 0 = cc in
    let lx : length xs * v ≡ n * v = ap (λ i. i * v) (length_cut n v rs) in
    let ly : length ys * w ≡ m * w = ap (λ i. i * w) (length_cut m w D) in
    let lw : length (run v xs ++ run w ys) ≡ n * v + m * w = omega (arith, length_runs v w xs ys) in
    let q : length bs ≡ bytes_for (length (run v xs ++ run w ys)) = l ∙ ap bytes_for (sym lw) in
    sym (bytes_are bs (run v xs ++ run w ys) k hb q (omega arith) f)

-- the same laws of one list alone, beside an empty one
alone : (n v w : ℕ) → n * v + 0 * w ≡ n * v
alone n v w = omega (arith, zero-mul w)

pub length_alone : (v w : ℕ) (xs : List ℕ) → length (packed v xs w []) ≡ bytes_for (length xs * v)
length_alone v w xs = length_packed v w xs [] ∙ ap bytes_for (alone (length xs) v w)

pub alone_fill : (v w : ℕ) (xs : List ℕ) → fill_after (length xs * v) (packed v xs w []) ≡ 0
alone_fill v w xs = ap (λ k. fill_after k (packed v xs w [])) (sym (alone (length xs) v w)) ∙ packed_fill v w xs []

pub alone_again : (n v w : ℕ) (bs : List ℕ) → Below 256 bs → length bs ≡ bytes_for (n * v) → fill_after (n * v) bs ≡ 0 → packed v (fields_at 0 n v bs) w [] ≡ bs
alone_again n v w bs hb l t =
    ap (λ l. packed v (fields_at 0 n v bs) w l) (sym (fields_none (n * v) w bs))
    ∙ packed_again n v 0 w bs hb (l ∙ ap bytes_for (sym (alone n v w))) (ap (λ k. fill_after k bs) (alone n v w) ∙ t)

pub unpacks_packed : UnpacksPacked
unpacks_packed v w xs ys hx hy =
    unpacked_ok (length xs) v (length ys) w (packed v xs w ys) xs ys (packed_fill v w xs ys) (packed_first v w xs ys hx) (packed_second v w xs ys hy)

-- what an Ok says
opened : (t : Bool) (a b xs ys : List ℕ) (r : Result (List ℕ × List ℕ) PackFault) → cond t (Ok (a, b)) (Err Fill) ≡ r → r ≡ Ok (xs, ys) → (t ≡ true) × (a ≡ xs) × (b ≡ ys)
opened true a b xs ys r d e =
    let f : (a, b) ≡ (xs, ys) = cc in
    (refl, ap (λ (q : List ℕ × List ℕ). q.0) f, ap (λ (q : List ℕ × List ℕ). q.1) f)
opened false a b xs ys r d e = let z : ◌≡◌ {A = ℕ} 0 1 = cc in absurd (omega arith)

pub packs_unpacked : PacksUnpacked
packs_unpacked n v m w bs xs ys hb l e =
    let o = opened (eqb (fill_after (n * v + m * w) bs) 0) (fields_at 0 n v bs) (fields_at (n * v) m w bs) xs ys (unpacked n v m w bs) refl e in
    let z : fill_after (n * v + m * w) bs ≡ 0 = eqb-true _ 0 o.0 in
    ap (λ l. packed v l w ys) (sym o.1) ∙ ap (λ l. packed v (fields_at 0 n v bs) w l) (sym o.2) ∙ packed_again n v m w bs hb l z

-- what a reader answers where its definition is an Ok
pub reads : (r : Result (Unit {0}) PackFault) (q : Result (List ℕ × List ℕ) PackFault) (a b xs ys : List ℕ) (P Q : Type 0) → MatchResult r (λ _. q ≡ Ok (a, b)) (λ e. (q ≡ Err e) × P × Q) → q ≡ Ok (xs, ys) → (r ≡ Ok tt) × (a ≡ xs) × (b ≡ ys)
reads (Ok u) q a b xs ys P Q h e =
    let f : (a, b) ≡ (xs, ys) = cc in
    (refl, ap (λ (z : List ℕ × List ℕ). z.0) f, ap (λ (z : List ℕ × List ℕ). z.1) f)
reads (Err x) q a b xs ys P Q h e = let g = h.0 in let z : ◌≡◌ {A = ℕ} 0 1 = cc in absurd (omega arith)

-- values with the same numbers are the same
pub same_bare : {X : Type 0} (bare : X → ℕ) (made : ℕ → X) → ((x : X) → made (bare x) ≡ x) → (xs ys : List X) → map bare xs ≡ map bare ys → xs ≡ ys
same_bare bare made h xs ys e = sym (map_undone made bare h xs) ∙ ap (map made) e ∙ map_undone made bare h ys

pub worked : Worked
unfolding packed fields_at fill_after bits value run cut
worked = record { packs = refl; unpacks = refl }
