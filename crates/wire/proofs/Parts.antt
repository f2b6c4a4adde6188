-- Bytes that are written part by part, and checks that pass.
use Rattle.std.proofs.Common.{◌≡◌, ℕ, suc, ◌+◌, ◌-◌, Bool, true, false, cond, List, [], ◌∷◌, ◌++◌, map, length, take, drop, set, Ok, Err, Result, refl, ap, ◌∙◌, arith}
use borrow.Rule.Slice.PartMut.{put_mid}
use Rattle.std.proofs.lemmas.List.{append-nil, length-append, length-drop, take_at, drop_at, drop_all}
use Rattle.ring.proofs.Listing.{map_undone}
use Rattle.wire.specs.declared.fault.WireFault.{WireFault}

-- two parts, each written in its place, and the kind byte in front
pub put_parts : (kind : ℕ) (out xs ys : List ℕ) (i e : ℕ) → length out ≡ 1 + (length xs + length ys) → i ≡ length xs → e ≡ suc (length xs) → set (put_mid e (length (put_mid 1 i out xs) - e) (put_mid 1 i out xs) ys) 0 kind ≡ kind ∷ xs ++ ys
put_parts kind [] xs ys i e l ei ee = absurd (omega arith)
put_parts kind (o ∷ os) xs ys i e l ei ee =
    let zs : List ℕ = drop i os in
    let a : List ℕ = o ∷ xs ++ zs in
    let k : ℕ = length a - e in
    let la : length (xs ++ zs) ≡ length xs + length zs = length-append xs zs in
    let lz : length zs ≡ length os - i = length-drop i os in
    let t : take (length xs) (xs ++ zs) ≡ xs = take_at xs zs (length xs) refl in
    let d : drop (length xs) (xs ++ zs) ≡ zs = drop_at xs zs (length xs) refl in
    let te : take e a ≡ o ∷ xs = ap (λ n. take n a) ee ∙ ap (λ l. o ∷ l) t in
    let de : drop e a ≡ zs = ap (λ n. drop n a) ee ∙ d in
    let none : drop k zs ≡ [] = drop_all k zs (omega arith) in
    let n : ys ++ [] ≡ ys = append-nil ys in
    let all : put_mid e k a ys ≡ o ∷ xs ++ ys = cc in
    ap (λ l. set l 0 kind) all

-- a check passes where its test and the check after it do
pub passes : (a : Bool) (x : Result (Unit {0}) WireFault) (e : WireFault) → a ≡ true → x ≡ Ok tt → cond a x (Err e) ≡ Ok tt
passes a x e h f = ap (λ b. cond b x (Err e)) h ∙ f

pub passed : (a : Bool) (x : Result (Unit {0}) WireFault) (e : WireFault) → cond a x (Err e) ≡ Ok tt → (a ≡ true) × (x ≡ Ok tt)
passed true x e h = (refl, h)
passed false x e h = let z : ◌≡◌ {A = ℕ} 0 1 = cc in absurd (omega arith)

-- the words of fields that were read
pub words_of : {X : Type 0} (bare : X → ℕ) (made : ℕ → X) → ((x : ℕ) → bare (made x) ≡ x) → (n m : ℕ) (xs : List X) (f : ℕ → List ℕ) → n ≡ m → xs ≡ map made (f n) → map bare xs ≡ f m
words_of bare made h n m xs f e g = ap (map bare) g ∙ map_undone bare made h (f n) ∙ ap f e
