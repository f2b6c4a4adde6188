-- The laws of keys as bytes.
use Rattle.std.proofs.Common.{◌≡◌, ℕ, ◌-◌, ◌*◌, ◌<◌, eqb, List, [], ◌∷◌, ◌++◌, length, take, drop, Ok, sym, refl, ap, ◌∙◌, arith, eq-eqb, eqb-true}
use Rattle.std.proofs.lemmas.List.{length-append, length-drop, take_at, drop_at, take-append-drop}
use Rattle.std.proofs.ByRecursion.{All-drop}
use Rattle.params.specs.Sizes.{p, bytes_for, key_length}
use Rattle.params.specs.declared.set.Set.{Set}
use Rattle.pack.specs.Bits.{Below}
use Rattle.pack.specs.Packing.{packed, fields_at, fill_after}
use Rattle.pack.proofs.Laws.{packed_first, length_alone, alone_fill, alone_again, fields_below}
use Rattle.wire.specs.declared.fault.WireFault.TheVariants.{Length, Kind, Fill}
use Rattle.wire.specs.Keys.{key_bytes, key_seed, key_b, key_content, key_form, key_rest}
use Rattle.wire.specs.Trips.{KeyTrips}
use Rattle.wire.proofs.Parts.{passes, passed}

-- the bytes after the seed
key_run : Set → List ℕ → List ℕ
key_run s b = packed s.moduli.pb b s.moduli.tb []

length_run : (s : Set) (b : List ℕ) → length b ≡ s.n → length (key_run s b) ≡ bytes_for (s.n * s.moduli.pb)
unfolding key_run
length_run s b l = length_alone s.moduli.pb s.moduli.tb b ∙ ap (λ n. bytes_for (n * s.moduli.pb)) l

pub length_key : (s : Set) (σ b : List ℕ) → length σ ≡ 32 → length b ≡ s.n → length (key_bytes s σ b) ≡ key_length s
unfolding key_bytes key_run
length_key s σ b lσ lb = omega (arith, length-append σ (key_run s b), length_run s b lb)

-- a written key has its seed
pub key_seed_written : (s : Set) (σ b : List ℕ) → length σ ≡ 32 → key_seed (key_bytes s σ b) ≡ σ
unfolding key_bytes key_seed
key_seed_written s σ b l = take_at σ (packed s.moduli.pb b s.moduli.tb []) 32 l

-- a written key has its b
pub key_b_written : (s : Set) (σ b : List ℕ) → length σ ≡ 32 → length b ≡ s.n → Below (p s.moduli) b → key_b s (key_bytes s σ b) ≡ b
unfolding key_bytes key_b
key_b_written s σ b lσ lb h =
    let v : ℕ = s.moduli.pb in
    let run : List ℕ = packed v b s.moduli.tb [] in
    ap (fields_at 0 s.n v) (drop_at σ run 32 lσ) ∙ ap (λ n. fields_at 0 n v run) (sym lb) ∙ packed_first v s.moduli.tb b [] h

-- a written key passes the checks
pub key_content_written : (s : Set) (σ b : List ℕ) → length σ ≡ 32 → length b ≡ s.n → key_content s (key_bytes s σ b) ≡ Ok tt
unfolding key_bytes key_content
key_content_written s σ b lσ lb =
    let v : ℕ = s.moduli.pb in
    let run : List ℕ = packed v b s.moduli.tb [] in
    let d : fill_after (s.n * v) (drop 32 (σ ++ run)) ≡ 0 = ap (fill_after (s.n * v)) (drop_at σ run 32 lσ) ∙ ap (λ n. fill_after (n * v) run) (sym lb) ∙ alone_fill v s.moduli.tb b in
    passes (eqb (fill_after (s.n * v) (drop 32 (σ ++ run))) 0) (Ok tt) Fill (eq-eqb _ 0 d) refl

pub key_form_written : (s : Set) (σ b : List ℕ) → length σ ≡ 32 → length b ≡ s.n → key_form s (key_bytes s σ b) ≡ Ok tt
key_form_written s σ b lσ lb =
    passes (eqb (length (key_bytes s σ b)) (key_length s)) (key_content s (key_bytes s σ b)) (Length (length (key_bytes s σ b))) (eq-eqb _ _ (length_key s σ b lσ lb)) (key_content_written s σ b lσ lb)

-- what passes the checks has its length
key_form_parts : (s : Set) (key : List ℕ) → key_form s key ≡ Ok tt → (length key ≡ key_length s) × (key_content s key ≡ Ok tt)
key_form_parts s key h =
    let a = passed (eqb (length key) (key_length s)) (key_content s key) (Length (length key)) h in
    (eqb-true (length key) (key_length s) a.0, a.1)

-- .. its kind byte, and fill bits of zero
content_parts : (s : Set) (key : List ℕ) → key_content s key ≡ Ok tt → (key ≡ 75 ∷ drop 1 key) × (fill_after (s.n * s.moduli.pb) (drop 32 (drop 1 key)) ≡ 0)
unfolding key_content
content_parts s [] h = let z : ◌≡◌ {A = ℕ} 0 1 = cc in absurd (omega arith)
content_parts s (kind ∷ rest) h =
    let a = passed (eqb kind 75) (key_rest s rest) (Kind kind) h in
    let b = passed (eqb (fill_after (s.n * s.moduli.pb) (drop 32 rest)) 0) (Ok tt) Fill a.1 in
    (ap (λ (k : ℕ). k ∷ rest) (eqb-true kind 75 a.0), eqb-true _ 0 b.0)

pub key_content_kind : (s : Set) (key : List ℕ) → key_content s key ≡ Ok tt → key ≡ 75 ∷ drop 1 key
key_content_kind s key h = (content_parts s key h).0

-- what is read is below p
pub key_b_below : (s : Set) (key : List ℕ) → Below (p s.moduli) (key_b s key)
unfolding key_b
key_b_below s key = fields_below 0 s.n s.moduli.pb (drop 32 (drop 1 key))

-- what is read writes back to the same bytes
key_again : (s : Set) (key : List ℕ) → Below 256 (drop 1 key) → length key ≡ key_length s → key_content s key ≡ Ok tt → key_bytes s (key_seed key) (key_b s key) ≡ key
unfolding key_bytes key_seed key_b
key_again s key hb l h =
    let v : ℕ = s.moduli.pb in
    let w : ℕ = s.moduli.tb in
    let rest : List ℕ = drop 1 key in
    let run : List ℕ = drop 32 rest in
    let parts = content_parts s key h in
    let lr : length rest ≡ length key - 1 = length-drop 1 key in
    let lb : length run ≡ length rest - 32 = length-drop 32 rest in
    let below : Below 256 run = All-drop (λ x. x < 256) 32 rest hb in
    let again : packed v (fields_at 0 s.n v run) w [] ≡ run = alone_again s.n v w run below (omega arith) parts.1 in
    ap (λ r. 75 ∷ (take 32 rest ++ r)) again ∙ ap (λ r. 75 ∷ r) (take-append-drop 32 rest) ∙ sym parts.0

-- .. where its parts have been read
pub key_read : (s : Set) (key σ b : List ℕ) → Below 256 (drop 1 key) → length key ≡ key_length s → key_content s key ≡ Ok tt → σ ≡ key_seed key → b ≡ key_b s key → key_bytes s σ b ≡ key
key_read s key σ b hb l h eσ eb = ap (λ x. key_bytes s x b) eσ ∙ ap (key_bytes s (key_seed key)) eb ∙ key_again s key hb l h

pub key_trips : (s : Set) → KeyTrips s
key_trips s = record {
  passes = key_form_written s;
  seed = key_seed_written s;
  fields = key_b_written s;
  below = key_b_below s;
  again = λ key hb h. let a = key_form_parts s key h in key_again s key (All-drop (λ x. x < 256) 1 key hb) a.0 a.1;
}
