-- The laws of parcels as bytes.
use Rattle.std.proofs.Common.{◌≡◌, ℕ, ◌+◌, ◌-◌, ◌*◌, ◌<◌, eqb, List, [], ◌∷◌, ◌++◌, length, drop, Ok, sym, refl, ap, ◌∙◌, arith, eq-eqb, eqb-true}
use Rattle.std.proofs.lemmas.List.{length-append, length-drop, length-take-le, take_at, drop_at, take-append-drop}
use Rattle.std.proofs.ByRecursion.{All-take, All-drop}
use Rattle.params.specs.Sizes.{p, t, bytes_for, parcel_length}
use Rattle.params.specs.declared.set.Set.{Set}
use Rattle.pack.specs.Bits.{Below}
use Rattle.pack.specs.Packing.{packed, fields_at, fill_after}
use Rattle.pack.proofs.Laws.{length_packed, packed_first, packed_second, packed_fill, packed_again, fields_below}
use Rattle.wire.specs.declared.fault.WireFault.TheVariants.{Length, Kind, Fill}
use Rattle.wire.specs.Parcels.{parcel_bytes, parcel_u, parcel_v, parcel_tag, run_of, parcel_rest, parcel_content, parcel_form}
use Rattle.wire.specs.Trips.{ParcelTrips}
use Rattle.wire.proofs.Parts.{passes, passed}

-- how many bits the run of a parcel has
abbrev run_bits : Set → ℕ
run_bits s = s.n * s.moduli.pb + s.code.mu * s.moduli.tb

length_run : (s : Set) (u v : List ℕ) → length u ≡ s.n → length v ≡ s.code.mu → length (packed s.moduli.pb u s.moduli.tb v) ≡ bytes_for (run_bits s)
length_run s u v lu lv =
    length_packed s.moduli.pb s.moduli.tb u v
    ∙ ap (λ n. bytes_for (n * s.moduli.pb + length v * s.moduli.tb)) lu
    ∙ ap (λ m. bytes_for (s.n * s.moduli.pb + m * s.moduli.tb)) lv

pub length_parcel : (s : Set) (u v g : List ℕ) → length u ≡ s.n → length v ≡ s.code.mu → length g ≡ 32 → length (parcel_bytes s u v g) ≡ parcel_length s
unfolding parcel_bytes
length_parcel s u v g lu lv lg = let run : List ℕ = packed s.moduli.pb u s.moduli.tb v in omega (arith, length-append run g, length_run s u v lu lv)

-- a run before 32 bytes
run_before : (run g : List ℕ) → length g ≡ 32 → run_of (run ++ g) ≡ run
run_before run g l = take_at run g (length (run ++ g) - 32) (omega (arith, length-append run g))

-- a written parcel has its u
pub parcel_u_written : (s : Set) (u v g : List ℕ) → length u ≡ s.n → length g ≡ 32 → Below (p s.moduli) u → parcel_u s (parcel_bytes s u v g) ≡ u
unfolding parcel_bytes parcel_u
parcel_u_written s u v g lu lg h =
    let a : ℕ = s.moduli.pb in
    let run : List ℕ = packed a u s.moduli.tb v in
    ap (fields_at 0 s.n a) (run_before run g lg) ∙ ap (λ n. fields_at 0 n a run) (sym lu) ∙ packed_first a s.moduli.tb u v h

-- .. its v
pub parcel_v_written : (s : Set) (u v g : List ℕ) → length u ≡ s.n → length v ≡ s.code.mu → length g ≡ 32 → Below (t s.moduli) v → parcel_v s (parcel_bytes s u v g) ≡ v
unfolding parcel_bytes parcel_v
parcel_v_written s u v g lu lv lg h =
    let a : ℕ = s.moduli.pb in
    let w : ℕ = s.moduli.tb in
    let run : List ℕ = packed a u w v in
    ap (fields_at (s.n * a) s.code.mu w) (run_before run g lg)
    ∙ ap (λ n. fields_at (n * a) s.code.mu w run) (sym lu)
    ∙ ap (λ m. fields_at (length u * a) m w run) (sym lv)
    ∙ packed_second a w u v h

-- .. and its tag
pub parcel_tag_written : (s : Set) (u v g : List ℕ) → length g ≡ 32 → parcel_tag (parcel_bytes s u v g) ≡ g
unfolding parcel_bytes parcel_tag
parcel_tag_written s u v g lg =
    let run : List ℕ = packed s.moduli.pb u s.moduli.tb v in
    drop_at run g (length (run ++ g) - 32) (omega (arith, length-append run g))

-- a written parcel passes the checks
pub parcel_content_written : (s : Set) (u v g : List ℕ) → length u ≡ s.n → length v ≡ s.code.mu → length g ≡ 32 → parcel_content s (parcel_bytes s u v g) ≡ Ok tt
unfolding parcel_bytes parcel_content
parcel_content_written s u v g lu lv lg =
    let a : ℕ = s.moduli.pb in
    let w : ℕ = s.moduli.tb in
    let run : List ℕ = packed a u w v in
    let d : fill_after (run_bits s) (run_of (run ++ g)) ≡ 0 =
    ap (fill_after (run_bits s)) (run_before run g lg)
    ∙ ap (λ n. fill_after (n * a + s.code.mu * w) run) (sym lu)
    ∙ ap (λ m. fill_after (length u * a + m * w) run) (sym lv)
    ∙ packed_fill a w u v
    in
    passes (eqb (fill_after (run_bits s) (run_of (run ++ g))) 0) (Ok tt) Fill (eq-eqb _ 0 d) refl

pub parcel_form_written : (s : Set) (u v g : List ℕ) → length u ≡ s.n → length v ≡ s.code.mu → length g ≡ 32 → parcel_form s (parcel_bytes s u v g) ≡ Ok tt
parcel_form_written s u v g lu lv lg =
    passes (eqb (length (parcel_bytes s u v g)) (parcel_length s)) (parcel_content s (parcel_bytes s u v g)) (Length (length (parcel_bytes s u v g))) (eq-eqb _ _ (length_parcel s u v g lu lv lg)) (parcel_content_written s u v g lu lv lg)

-- what passes the checks has its length
parcel_form_parts : (s : Set) (parcel : List ℕ) → parcel_form s parcel ≡ Ok tt → (length parcel ≡ parcel_length s) × (parcel_content s parcel ≡ Ok tt)
parcel_form_parts s parcel h =
    let a = passed (eqb (length parcel) (parcel_length s)) (parcel_content s parcel) (Length (length parcel)) h in
    (eqb-true (length parcel) (parcel_length s) a.0, a.1)

-- .. its kind byte, and fill bits of zero
content_parts : (s : Set) (parcel : List ℕ) → parcel_content s parcel ≡ Ok tt → (parcel ≡ 80 ∷ drop 1 parcel) × (fill_after (run_bits s) (run_of (drop 1 parcel)) ≡ 0)
unfolding parcel_content
content_parts s [] h = let z : ◌≡◌ {A = ℕ} 0 1 = cc in absurd (omega arith)
content_parts s (kind ∷ rest) h =
    let a = passed (eqb kind 80) (parcel_rest s rest) (Kind kind) h in
    let b = passed (eqb (fill_after (run_bits s) (run_of rest)) 0) (Ok tt) Fill a.1 in
    (ap (λ (k : ℕ). k ∷ rest) (eqb-true kind 80 a.0), eqb-true _ 0 b.0)

pub parcel_content_kind : (s : Set) (parcel : List ℕ) → parcel_content s parcel ≡ Ok tt → parcel ≡ 80 ∷ drop 1 parcel
parcel_content_kind s parcel h = (content_parts s parcel h).0

-- what is read is below p, and below t
pub parcel_below : (s : Set) (parcel : List ℕ) → Below (p s.moduli) (parcel_u s parcel) × Below (t s.moduli) (parcel_v s parcel)
unfolding parcel_u parcel_v
parcel_below s parcel = let run : List ℕ = run_of (drop 1 parcel) in (fields_below 0 s.n s.moduli.pb run, fields_below (s.n * s.moduli.pb) s.code.mu s.moduli.tb run)

-- what is read writes back to the same bytes
parcel_again : (s : Set) (parcel : List ℕ) → Below 256 (drop 1 parcel) → length parcel ≡ parcel_length s → parcel_content s parcel ≡ Ok tt → parcel_bytes s (parcel_u s parcel) (parcel_v s parcel) (parcel_tag parcel) ≡ parcel
unfolding parcel_bytes parcel_u parcel_v parcel_tag
parcel_again s parcel hb l h =
    let a : ℕ = s.moduli.pb in
    let w : ℕ = s.moduli.tb in
    let rest : List ℕ = drop 1 parcel in
    let run : List ℕ = run_of rest in
    let g : List ℕ = drop (length rest - 32) rest in
    let parts = content_parts s parcel h in
    let lr : length rest ≡ length parcel - 1 = length-drop 1 parcel in
    let lb : length run ≡ length rest - 32 = length-take-le (length rest - 32) rest (omega arith) in
    let below : Below 256 run = All-take (λ x. x < 256) (length rest - 32) rest hb in
    let again : packed a (fields_at 0 s.n a run) w (fields_at (s.n * a) s.code.mu w run) ≡ run = packed_again s.n a s.code.mu w run below (omega arith) parts.1 in
    ap (λ r. 80 ∷ (r ++ g)) again ∙ ap (λ r. 80 ∷ r) (take-append-drop (length rest - 32) rest) ∙ sym parts.0

-- .. where its parts have been read
pub parcel_read : (s : Set) (parcel u v g : List ℕ) → Below 256 (drop 1 parcel) → length parcel ≡ parcel_length s → parcel_content s parcel ≡ Ok tt → u ≡ parcel_u s parcel → v ≡ parcel_v s parcel → g ≡ parcel_tag parcel → parcel_bytes s u v g ≡ parcel
parcel_read s parcel u v g hb l h eu ev eg =
    ap (λ x. parcel_bytes s x v g) eu
    ∙ ap (λ x. parcel_bytes s (parcel_u s parcel) x g) ev
    ∙ ap (parcel_bytes s (parcel_u s parcel) (parcel_v s parcel)) eg
    ∙ parcel_again s parcel hb l h

pub parcel_trips : (s : Set) → ParcelTrips s
parcel_trips s = record {
  passes = parcel_form_written s;
  first = parcel_u_written s;
  second = parcel_v_written s;
  tag = parcel_tag_written s;
  below = parcel_below s;
  again = λ parcel hb h. let a = parcel_form_parts s parcel h in parcel_again s parcel (All-drop (λ x. x < 256) 1 parcel hb) a.0 a.1;
}
