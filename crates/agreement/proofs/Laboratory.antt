-- The laboratory's calls: what a gauge was made of, and that neither call is refused of a parcel that was sealed to the key of coins.
use Rattle.std.proofs.Common.{◌≡◌, ℕ, ◌≤◌, List, ◌++◌, length, take, drop, ℤ, nat_abs, Ok, sym, refl, ap, ◌∙◌, subst, arith, take_all, drop-drop}
use Rattle.std.proofs.lemmas.List.{length-append, length-take-le, take_at, drop_at}
use Rattle.params.specs.Sizes.{bound, parcel_length}
use Rattle.params.specs.declared.set.Set.{Set}
use Rattle.ring.specs.Lists.{signed}
use Rattle.rounding.specs.Symbols.{out_of_band}
use Rattle.rounding.proofs.Listed.{length_noises}
use Rattle.wire.specs.Parcels.{parcel_content}
use Rattle.calls.specs.Areas.{area_words}
use Rattle.calls.specs.Chains.{Book, lift, lift_form, sized}
use Rattle.calls.specs.declared.refusal.Buffer.TheVariants.{Output}
use Rattle.calls.specs.declared.refusal.Input.TheVariants.{First, Second}
use Rattle.calls.specs.declared.refusal.Refusal.TheVariants.{WrongBuffer, WrongInput}
use Rattle.scheme.specs.Scheme.{public_polynomial, secret_positions, station_seed, bits_in}
use Rattle.seal.specs.Seal.{Sealed}
use Rattle.lab.specs.Lab.{read_checks, raw_read, noise_between, gauge_checks, gauging, gauged}
use Rattle.agreement.specs.Agreement.{NoiseTells, NoiseBounded, NeverOut}
use Rattle.agreement.proofs.Binds.{bind_ok, bind_is, then_is, ok_same, lift_ok, sized_is}
use Rattle.agreement.proofs.Parts.{length_part, length_station_seed}
use Rattle.agreement.proofs.Exchanged.{Exchanged, exchanged, parcel_long, parcel_passes, parcel_bits}
use Rattle.agreement.proofs.Noise.{positions_count, tells_between, bounded_between, none_between}

-- what a gauge that is not refused was made of
record GaugeParts (B : Book) (s : Set) (seeds : List ℕ) (noise : List ℤ) : Type 0 where
  a : List ℕ
  x : List ℕ
  r : List ℕ
  till : length x ≡ s.h
  station : length r ≡ s.h
  is : noise_between s a x r ≡ noise

gauge_parts : (B : Book) (s : Set) (noise_buffer secret_words product_words : ℕ) (seeds : List ℕ) (noise : List ℤ)
    → gauged B s noise_buffer secret_words product_words seeds ≡ Ok noise → GaugeParts B s seeds noise
gauge_parts B s noise_buffer secret_words product_words seeds noise e =
    let (_, _, e1) = bind_ok (gauge_checks s noise_buffer secret_words product_words seeds) _ _ e in
    let (a, _, e2) = bind_ok (public_polynomial B s (take 32 seeds)) _ _ (lift_ok (gauging B s seeds) noise e1) in
    let (x, ex, e3) = bind_ok (secret_positions B s (take 32 (drop 32 seeds))) _ _ e2 in
    let (r, er, e4) = bind_ok (secret_positions B s (take 32 (drop 64 seeds))) _ _ e3 in
    record {
      a = a;
      x = x;
      r = r;
      till = positions_count B s (take 32 (drop 32 seeds)) x ex;
      station = positions_count B s (take 32 (drop 64 seeds)) r er;
      is = ok_same e4;
    }

-- (b) no noise is beyond the bound
pub noise_bounded : (B : Book) (s : Set) → NoiseBounded B s
noise_bounded B s noise_buffer secret_words product_words seeds noise e i lt =
    let g = gauge_parts B s noise_buffer secret_words product_words seeds noise e in
    let long : length noise ≡ s.code.mu = ap length (sym g.is) ∙ length_noises s.moduli s.code.mu _ _ _ in
    subst (λ (w : List ℤ). nat_abs (signed w i) ≤ bound s) g.is (bounded_between s g.a g.x g.r g.till g.station i (omega arith))

-- below the line no symbol gauges out of band
pub never_out : (B : Book) (s : Set) → NeverOut B s
never_out B s line noise_buffer secret_words product_words seeds noise e =
    let g = gauge_parts B s noise_buffer secret_words product_words seeds noise e in
    ap (out_of_band s.moduli) (sym g.is) ∙ none_between s g.a g.x g.r g.till g.station line

-- three seeds in one list
module _ (σ seed last : List ℕ) (lσ : length σ ≡ 32) (ls : length seed ≡ 32) (ll : length last ≡ 32) where
  first_seed : take 32 (σ ++ (seed ++ last)) ≡ σ
  first_seed = take_at σ (seed ++ last) 32 lσ

  second_seed : take 32 (drop 32 (σ ++ (seed ++ last))) ≡ seed
  second_seed = ap (take 32) (drop_at σ (seed ++ last) 32 lσ) ∙ take_at seed last 32 ls

  third_seed : take 32 (drop 64 (σ ++ (seed ++ last))) ≡ last
  third_seed =
      ap (take 32) (sym (drop-drop 32 32 (σ ++ (seed ++ last))) ∙ ap (drop 32) (drop_at σ (seed ++ last) 32 lσ) ∙ drop_at seed last 32 ls)
      ∙ take_all 32 last (omega arith)

  length_seeds : length (σ ++ (seed ++ last)) ≡ 96
  length_seeds = omega (arith, length-append σ (seed ++ last), length-append seed last)

  -- seeds that expand gauge
  gauge_is : (B : Book) (s : Set) (a x r : List ℕ) → public_polynomial B s σ ≡ Ok a → secret_positions B s seed ≡ Ok x → secret_positions B s last ≡ Ok r
      → gauged B s s.code.mu area_words area_words (σ ++ (seed ++ last)) ≡ Ok (noise_between s a x r)
  gauge_is B s a x r ea ex er =
      let seeds : List ℕ = σ ++ (seed ++ last) in
      then_is (gauge_checks s s.code.mu area_words area_words seeds) _
      (then_is (sized s.code.mu s.code.mu (WrongBuffer Output)) _ (sized_is s.code.mu s.code.mu (WrongBuffer Output) refl)
      (sized_is (length seeds) 96 (WrongInput First (length seeds)) length_seeds))
      (ap lift
      (bind_is (public_polynomial B s (take 32 seeds)) _ (ap (public_polynomial B s) first_seed ∙ ea)
      (bind_is (secret_positions B s (take 32 (drop 32 seeds))) _ (ap (secret_positions B s) second_seed ∙ ex)
      (bind_is (secret_positions B s (take 32 (drop 64 seeds))) _ (ap (secret_positions B s) third_seed ∙ er)
      refl))))

-- a parcel that passes the checks is read with a secret that expands
read_is : (B : Book) (s : Set) (parcel seed x : List ℕ) → length parcel ≡ parcel_length s → parcel_content s parcel ≡ Ok tt → length seed ≡ 32 → secret_positions B s seed ≡ Ok x
    → raw_read B s s.code.mu area_words area_words parcel seed ≡ Ok (bits_in s x parcel)
read_is B s parcel seed x long content ls ex =
    then_is (read_checks s s.code.mu area_words area_words parcel seed) _
    (then_is (sized s.code.mu s.code.mu (WrongBuffer Output)) _ (sized_is s.code.mu s.code.mu (WrongBuffer Output) refl)
    (then_is (sized (length parcel) (parcel_length s) (WrongInput First (length parcel))) _ (sized_is (length parcel) (parcel_length s) (WrongInput First (length parcel)) long)
    (then_is (sized (length seed) 32 (WrongInput Second (length seed))) _ (sized_is (length seed) 32 (WrongInput Second (length seed)) ls)
    (ap lift_form content))))
    (ap lift (bind_is (secret_positions B s seed) _ ex refl))

-- the gauge of a sealing to the key of two seeds
pub exchanged_gauge : (B : Book) (s : Set) (σ seed key m : List ℕ) (it : Sealed) → length σ ≡ 32 → length seed ≡ 32 → (y : Exchanged B s σ seed key m it)
    → gauged B s s.code.mu area_words area_words (σ ++ (seed ++ station_seed m key)) ≡ Ok (noise_between s y.a y.x y.r)
exchanged_gauge B s σ seed key m it lσ ls y =
    gauge_is σ seed (station_seed m key) lσ ls (length_station_seed m key) B s y.a y.x y.r y.polynomial y.till y.station

-- (a) the noise tells which raw bits are wrong
pub noise_tells : (C B : Book) (s : Set) → C ≡ B → NoiseTells C B s
noise_tells C B s books coins key m it long made w =
    let σ : List ℕ = take 32 coins in
    let seed : List ℕ = take 32 (drop 32 coins) in
    let lσ : length σ ≡ 32 = length-take-le 32 coins (omega arith) in
    let ls : length seed ≡ 32 = length_part 32 coins (omega arith) in
    let y = exchanged C B s σ seed key m it books lσ made w in
    let lx = positions_count B s seed y.x y.till in
    let lr = positions_count B s (station_seed m key) y.r y.station in
    record {
      raw = _;
      noise = noise_between s y.a y.x y.r;
      read =
          read_is B s it.parcel seed y.x (parcel_long B s σ seed key m it y) (parcel_passes B s σ seed key m it y) ls y.till
          ∙ ap Ok (parcel_bits B s σ seed key m it y);
      gauge = exchanged_gauge B s σ seed key m it lσ ls y;
      tells = tells_between s y.a y.x y.r lx lr m;
    }
