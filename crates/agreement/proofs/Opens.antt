-- A parcel that was sealed to a published key opens at its place.
use Rattle.std.proofs.Common.{◌≡◌, ℕ, ◌≤◌, true, ◌&&◌, List, [], ◌∷◌, length, Ok, refl, ap, ◌∙◌, arith}
use Rattle.std.proofs.lemmas.Bool.{eq-eqb, cond-true}
use Rattle.params.specs.Sizes.{key_length, parcel_length, BelowLine}
use Rattle.params.specs.declared.set.Set.{Set}
use Rattle.rounding.specs.Symbols.{rounded_product, out_of_band}
use Rattle.code.specs.Words.{Bytes}
use Rattle.code.specs.Correcting.{corrected_message}
use Rattle.calls.specs.Areas.{area_words}
use Rattle.calls.specs.Chains.{Book, lift, lift_form, sized, areas_fit}
use Rattle.calls.specs.declared.refusal.Buffer.TheVariants.{Output}
use Rattle.calls.specs.declared.refusal.Input.TheVariants.{First}
use Rattle.calls.specs.declared.refusal.Refusal.TheVariants.{WrongBuffer, WrongInput}
use Rattle.scheme.specs.Scheme.{public_polynomial, secret_positions, key_from, encrypted, l_of, station_seed, secret_from, message_in}
use Rattle.seal.specs.Seal.{Sealed}
use Rattle.lab.specs.Lab.{noise_between}
use Rattle.rack.specs.Calls.{Places, all_empty, coins_key, coins_at, same, chosen, opening, open_checks, opened}
use Rattle.rack.specs.declared.record.Coins.{Coins}
use Rattle.agreement.specs.Runs.{run}
use Rattle.agreement.specs.Agreement.{Opens}
use Rattle.agreement.proofs.Binds.{bind_ok, bind_is, then_is, lift_ok, sized_is}
use Rattle.agreement.proofs.Exchanged.{Exchanged, exchanged, parcel_long, parcel_passes, parcel_bits}
use Rattle.agreement.proofs.Noise.{positions_count, mended_between, none_between}
use Rattle.agreement.proofs.Laboratory.{exchanged_gauge}
use Rattle.agreement.proofs.Places.{holds_ok, holds_is, kept_run, lawful_run}

-- a list is the same as itself
same_self : (xs : List ℕ) → same xs xs ≡ true
same_self [] = refl
same_self (x ∷ xs) = ap (λ b. b && same xs xs) (eq-eqb x x refl) ∙ same_self xs

module _ (B : Book) (s : Set) (c : Coins) (key m : List ℕ) (it : Sealed) (y : Exchanged B s c.sigma c.seed key m it) where
  -- if at most f symbols are out of band, the till finds the message
  found_message : Bytes m → out_of_band s.moduli (noise_between s y.a y.x y.r) ≤ s.code.shape.f → message_in s y.x it.parcel ≡ m
  found_message bytes few =
      ap (corrected_message s.code.shape) (parcel_bits B s c.sigma c.seed key m it y)
      ∙ mended_between s y.a y.x y.r (positions_count B s c.seed y.x y.till) (positions_count B s (station_seed m key) y.r y.station) m y.message bytes few

  -- sealing what is found gives the same parcel again
  again_same : message_in s y.x it.parcel ≡ m
      → encrypted B s y.a (rounded_product s.moduli s.n y.a y.x) (key_from s c.sigma y.a y.x) (message_in s y.x it.parcel) ≡ Ok it.parcel
  again_same found =
      let b : List ℕ = rounded_product s.moduli s.n y.a y.x in
      ap (λ k. encrypted B s y.a b k (message_in s y.x it.parcel)) y.made
      ∙ ap (encrypted B s y.a b key) found
      ∙ bind_is (secret_positions B s (station_seed m key)) _ y.station (ap Ok y.parcel)

  -- so l is chosen
  l_chosen : message_in s y.x it.parcel ≡ m → chosen c (key_from s c.sigma y.a y.x) (message_in s y.x it.parcel) it.parcel it.parcel ≡ l_of m key
  l_chosen found =
      cond-true (same it.parcel it.parcel) _ _ (same_self it.parcel)
      ∙ ap (λ k. l_of (message_in s y.x it.parcel) k) y.made
      ∙ ap (λ k. l_of k key) found

  -- the coins make the station's secret of the parcel
  opening_is : message_in s y.x it.parcel ≡ m → opening B s c it.parcel ≡ Ok it.secret
  opening_is found =
      let b : List ℕ = rounded_product s.moduli s.n y.a y.x in
      bind_is (public_polynomial B s c.sigma) _ y.polynomial
      (bind_is (secret_positions B s c.seed) _ y.till
      (bind_is (encrypted B s y.a b (key_from s c.sigma y.a y.x) (message_in s y.x it.parcel)) _ (again_same found)
      (ap (λ l. Ok (secret_from l it.parcel)) (l_chosen found) ∙ ap Ok y.secret)))

  -- the parcel passes the tests of open
  open_passes : open_checks s 32 area_words area_words it.parcel ≡ Ok tt
  open_passes =
      then_is (sized (length it.parcel) (parcel_length s) (WrongInput First (length it.parcel))) _
      (sized_is (length it.parcel) (parcel_length s) (WrongInput First (length it.parcel)) (parcel_long B s c.sigma c.seed key m it y))
      (ap lift_form (parcel_passes B s c.sigma c.seed key m it y))

  -- where these coins are, open writes the station's secret
  opens_there : (ps : Places) (i : ℕ) → coins_at ps i ≡ Ok c → Bytes m → out_of_band s.moduli (noise_between s y.a y.x y.r) ≤ s.code.shape.f
      → opened B s ps i 32 area_words area_words it.parcel ≡ Ok it.secret
  opens_there ps i there bytes few =
      bind_is (coins_at ps i) _ there
      (then_is (open_checks s 32 area_words area_words it.parcel) _ open_passes
      (ap lift (opening_is (found_message bytes few))))

  -- below the line no symbol is out of band
  none_out : BelowLine s → out_of_band s.moduli (noise_between s y.a y.x y.r) ≡ 0
  none_out = none_between s y.a y.x y.r (positions_count B s c.seed y.x y.till) (positions_count B s (station_seed m key) y.r y.station)

-- (c) after any calls, none of them a retire of the place
pub opens : (C B : Book) (s : Set) → C ≡ B → Opens C B s
opens C B s books before since i key_buffer secret_words product_words key m it was keep w =
    let there : Places = run B s all_empty before in
    let here : Places = run B s there since in
    let (c, at_c, e1) = bind_ok (coins_at there i) _ _ was in
    let (_, _, e2) = bind_ok (sized key_buffer (key_length s) (WrongBuffer Output)) _ _ e1 in
    let (_, _, e3) = bind_ok (areas_fit secret_words product_words) _ _ e2 in
    let f = holds_ok there i c at_c in
    let lawful = lawful_run B s before i c f.here in
    let y = exchanged C B s c.sigma c.seed key m it books lawful.sigma (lift_ok (coins_key B s c) key e3) w in
    let now-c : coins_at here i ≡ Ok c = holds_is here i c (record { place = f.place; here = kept_run B s there since i c keep f.here }) in
    let good = opens_there B s c key m it y here i now-c w.bytes in
    record {
      coins = c;
      noise = noise_between s y.a y.x y.r;
      held = now-c;
      gauge = exchanged_gauge B s c.sigma c.seed key m it lawful.sigma lawful.seed y;
      opens = good;
      always = λ line. good (omega (arith, none_out B s c key m it y line));
    }
