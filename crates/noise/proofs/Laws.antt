-- When raw bits are right, how large noise is, and what follows below the line.
use Rattle.std.proofs.Common.{◌≡◌, ℕ, ◌+◌, ◌-◌, ◌<◌, ◌≤◌, Bool, true, false, cond, not, eqb, List, length, get_or, nat_abs, Decides, sym, refl, ap, ◌∙◌, subst, arith}
use Rattle.std.proofs.lemmas.Bool.{false≢true}
use Rattle.std.proofs.lemmas.Bool.Decides.{same_from_decides, Decides-eqb, Decides-like}
use Rattle.params.specs.Sums.{sum, bit}
use Rattle.params.specs.declared.moduli.Moduli.{Moduli}
use Rattle.params.proofs.Sums.{sum_same}
use Rattle.ring.specs.Lists.{whole}
use Rattle.ring.specs.Cyclic.{cyclic}
use Rattle.ring.proofs.CyclicLaws.{cyclic_multiplies}
use Rattle.ring.proofs.Listing.{listed_by}
use Rattle.rounding.specs.Rounding.{in_band}
use Rattle.rounding.specs.Symbols.{symbols, out_of_band}
use Rattle.rounding.proofs.Listed.{length_symbols, length_raw_bits, length_noises}
use Rattle.noise.specs.Bounds.{noise_bound, Below}
use Rattle.noise.specs.AnyProduct.{Agreement}
use Rattle.noise.specs.Ends.{station_cross, till_cross, raw_read, symbol_noise, symbol_in_band}
use Rattle.noise.specs.Laws.{Exchange, ExactNoise, BoundedNoise, SafeNoise}
use Rattle.noise.proofs.AnyProduct.{agreement}
use Rattle.noise.proofs.Places.{noise_is, read_is}
use Rattle.noise.proofs.Counts.{sum_zero, out_of_band_is}

-- a bit that is turned is not the bit it was
turned : (kept : Bool) (x y : ℕ) → y < 2 → x ≡ cond kept y (1 - y) → Decides kept (x ≡ y)
turned true x y low e = (λ _. e, λ _. refl)
turned false x y low e = (λ f. absurd (false≢true f), λ same. absurd (omega arith))

-- two tests of one fact are told apart by no count
eqb_is : (kept : Bool) (x y : ℕ) → Decides kept (x ≡ y) → bit (not (eqb y x)) ≡ bit (not kept)
eqb_is kept x y d = ap (λ b. bit (not b)) (same_from_decides (eqb y x) kept (Decides-eqb y x) (Decides-like kept sym sym d))

module _ (M : Moduli) (n : ℕ) (a s r : List ℕ) where
  -- the cyclic product has the four laws
  over_cyclic : Agreement M n (cyclic (n + 1)) (whole a) s r
  over_cyclic = agreement M n (cyclic (n + 1)) (cyclic_multiplies n) (whole a) s r

  -- how many of the first mu symbols are out of band
  count_places : (mu : ℕ) → out_of_band M (symbol_noise M n a s r mu) ≡ sum mu (λ i. bit (not (symbol_in_band M n a s r mu i)))
  count_places mu =
      out_of_band_is M (symbol_noise M n a s r mu) ∙ ap (λ m. sum m (λ i. bit (not (symbol_in_band M n a s r mu i)))) (length_noises M mu _ _ _)

  -- there are as many raw bits as code bits
  length_raw : (bits : List ℕ) → length (raw_read M n a s r bits) ≡ length bits
  length_raw bits = length_raw_bits M (symbols M (station_cross M n a s r) bits) (till_cross M n a s r) ∙ length_symbols M (station_cross M n a s r) bits

  -- below the line every symbol is in band
  all_in_band : (h mu : ℕ) → length s ≤ h → length r ≤ h → Below M h → mu ≤ n → (i : ℕ) → i < mu → symbol_in_band M n a s r mu i ≡ true
  all_in_band h mu hs hr line room i lt = ap (in_band M) (noise_is M n a s r mu i room lt) ∙ over_cyclic.safe h hs hr line i

  module _ (bits : List ℕ) (x : Exchange n s r bits) where
    -- a raw bit, from its code bit and its noise
    raw_value : (i : ℕ) → i < length bits → get_or (raw_read M n a s r bits) i 0 ≡ cond (symbol_in_band M n a s r (length bits) i) (get_or bits i 0) (1 - get_or bits i 0)
    raw_value i lt =
        read_is M n a s r bits i x.room lt
        ∙ over_cyclic.exact x.till x.station i (get_or bits i 0) (x.code i lt)
        ∙ ap (λ w. cond (in_band M w) (get_or bits i 0) (1 - get_or bits i 0)) (sym (noise_is M n a s r (length bits) i x.room lt))

    -- whether it is its code bit
    raw_decides : (i : ℕ) → i < length bits → Decides (symbol_in_band M n a s r (length bits) i) (get_or (raw_read M n a s r bits) i 0 ≡ get_or bits i 0)
    raw_decides i lt = turned _ _ (get_or bits i 0) (x.code i lt) (raw_value i lt)

    -- as many raw bits are wrong as symbols are out of band
    pub wrong_count : sum (length bits) (λ i. bit (not (eqb (get_or bits i 0) (get_or (raw_read M n a s r bits) i 0)))) ≡ out_of_band M (symbol_noise M n a s r (length bits))
    wrong_count =
        sum_same (length bits) _ _ (λ i lt. eqb_is (symbol_in_band M n a s r (length bits) i) (get_or (raw_read M n a s r bits) i 0) (get_or bits i 0) (raw_decides i lt))
        ∙ sym (count_places (length bits))

-- raw bits are wrong exactly where noise is out of band
pub exact : (M : Moduli) → ExactNoise M
exact M n a s r bits x = record {
  decides = raw_decides M n a s r bits x;
  value = raw_value M n a s r bits x;
  count = wrong_count M n a s r bits x;
}

-- secrets of at most h positions keep noise within the bound
pub bounded : (M : Moduli) → BoundedNoise M
bounded M n a s r h mu hs hr room i lt =
    subst (λ w. nat_abs w ≤ noise_bound M h) (sym (noise_is M n a s r mu i room lt)) ((over_cyclic M n a s r).bounded h hs hr i)

-- and below the line they leave every bit as it was
pub safe : (M : Moduli) → SafeNoise M
safe M n a s r bits h x hs hr line =
    let mu = length bits in
    let code : ℕ → ℕ = λ i. get_or bits i 0 in
    let band = all_in_band M n a s r h mu hs hr line x.room in
    record {
      band = band;
      same =
          listed_by mu code (raw_read M n a s r bits) 0 (length_raw M n a s r bits) (λ i lt. (raw_decides M n a s r bits x i lt).0 (band i lt))
          ∙ sym (listed_by mu code bits 0 refl (λ i lt. refl));
      none = count_places M n a s r mu ∙ sum_zero mu _ (λ i lt. ap (λ b. bit (not b)) (band i lt));
    }
