-- The lists of both ends, place by place: over the cyclic product they are what any product gives.
use Rattle.std.proofs.Common.{◌≡◌, ℕ, ◌+◌, ◌<◌, ◌≤◌, List, length, get_or, pos, ◌-ℤ◌, ap, ◌∙◌, ap₂, arith}
use mathlib.Core.Path.{fun_ext}
use Rattle.params.specs.Sizes.{p}
use Rattle.params.specs.declared.moduli.Moduli.{Moduli}
use Rattle.ring.specs.Lists.{whole, signed}
use Rattle.ring.specs.Cyclic.{cyclic, cyclic_signed, mod_z}
use Rattle.ring.proofs.Bridge.{get_d_cyclic_signed}
use Rattle.rounding.specs.Rounding.{rounded, symbol, raw_bit, slip, noise}
use Rattle.rounding.specs.Symbols.{rounded_product, slips, cross_product, symbols}
use Rattle.rounding.proofs.Listed.{get_d_rounded_product, get_d_slips, get_d_cross_product, length_symbols, get_d_symbols, get_d_raw_bits, get_d_noises}
use Rattle.noise.specs.AnyProduct.{residue_at, cross_at, slips_at, noise_at, read_at}
use Rattle.noise.specs.Ends.{station_cross, till_cross, raw_read, symbol_noise}

module _ (M : Moduli) (n : ℕ) (a : List ℕ) where
  -- what an end makes of the other's rounded product
  cross_is : (s r : List ℕ) (i : ℕ) → i ≤ n → get_or (cross_product M n (rounded_product M n a s) r) i 0 ≡ cross_at M n (cyclic (n + 1)) (whole a) s r i
  unfolding cross_at residue_at
  cross_is s r i le =
      let public : whole (rounded_product M n a s) ≡ (λ j. pos (rounded M (residue_at M n (cyclic (n + 1)) (whole a) s j))) = fun_ext (λ j. ap (λ k. pos k) (get_d_rounded_product M n a s j)) in
      get_d_cross_product M n (rounded_product M n a s) r i 0 le ∙ ap (λ f. mod_z (p M) (cyclic (n + 1) f r i)) public

  -- what the slips of one end make with the other's secret
  slips_are : (s r : List ℕ) (i : ℕ) → i ≤ n → signed (cyclic_signed n (slips M n a s) r) i ≡ slips_at M n (cyclic (n + 1)) (whole a) s r i
  unfolding residue_at
  slips_are s r i le =
      let off : signed (slips M n a s) ≡ (λ j. slip M (residue_at M n (cyclic (n + 1)) (whole a) s j)) = fun_ext (get_d_slips M n a s) in
      get_d_cyclic_signed n (slips M n a s) r i (pos 0) le ∙ ap (λ f. cyclic (n + 1) f r i) off

  module _ (s r : List ℕ) where
    -- the noise of symbol i
    pub noise_is : (mu i : ℕ) → mu ≤ n → i < mu → signed (symbol_noise M n a s r mu) i ≡ noise_at M n (cyclic (n + 1)) (whole a) s r i
    unfolding noise_at
    noise_is mu i room lt =
        get_d_noises M mu _ _ _ i (pos 0) lt
        ∙ ap₂ (noise M) (ap₂ ◌-ℤ◌ (slips_are s r i (omega arith)) (slips_are r s i (omega arith))) (cross_is s r i (omega arith))

    -- raw bit i
    pub read_is : (bits : List ℕ) (i : ℕ) → length bits ≤ n → i < length bits → get_or (raw_read M n a s r bits) i 0 ≡ read_at M n (cyclic (n + 1)) (whole a) s r i (get_or bits i 0)
    unfolding read_at
    read_is bits i room lt =
        let sent = symbols M (station_cross M n a s r) bits in
        get_d_raw_bits M sent (till_cross M n a s r) i 0 (omega (arith, length_symbols M (station_cross M n a s r) bits))
        ∙ ap₂ (raw_bit M)
        (get_d_symbols M (station_cross M n a s r) bits i 0 lt ∙ ap (λ x. symbol M x (get_or bits i 0)) (cross_is s r i (omega arith)))
        (cross_is r s i (omega arith))
