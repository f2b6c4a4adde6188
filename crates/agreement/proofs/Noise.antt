-- The laws of noise, at the secrets that seeds of a set expand to.
use Rattle.std.proofs.Common.{◌≡◌, ℕ, ◌/◌, ◌%◌, ◌<◌, ◌≤◌, List, length, get_or, nat_abs, Ok, Decides, sym, ap, ◌∙◌, subst, arith}
use Rattle.params.specs.Sizes.{bound, BelowLine}
use Rattle.params.specs.declared.set.Set.{Set}
use Rattle.sampler.specs.Expanded.{secret_label}
use Rattle.sampler.proofs.Laws.{secret_picked}
use Rattle.ring.specs.Lists.{signed}
use Rattle.ring.specs.RingLaws.{Balanced}
use Rattle.rounding.specs.Rounding.{in_band}
use Rattle.rounding.specs.Symbols.{symbols, out_of_band}
use Rattle.rounding.proofs.Listed.{length_symbols, length_raw_bits}
use Rattle.rounding.proofs.Below.{raw_bits_le}
use Rattle.code.specs.Words.{Bytes, code_word, distance}
use Rattle.code.specs.Correcting.{corrected_message}
use Rattle.code.proofs.Words.{code_word_bits}
use Rattle.code.proofs.Mending.{mends}
use Rattle.noise.specs.Ends.{station_cross, till_cross, raw_read, symbol_noise, symbol_in_band}
use Rattle.noise.specs.Laws.{Exchange}
use Rattle.noise.proofs.Laws.{exact, bounded, safe}
use Rattle.calls.specs.Chains.{Book}
use Rattle.scheme.specs.Scheme.{secret_positions}
use Rattle.lab.specs.Lab.{noise_between}
use Rattle.agreement.proofs.Exchanged.{length_word}

-- a secret has h positions
pub positions_count : (B : Book) (s : Set) (seed x : List ℕ) → secret_positions B s seed ≡ Ok x → length x ≡ s.h
positions_count B s seed x e = (secret_picked s.n s.h (B secret_label seed) x (omega arith) s.high e).count

-- two secrets of h positions
module _ (s : Set) (a x r : List ℕ) (lx : length x ≡ s.h) (lr : length r ≡ s.h) where
  -- so many are as many + as -
  balanced : (y : List ℕ) → length y ≡ s.h → Balanced y
  balanced y l = ap (λ k. k % 2) l ∙ s.paired

  exchange : (m : List ℕ) → Exchange s.n x r (code_word s.code.shape m)
  exchange m = record {
    till = balanced x lx;
    station = balanced r lr;
    code = code_word_bits s.code.shape m;
    room = omega (arith, length_word s m, s.room);
  }

  -- a raw bit is its code bit exactly where the noise is in band
  pub tells_between : (m : List ℕ) (i : ℕ) → i < s.code.mu
      → Decides (in_band s.moduli (signed (noise_between s a x r) i)) (get_or (raw_read s.moduli s.n a x r (code_word s.code.shape m)) i 0 ≡ get_or (code_word s.code.shape m) i 0)
  tells_between m =
      let w : List ℕ = code_word s.code.shape m in
      subst (λ (k : ℕ). (i : ℕ) → i < k → Decides (symbol_in_band s.moduli s.n a x r k i) (get_or (raw_read s.moduli s.n a x r w) i 0 ≡ get_or w i 0))
      (length_word s m)
      (exact s.moduli s.n a x r w (exchange m)).decides

  -- as many raw bits are wrong as symbols are out of band
  distance_between : (m : List ℕ) → distance (code_word s.code.shape m) (raw_read s.moduli s.n a x r (code_word s.code.shape m)) ≡ out_of_band s.moduli (noise_between s a x r)
  distance_between m =
      (exact s.moduli s.n a x r (code_word s.code.shape m) (exchange m)).count
      ∙ ap (λ k. out_of_band s.moduli (symbol_noise s.moduli s.n a x r k)) (length_word s m)

  -- if at most f symbols are out of band, the raw bits correct to the message
  pub mended_between : (m : List ℕ) → length m ≡ s.code.shape.kappa / 8 → Bytes m → out_of_band s.moduli (noise_between s a x r) ≤ s.code.shape.f
      → corrected_message s.code.shape (raw_read s.moduli s.n a x r (code_word s.code.shape m)) ≡ m
  mended_between m long bytes few =
      let w : List ℕ = code_word s.code.shape m in
      let v : List ℕ = symbols s.moduli (station_cross s.moduli s.n a x r) w in
      mends s.code (raw_read s.moduli s.n a x r w)
      (length_raw_bits s.moduli v (till_cross s.moduli s.n a x r) ∙ length_symbols s.moduli (station_cross s.moduli s.n a x r) w ∙ length_word s m)
      (λ i h. omega (arith, raw_bits_le s.moduli v (till_cross s.moduli s.n a x r) i))
      m long bytes (omega (arith, distance_between m))

  -- no noise is beyond the bound
  pub bounded_between : (i : ℕ) → i < s.code.mu → nat_abs (signed (noise_between s a x r) i) ≤ bound s
  bounded_between = bounded s.moduli s.n a x r s.h s.code.mu (omega arith) (omega arith) s.room

  -- and below the line no symbol is out of band
  pub none_between : BelowLine s → out_of_band s.moduli (noise_between s a x r) ≡ 0
  none_between line =
      ap (λ k. out_of_band s.moduli (symbol_noise s.moduli s.n a x r k)) (sym (length_word s x))
      ∙ (safe s.moduli s.n a x r (code_word s.code.shape x) s.h (exchange x) (omega arith) (omega arith) line).none
