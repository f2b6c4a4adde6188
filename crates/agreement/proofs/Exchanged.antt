-- A parcel that was sealed to the key of two seeds, with equal books at both ends: it passes the checks, and what is read in it.
use Rattle.std.proofs.Common.{◌≡◌, ℕ, ◌/◌, ◌<◌, List, length, Ok, sym, ap, ◌∙◌}
use Rattle.std.proofs.ByRecursion.{All-from_get_or}
use Rattle.params.specs.Sizes.{p, t, parcel_length}
use Rattle.params.specs.declared.moduli.Moduli.{Moduli}
use Rattle.params.specs.declared.set.Set.{Set}
use Rattle.rounding.specs.Symbols.{rounded_product, cross_product, symbols, raw_bits}
use Rattle.rounding.proofs.Listed.{length_rounded_product, length_symbols}
use Rattle.rounding.proofs.Below.{rounded_product_lt, symbols_lt}
use Rattle.code.specs.Words.{code_word}
use Rattle.code.proofs.Words.{code_word_length}
use Rattle.pack.specs.Bits.{Below}
use Rattle.wire.specs.Keys.{key_seed, key_b}
use Rattle.wire.specs.Parcels.{parcel_bytes, parcel_u, parcel_content}
use Rattle.wire.proofs.KeyLaws.{key_seed_written, key_b_written}
use Rattle.wire.proofs.ParcelLaws.{length_parcel, parcel_u_written, parcel_v_written, parcel_content_written}
use Rattle.calls.specs.Chains.{Book}
use Rattle.scheme.specs.Scheme.{public_polynomial, secret_positions, key_from, key_of, parcel_from, l_of, tag_of, station_seed, secret_from, bits_in}
use Rattle.seal.specs.Seal.{Sealed}
use Rattle.noise.specs.Ends.{raw_read}
use Rattle.agreement.specs.Agreement.{Seals}
use Rattle.agreement.proofs.Binds.{ok_same}
use Rattle.agreement.proofs.Parts.{seal_parts, key_parts, length_tag}

-- the polynomial that both ends have, the positions x of the till's secret and r of the station's, and what was made of them
pub record Exchanged (B : Book) (s : Set) (σ seed key m : List ℕ) (it : Sealed) : Type 0 where
  pub a : List ℕ
  pub x : List ℕ
  pub r : List ℕ
  pub polynomial : public_polynomial B s σ ≡ Ok a
  pub till : secret_positions B s seed ≡ Ok x
  pub station : secret_positions B s (station_seed m key) ≡ Ok r
  pub made : key_from s σ a x ≡ key
  pub message : length m ≡ s.code.shape.kappa / 8
  pub parcel : parcel_from s a (rounded_product s.moduli s.n a x) r m (tag_of m key) ≡ it.parcel
  pub secret : secret_from (l_of m key) it.parcel ≡ it.secret

-- rounded products are below p, and symbols below t
rounded_below : (M : Moduli) (n : ℕ) (a x : List ℕ) → Below (p M) (rounded_product M n a x)
rounded_below M n a x = All-from_get_or (λ y. y < p M) (rounded_product M n a x) 0 (λ i _. rounded_product_lt M n a x i)

symbols_below : (M : Moduli) (xs bits : List ℕ) → Below (t M) (symbols M xs bits)
symbols_below M xs bits = All-from_get_or (λ y. y < t M) (symbols M xs bits) 0 (λ i _. symbols_lt M xs bits i)

-- a key reads back as the seed and the rounded product that it was made of
key_has_seed : (s : Set) (σ a x key : List ℕ) → length σ ≡ 32 → key_from s σ a x ≡ key → key_seed key ≡ σ
key_has_seed s σ a x key l e = ap key_seed (sym e) ∙ key_seed_written s σ (rounded_product s.moduli s.n a x) l

key_has_b : (s : Set) (σ a x key : List ℕ) → length σ ≡ 32 → key_from s σ a x ≡ key → key_b s key ≡ rounded_product s.moduli s.n a x
key_has_b s σ a x key l e =
    ap (key_b s) (sym e)
    ∙ key_b_written s σ (rounded_product s.moduli s.n a x) l (length_rounded_product s.moduli s.n a x) (rounded_below s.moduli s.n a x)

-- a seal to the key of two seeds, where the books are equal
pub exchanged : (C B : Book) (s : Set) (σ seed key m : List ℕ) (it : Sealed) → C ≡ B → length σ ≡ 32 → key_of B s σ seed ≡ Ok key → Seals C s key m it
    → Exchanged B s σ seed key m it
exchanged C B s σ seed key m it books l made w =
    let k = key_parts B s σ seed key made in
    let y = seal_parts C s key m it w in
    let at_till : public_polynomial C s (key_seed key) ≡ Ok k.a =
    ap (λ (D : Book). public_polynomial D s (key_seed key)) books ∙ ap (public_polynomial B s) (key_has_seed s σ k.a k.x key l k.made) ∙ k.polynomial in
    let one : y.a ≡ k.a = ok_same (sym y.polynomial ∙ at_till) in
    record {
      a = k.a;
      x = k.x;
      r = y.r;
      polynomial = k.polynomial;
      till = k.positions;
      station = ap (λ (D : Book). secret_positions D s (station_seed m key)) (sym books) ∙ y.positions;
      made = k.made;
      message = y.message;
      parcel =
          ap (λ b. parcel_from s k.a b y.r m (tag_of m key)) (sym (key_has_b s σ k.a k.x key l k.made))
          ∙ ap (λ a. parcel_from s a (key_b s key) y.r m (tag_of m key)) (sym one)
          ∙ y.parcel;
      secret = y.secret;
    }

-- a code word has μ bits
pub length_word : (s : Set) (m : List ℕ) → length (code_word s.code.shape m) ≡ s.code.mu
length_word s m = code_word_length s.code.shape m ∙ sym s.code.count

module _ (s : Set) (a b r m g : List ℕ) (lg : length g ≡ 32) where
  -- there are μ symbols in a parcel
  length_hidden : length (symbols s.moduli (cross_product s.moduli s.n b r) (code_word s.code.shape m)) ≡ s.code.mu
  length_hidden = length_symbols s.moduli (cross_product s.moduli s.n b r) (code_word s.code.shape m) ∙ length_word s m

  -- a parcel that is made has its length, and passes the checks
  pub made_length : length (parcel_from s a b r m g) ≡ parcel_length s
  made_length = length_parcel s _ _ g (length_rounded_product s.moduli s.n a r) length_hidden lg

  pub made_content : parcel_content s (parcel_from s a b r m g) ≡ Ok tt
  made_content = parcel_content_written s _ _ g (length_rounded_product s.moduli s.n a r) length_hidden lg

  -- the bits that a secret reads in it
  pub made_bits : (x : List ℕ) → bits_in s x (parcel_from s a b r m g) ≡ raw_bits s.moduli (symbols s.moduli (cross_product s.moduli s.n b r) (code_word s.code.shape m)) (cross_product s.moduli s.n (rounded_product s.moduli s.n a r) x)
  made_bits x =
      let u : List ℕ = rounded_product s.moduli s.n a r in
      let v : List ℕ = symbols s.moduli (cross_product s.moduli s.n b r) (code_word s.code.shape m) in
      let parcel : List ℕ = parcel_bytes s u v g in
      ap (λ w. raw_bits s.moduli w (cross_product s.moduli s.n (parcel_u s parcel) x))
      (parcel_v_written s u v g (length_rounded_product s.moduli s.n a r) length_hidden lg (symbols_below s.moduli (cross_product s.moduli s.n b r) (code_word s.code.shape m)))
      ∙ ap (λ w. raw_bits s.moduli v (cross_product s.moduli s.n w x))
      (parcel_u_written s u v g (length_rounded_product s.moduli s.n a r) lg (rounded_below s.moduli s.n a r))

module _ (B : Book) (s : Set) (σ seed key m : List ℕ) (it : Sealed) (y : Exchanged B s σ seed key m it) where
  -- the parcel has its length
  pub parcel_long : length it.parcel ≡ parcel_length s
  parcel_long = ap length (sym y.parcel) ∙ made_length s y.a _ y.r m (tag_of m key) (length_tag m key)

  -- it passes the checks
  pub parcel_passes : parcel_content s it.parcel ≡ Ok tt
  parcel_passes = ap (parcel_content s) (sym y.parcel) ∙ made_content s y.a _ y.r m (tag_of m key) (length_tag m key)

  -- and the till's secret reads raw bits in it
  pub parcel_bits : bits_in s y.x it.parcel ≡ raw_read s.moduli s.n y.a y.x y.r (code_word s.code.shape m)
  parcel_bits = ap (bits_in s y.x) (sym y.parcel) ∙ made_bits s y.a _ y.r m (tag_of m key) (length_tag m key) y.x
