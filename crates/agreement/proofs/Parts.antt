-- A seal and a key, taken apart.
use Rattle.std.proofs.Common.{◌≡◌, ℕ, ◌+◌, ◌/◌, ◌≤◌, List, ◌∷◌, ◌++◌, length, take, drop, Ok, sym, ap, ◌∙◌, arith}
use Rattle.std.proofs.lemmas.List.{length-take-le, length-drop}
use Rattle.params.specs.Sizes.{key_length, parcel_length}
use Rattle.params.specs.declared.set.Set.{Set}
use Rattle.shake.proofs.Laws.{length_shake256}
use Rattle.wire.specs.Keys.{key_seed, key_b}
use Rattle.calls.specs.Chains.{Book, sized, areas_fit}
use Rattle.calls.specs.declared.refusal.Buffer.TheVariants.{Output, SecretOutput}
use Rattle.calls.specs.declared.refusal.Input.TheVariants.{First, Second}
use Rattle.calls.specs.declared.refusal.Refusal.TheVariants.{WrongBuffer, WrongInput}
use Rattle.scheme.specs.Scheme.{public_polynomial, secret_positions, key_from, key_of, parcel_from, encrypted, sealing_bytes, l_of, tag_of, station_seed, secret_from}
use Rattle.seal.specs.Seal.{Sealed, both, seal_checks, sealing}
use Rattle.agreement.specs.Agreement.{Seals}
use Rattle.agreement.proofs.Binds.{bind_ok, ok_same, lift_ok, sized_ok}

-- what a seal that is not refused was made of
pub record SealParts (C : Book) (s : Set) (key m : List ℕ) (it : Sealed) : Type 0 where
  pub a : List ℕ
  pub r : List ℕ
  pub polynomial : public_polynomial C s (key_seed key) ≡ Ok a
  pub positions : secret_positions C s (station_seed m key) ≡ Ok r
  pub message : length m ≡ s.code.shape.kappa / 8
  pub parcel : parcel_from s a (key_b s key) r m (tag_of m key) ≡ it.parcel
  pub secret : secret_from (l_of m key) it.parcel ≡ it.secret

-- the message of a seal that passes its checks has κ/8 bytes
checked_message : (s : Set) (p o a b : ℕ) (key m : List ℕ) → seal_checks s p o a b key m ≡ Ok tt → length m ≡ s.code.shape.kappa / 8
checked_message s p o a b key m e =
    let (_, _, e1) = bind_ok (sized p (parcel_length s) (WrongBuffer Output)) _ _ e in
    let (_, _, e2) = bind_ok (sized o 32 (WrongBuffer SecretOutput)) _ _ e1 in
    let (_, _, e3) = bind_ok (areas_fit a b) _ _ e2 in
    let (_, _, e4) = bind_ok (sized (length key) (key_length s) (WrongInput First (length key))) _ _ e3 in
    let (_, l, _) = bind_ok (sized (length m) (s.code.shape.kappa / 8) (WrongInput Second (length m))) _ _ e4 in
    sized_ok (length m) (s.code.shape.kappa / 8) (WrongInput Second (length m)) l

-- a seal that is not refused, taken apart
pub seal_parts : (C : Book) (s : Set) (key m : List ℕ) (it : Sealed) → Seals C s key m it → SealParts C s key m it
seal_parts C s key m it w =
    let (_, checks, e1) = bind_ok (seal_checks s w.parcel_buffer w.secret_buffer w.secret_words w.product_words key m) _ _ w.wrote in
    let (a, ea, e2) = bind_ok (public_polynomial C s (key_seed key)) _ _ (lift_ok (sealing C s key m) it e1) in
    let (parcel, ep, e3) = bind_ok (encrypted C s a (key_b s key) key m) _ _ e2 in
    let (r, er, e4) = bind_ok (secret_positions C s (station_seed m key)) _ _ ep in
    let same-it : both parcel (secret_from (l_of m key) parcel) ≡ it = ok_same e3 in
    let same-parcel : parcel ≡ it.parcel = ap (λ (y : Sealed). y.parcel) same-it in
    record {
      a = a;
      r = r;
      polynomial = ea;
      positions = er;
      message = checked_message s w.parcel_buffer w.secret_buffer w.secret_words w.product_words key m checks;
      parcel = ok_same e4 ∙ same-parcel;
      secret = ap (secret_from (l_of m key)) (sym same-parcel) ∙ ap (λ (y : Sealed). y.secret) same-it;
    }

-- what the key of two seeds was made of
pub record KeyParts (B : Book) (s : Set) (σ seed key : List ℕ) : Type 0 where
  pub a : List ℕ
  pub x : List ℕ
  pub polynomial : public_polynomial B s σ ≡ Ok a
  pub positions : secret_positions B s seed ≡ Ok x
  pub made : key_from s σ a x ≡ key

-- the key of two seeds, taken apart
pub key_parts : (B : Book) (s : Set) (σ seed key : List ℕ) → key_of B s σ seed ≡ Ok key → KeyParts B s σ seed key
key_parts B s σ seed key e =
    let (a, ea, e1) = bind_ok (public_polynomial B s σ) _ _ e in
    let (x, ex, e2) = bind_ok (secret_positions B s seed) _ _ e1 in
    record { a = a; x = x; polynomial = ea; positions = ex; made = ok_same e2 }

-- 32 bytes of at least as many
pub length_part : (i : ℕ) (xs : List ℕ) → i + 32 ≤ length xs → length (take 32 (drop i xs)) ≡ 32
length_part i xs h = length-take-le 32 (drop i xs) (omega (arith, length-drop i xs))

length_sealing_bytes : (m key : List ℕ) → length (sealing_bytes m key) ≡ 96
unfolding sealing_bytes
length_sealing_bytes m key = length_shake256 (0x10 ∷ (m ++ key)) 96

-- the tag has 32 bytes
pub length_tag : (m key : List ℕ) → length (tag_of m key) ≡ 32
length_tag m key = length_part 32 (sealing_bytes m key) (omega (arith, length_sealing_bytes m key))

-- and so has the seed of the station's secret
pub length_station_seed : (m key : List ℕ) → length (station_seed m key) ≡ 32
length_station_seed m key = length_part 64 (sealing_bytes m key) (omega (arith, length_sealing_bytes m key))
