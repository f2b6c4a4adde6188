-- The lists, place by place, and what words that hold a product stand for.
use Rattle.std.proofs.Common.{◌≡◌, ℕ, ◌+◌, ◌%◌, ◌^◌, ◌<◌, ◌≤◌, ltb, List, length, get_or, ℤ, pos, ◌-ℤ◌, sym, ap, ◌∙◌, ap₂, inl, inr, mod-eq_of_lt, arith, lit<, pow_pos}
use Rattle.std.proofs.lemmas.List.{get_or_past}
use Rattle.std.proofs.lemmas.Bool.{cases_lt, cond-false, le-ltb}
use Rattle.params.specs.Sizes.{q, p}
use Rattle.params.specs.declared.moduli.Moduli.{Moduli}
use Rattle.ring.specs.Words.{sub16}
use Rattle.ring.specs.Lists.{listed, whole, signed}
use Rattle.ring.specs.Cyclic.{cyclic, mod_z, cyclic_words}
use Rattle.ring.proofs.Congruences.{mod_z_sub, mod_z_cut}
use Rattle.ring.proofs.Listing.{length_listed, get_d_listed, listed_by}
use Rattle.ring.proofs.CyclicLaws.{reduced_is}
use Rattle.ring.proofs.Bridge.{length_cyclic_words, get_d_cyclic_words}
use Rattle.rounding.specs.Rounding.{rounded, symbol, raw_bit, slip, noise}
use Rattle.rounding.proofs.Sizes.{rounded_zero, slip_zero}
use Rattle.rounding.specs.Symbols.{residue, rounded_product, slips, cross_product, symbols, raw_bits, noises}

-- ---- lengths and places
residue_past : (M : Moduli) (n : ℕ) (a s : List ℕ) (i : ℕ) → n ≤ i → residue M n a s i ≡ 0
residue_past M n a s i le = ap (mod_z (q M)) (cond-false (ltb i n) _ _ (le-ltb i n le)) ∙ mod-eq_of_lt (pow_pos M.qb)

pub length_rounded_product : (M : Moduli) (n : ℕ) (a s : List ℕ) → length (rounded_product M n a s) ≡ n
unfolding rounded_product
length_rounded_product M n a s = length_listed n _

-- what is made of each residue, at any place: past the end the residue is 0
get_d_residues : {Y : Type 0} (M : Moduli) (f : ℕ → Y) (d : Y) → f 0 ≡ d → (n : ℕ) (a s : List ℕ) (i : ℕ) → get_or (listed n (λ j. f (residue M n a s j))) i d ≡ f (residue M n a s i)
get_d_residues M f d none n a s i = elim (cases_lt i n) [
  | inl lt ↦ get_d_listed n _ i d lt
  | inr le ↦ get_or_past (listed n (λ j. f (residue M n a s j))) i d (omega (arith, length_listed n (λ j. f (residue M n a s j)))) ∙ sym (ap f (residue_past M n a s i le) ∙ none)
]

pub get_d_rounded_product : (M : Moduli) (n : ℕ) (a s : List ℕ) (i : ℕ) → get_or (rounded_product M n a s) i 0 ≡ rounded M (residue M n a s i)
unfolding rounded_product
get_d_rounded_product M = get_d_residues M (rounded M) 0 (rounded_zero M)

pub length_slips : (M : Moduli) (n : ℕ) (a s : List ℕ) → length (slips M n a s) ≡ n
unfolding slips
length_slips M n a s = length_listed n _

pub get_d_slips : (M : Moduli) (n : ℕ) (a s : List ℕ) (i : ℕ) → get_or (slips M n a s) i (pos 0) ≡ slip M (residue M n a s i)
unfolding slips
get_d_slips M = get_d_residues M (slip M) (pos 0) (slip_zero M)

pub length_cross_product : (M : Moduli) (n : ℕ) (b r : List ℕ) → length (cross_product M n b r) ≡ n + 1
unfolding cross_product
length_cross_product M n b r = length_listed (n + 1) _

pub get_d_cross_product : (M : Moduli) (n : ℕ) (b r : List ℕ) (i d : ℕ) → i ≤ n → get_or (cross_product M n b r) i d ≡ mod_z (p M) (cyclic (n + 1) (whole b) r i)
unfolding cross_product
get_d_cross_product M n b r i d le = get_d_listed (n + 1) _ i d (omega arith)

pub length_symbols : (M : Moduli) (xs bits : List ℕ) → length (symbols M xs bits) ≡ length bits
unfolding symbols
length_symbols M xs bits = length_listed (length bits) _

pub get_d_symbols : (M : Moduli) (xs bits : List ℕ) (i d : ℕ) → i < length bits → get_or (symbols M xs bits) i d ≡ symbol M (get_or xs i 0) (get_or bits i 0)
unfolding symbols
get_d_symbols M xs bits i d lt = get_d_listed (length bits) _ i d lt

pub length_raw_bits : (M : Moduli) (vs xs : List ℕ) → length (raw_bits M vs xs) ≡ length vs
unfolding raw_bits
length_raw_bits M vs xs = length_listed (length vs) _

pub get_d_raw_bits : (M : Moduli) (vs xs : List ℕ) (i d : ℕ) → i < length vs → get_or (raw_bits M vs xs) i d ≡ raw_bit M (get_or vs i 0) (get_or xs i 0)
unfolding raw_bits
get_d_raw_bits M vs xs i d lt = get_d_listed (length vs) _ i d lt

pub length_noises : (M : Moduli) (μ : ℕ) (e f : List ℤ) (xs : List ℕ) → length (noises M μ e f xs) ≡ μ
unfolding noises
length_noises M μ e f xs = length_listed μ _

pub get_d_noises : (M : Moduli) (μ : ℕ) (e f : List ℤ) (xs : List ℕ) (i : ℕ) (d : ℤ) → i < μ → get_or (noises M μ e f xs) i d ≡ noise M (signed e i -ℤ signed f i) (get_or xs i 0)
unfolding noises
get_d_noises M μ e f xs i d lt = get_d_listed μ _ i d lt

-- ---- words that hold a product
module _ (M : Moduli) (n : ℕ) (a s ws : List ℕ) (e : ws ≡ cyclic_words n a s) where
  word_is : (i : ℕ) → i ≤ n → get_or ws i 0 ≡ mod_z (2 ^ 16) (cyclic (n + 1) (whole a) s i)
  word_is i le = ap (λ vs. get_or vs i 0) e ∙ get_d_cyclic_words n a s i 0 le

  -- the reduced product modulo q
  residue_is : (i : ℕ) → i ≤ n → sub16 (get_or ws i 0) (get_or ws n 0) % q M ≡ residue M n a s i
  residue_is i le =
      let f = cyclic (n + 1) (whole a) s in
      ap₂ (λ x y. sub16 x y % q M) (word_is i le) (word_is n (omega arith))
      ∙ ap (λ x. x % q M) (sym (mod_z_sub (2 ^ 16) (lit< tt) (f i) (f n)))
      ∙ mod_z_cut 16 M.qb (omega arith) (f i -ℤ f n)
      ∙ ap (mod_z (q M)) (sym (reduced_is n f i (omega arith)))

  -- the cyclic product modulo p
  cross_is : (i : ℕ) → i ≤ n → get_or ws i 0 % p M ≡ get_or (cross_product M n a s) i 0
  cross_is i le =
      ap (λ x. x % p M) (word_is i le)
      ∙ mod_z_cut 16 M.pb (omega arith) (cyclic (n + 1) (whole a) s i)
      ∙ sym (get_d_cross_product M n a s i 0 le)

  long : length ws ≡ n + 1
  long = ap length e ∙ length_cyclic_words n a s

  -- a list with f of each coefficient of the reduced product
  pub reduced_list : {Y : Type 0} (f : ℕ → Y) (ys : List Y) (d : Y) (m : ℕ) → length ys ≡ m → length ws ≡ m + 1
      → ((k : ℕ) → k < m → get_or ys k d ≡ f (sub16 (get_or ws k 0) (get_or ws m 0) % q M)) → ys ≡ listed n (λ i. f (residue M n a s i))
  reduced_list f ys d m same room each =
      let whole_length = long in
      let m-is : m ≡ n = omega arith in
      listed_by n _ ys d (omega arith) (λ k lt.
      each k (omega arith) ∙ ap (λ l. f (sub16 (get_or ws k 0) (get_or ws l 0) % q M)) m-is ∙ ap f (residue_is k (omega arith)))

  -- a list with f of each place and the coefficient of the cyclic product there
  pub crossed_list : {Y : Type 0} (f : ℕ → ℕ → Y) (ys : List Y) (d : Y) (m : ℕ) → length ys ≡ m → m ≤ length ws
      → ((k : ℕ) → k < m → get_or ys k d ≡ f k (get_or ws k 0 % p M)) → ys ≡ listed m (λ i. f i (get_or (cross_product M n a s) i 0))
  crossed_list f ys d m same room each =
      let whole_length = long in
      listed_by m _ ys d same (λ k lt. each k lt ∙ ap (f k) (cross_is k (omega arith)))
