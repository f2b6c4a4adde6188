-- The laws of code words: their length, their payload and their check bits.
use Rattle.std.proofs.Common.{◌≡◌, ℕ, zero, suc, ◌+◌, ◌-◌, ◌*◌, ◌%◌, ◌<◌, ◌≤◌, eqb, List, length, get_or, sym, refl, ap, ◌∙◌, subst, ap₂, inl, inr, add-one, arith}
use Rattle.std.proofs.lemmas.Grind.{common_steps}
use Rattle.std.proofs.lemmas.List.FromFn.{length-map-range_with_len, get_or-map-range_with_len}
use Rattle.std.proofs.lemmas.List.{length-append, get_or_append_left, get_or-append_right, get_or-append-add, ext_get_or}
use Rattle.std.proofs.lemmas.Bool.{cases_eq, cases_lt}
use Rattle.params.specs.Sums.{sum, bit}
use Rattle.params.specs.Checks.{check_length, check_start, symbol_count, place_of}
use Rattle.params.specs.declared.shape.Shape.{Shape}
use Rattle.params.proofs.Sums.{sum_none, sum_more, sum_same}
use Rattle.code.specs.Words.{Bits, Agree, message_bit, payload, parity, check_bits, checks, code_word, check_offset, Checked}
use Rattle.code.proofs.Sums.{sum_upto}

pub start_none : (s : Shape) → check_start s 0 ≡ s.kappa
start_none s = omega (arith, sum_none (check_length s))

pub start_more : (s : Shape) (j : ℕ) → check_start s (j + 1) ≡ check_start s j + check_length s j
start_more s j = omega (arith, sum_more j (check_length s))

-- check j ends before the first n checks do
pub check_within : (s : Shape) (j n : ℕ) → j < n → check_start s j + check_length s j ≤ check_start s n
check_within s j n h = omega (arith, sum_more j (check_length s), sum_upto (j + 1) n (check_length s) (omega arith))

-- what holds of the checks' places holds of each place among the check bits of a word
pub each_check : (s : Shape) (n : ℕ) (P : ℕ → Type 0) → ((j l : ℕ) → j < n → l < check_length s j → P (check_offset s j + l)) → (i : ℕ) → i < check_offset s n → P i
each_check s zero P all i h = absurd (omega (arith, sum_none (check_length s)))
each_check s (suc n) P all i h = elim (cases_lt i (check_offset s n)) [
  | inl lt ↦ each_check s n P (λ j l hj hl. all j l (omega arith) hl) i lt
  | inr ge ↦ (
      let e : check_offset s n + (i - check_offset s n) ≡ i = omega arith in
      subst P e (all n (i - check_offset s n) (omega arith) (omega (arith, ap (check_offset s) (add-one n), sum_more n (check_length s)))))
]

-- what holds of the payload's places and of the checks' holds of each place of a word
pub each_place : (s : Shape) (P : ℕ → Type 0) → ((k : ℕ) → k < s.kappa → P k) → ((j l : ℕ) → j < 2 * s.f → l < check_length s j → P (check_start s j + l))
    → (i : ℕ) → i < symbol_count s → P i
each_place s P front back i h = elim (cases_lt i s.kappa) [
  | inl lt ↦ front i lt
  | inr ge ↦ (
      let e : s.kappa + (i - s.kappa) ≡ i = omega arith in
      let at = λ (j l : ℕ) (hj : j < 2 * s.f) (hl : l < check_length s j). let o : check_start s j + l ≡ s.kappa + (check_offset s j + l) = omega arith in subst P o (back j l hj hl) in
      subst P e (each_check s (2 * s.f) (λ o. P (s.kappa + o)) at (i - s.kappa) (omega arith)))
]

-- the parity depends on the payload alone
pub parity_same : (s : Shape) (w u : List ℕ) → Agree s.kappa w u → (j l : ℕ) → parity s w j l ≡ parity s u j l
parity_same s w u h j l = ap (λ n. n % 2) (sum_same s.kappa _ _ (λ k lt. ap (λ n. n * bit (eqb (place_of s j k) l)) (h k lt)))

checks_length : (s : Shape) (w : List ℕ) (n : ℕ) → length (checks s w n) ≡ sum n (check_length s)
unfolding checks sum
checks_length s w zero = refl
checks_length s w (suc n) = length-append (checks s w n) (check_bits s w n) ∙ ap₂ (λ x y. x + y) (checks_length s w n) (length-map-range_with_len (parity s w n) 0 (check_length s n))

checks_at : (s : Shape) (w : List ℕ) (n j l : ℕ) → j < n → l < check_length s j → get_or (checks s w n) (sum j (check_length s) + l) 0 ≡ parity s w j l
unfolding checks
checks_at s w zero j l hj hl = absurd (omega arith)
checks_at s w (suc n) j l hj hl = elim (cases_eq j n) [
  | inl e ↦ grind (arith, common_steps, checks_length s w n, get_or-append-add (checks s w n) (check_bits s w n) l 0, get_or-map-range_with_len (parity s w n) 0 (check_length s n) l l 0)
  | inr ne ↦ grind (arith, common_steps, checks_length s w n, check_within s j n, checks_at s w n j l)
]

payload_length : (s : Shape) (m : List ℕ) → length (payload s m) ≡ s.kappa
payload_length s m = length-map-range_with_len (message_bit m) 0 s.kappa

payload_at : (s : Shape) (m : List ℕ) (k : ℕ) → k < s.kappa → get_or (payload s m) k 0 ≡ message_bit m k
payload_at s m k h = get_or-map-range_with_len (message_bit m) 0 s.kappa k k 0 h (omega arith)

-- a code word has one symbol for each bit of the payload and of the checks
pub code_word_length : (s : Shape) (m : List ℕ) → length (code_word s m) ≡ symbol_count s
unfolding code_word
code_word_length s m = simp (length-append, payload_length, checks_length)

-- its payload is that of the message
pub code_word_payload : (s : Shape) (m : List ℕ) (k : ℕ) → k < s.kappa → get_or (code_word s m) k 0 ≡ message_bit m k
unfolding code_word
code_word_payload s m k h = get_or_append_left (payload s m) (checks s (payload s m) (2 * s.f)) 0 k (omega (arith, payload_length s m)) ∙ payload_at s m k h

-- its checks hold
pub code_word_checked : (s : Shape) (m : List ℕ) → Checked s (code_word s m)
unfolding code_word
code_word_checked s m j l hj hl =
    let p = payload s m in
    let same = parity_same s p (code_word s m) (λ k h. payload_at s m k h ∙ sym (code_word_payload s m k h)) j l in
    let back = checks_at s p (2 * s.f) j l hj hl in
    get_or-append_right p (checks s p (2 * s.f)) s.kappa (check_start s j + l) 0 (payload_length s m) (omega arith) ∙ grind (arith, same, back)

-- and it is the only such word
pub code_word_only : (s : Shape) (m w : List ℕ) → length w ≡ symbol_count s → ((k : ℕ) → k < s.kappa → get_or w k 0 ≡ message_bit m k) → Checked s w → w ≡ code_word s m
code_word_only s m w long front back =
    let same = λ (k : ℕ) (h : k < s.kappa). front k h ∙ sym (code_word_payload s m k h) in
    ext_get_or 0 w (code_word s m) (long ∙ sym (code_word_length s m)) (λ i h.
    each_place s (λ x. get_or w x 0 ≡ get_or (code_word s m) x 0) same
    (λ j l hj hl. back j l hj hl ∙ parity_same s w (code_word s m) same j l ∙ sym (code_word_checked s m j l hj hl))
    i (omega arith))

-- each symbol of a code word is a bit
pub code_word_bits : (s : Shape) (m : List ℕ) → Bits (code_word s m)
code_word_bits s m i h =
    each_place s (λ x. get_or (code_word s m) x 0 < 2)
    (λ k hk. omega (arith, code_word_payload s m k hk))
    (λ j l hj hl. omega (arith, code_word_checked s m j l hj hl))
    i (omega (arith, code_word_length s m))
