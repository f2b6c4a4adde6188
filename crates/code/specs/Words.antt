-- Code words: the payload of a message, then its check bits.
use Rattle.std.specs.Prelude.{◌≡◌, ℕ, zero, suc, ◌+◌, ◌-◌, ◌*◌, ◌/◌, ◌%◌, ◌^◌, ◌<◌, not, List, [], ◌++◌, map, length, ◌==◌, slice_index}
use Rattle.std.specs.List.{range_with_len}
use Rattle.params.specs.Sums.{sum, bit}
use Rattle.params.specs.Checks.{check_length, check_start, place_of}
use Rattle.params.specs.declared.shape.Shape.{Shape}

-- each entry is a byte
abbrev pub Bytes : List ℕ → Type 0
Bytes m = (i : ℕ) → i < length m → slice_index m i < 256

-- the first n entries are bits
abbrev pub FirstBits : ℕ → List ℕ → Type 0
FirstBits n w = (i : ℕ) → i < n → slice_index w i < 2

-- each entry is a bit
abbrev pub Bits : List ℕ → Type 0
Bits w = FirstBits (length w) w

-- the first n entries of two words are the same
abbrev pub Agree : ℕ → List ℕ → List ℕ → Type 0
Agree n w u = (i : ℕ) → i < n → slice_index w i ≡ slice_index u i

-- message bit k is bit 7 - (k modulo 8) of byte k/8
abbrev pub message_bit : List ℕ → ℕ → ℕ
message_bit m k = slice_index m (k / 8) / 2 ^ (7 - k % 8) % 2

-- the payload of a message: its first κ bits
abbrev pub payload : Shape → List ℕ → List ℕ
payload s m = map (message_bit m) (range_with_len 0 s.kappa)

-- the parity of the payload bits at place l of check j, where the payload stands at the front of w
abbrev pub parity : Shape → List ℕ → ℕ → ℕ → ℕ
parity s w j l = sum s.kappa (λ k. slice_index w k * bit (place_of s j k == l)) % 2

-- the bits of check j
abbrev pub check_bits : Shape → List ℕ → ℕ → List ℕ
check_bits s w j = map (parity s w j) (range_with_len 0 (check_length s j))

-- the bits of the first n checks, one check after the other
unfoldable pub checks : Shape → List ℕ → ℕ → List ℕ
checks s w zero = []
checks s w (suc n) = checks s w n ++ check_bits s w n

-- the code word of a message: the payload, then the bits of all checks
unfoldable pub code_word : Shape → List ℕ → List ℕ
code_word s m = payload s m ++ checks s (payload s m) (2 * s.f)

-- all checks of a word hold: each check bit is the parity of the payload bits at its place
abbrev pub Checked : Shape → List ℕ → Type 0
Checked s w = (j l : ℕ) → j < 2 * s.f → l < check_length s j → slice_index w (check_start s j + l) ≡ parity s w j l

-- where check j begins among the check bits of a word
abbrev pub check_offset : Shape → ℕ → ℕ
check_offset s j = sum j (check_length s)

-- bit l of check j, among the check bits c, with the payload bits of p at its place added to it, modulo 2
abbrev pub added : Shape → (p c : List ℕ) → ℕ → ℕ → ℕ
added s p c j l = (slice_index c (check_offset s j + l) + parity s p j l) % 2

-- d has the first n checks of the check bits c with the payload p added
abbrev pub PayloadAdded : Shape → ℕ → (p c d : List ℕ) → Type 0
PayloadAdded s n p c d = (j l : ℕ) → j < n → l < check_length s j → slice_index d (check_offset s j + l) ≡ added s p c j l

-- 1 where two words differ, else 0
abbrev pub flip : List ℕ → List ℕ → ℕ → ℕ
flip w v i = bit (not (slice_index w i == slice_index v i))

-- in how many places two words of one length differ
abbrev pub distance : List ℕ → List ℕ → ℕ
distance w v = sum (length w) (flip w v)
