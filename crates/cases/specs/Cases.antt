-- The worked cases. Set T: n 10, h 2, qb 8, pb 6, tb 3, κ 8, f 0; so q 256, p 64, t 8, h1 2, h2 18.
use Rattle.std.specs.Prelude.{◌≡◌, ℕ, true, false, List, [], ◌∷◌, pos, negsuc, Ok, Err}
use Rattle.source.specs.declared.SourceFault.TheVariants as Source
use Rattle.params.specs.Checks.{SharesTwo}
use Rattle.params.specs.declared.shape.Shape.{Shape}
use Rattle.params.specs.declared.set.Set.{Set}
use Rattle.sampler.specs.Expanded.{expanded_secret}
use Rattle.ring.specs.Lists.{listed}
use Rattle.ring.specs.Cyclic.{reduced}
use Rattle.ring.specs.Worked.{worked_cyclic}
use Rattle.rounding.specs.Worked.{worked_moduli}
use Rattle.rounding.specs.Rounding.{h1, h2, rounded, in_band}
use Rattle.rounding.specs.Symbols.{rounded_product, symbols, out_of_band}
use Rattle.noise.specs.Bounds.{noise_bound}
use Rattle.noise.specs.Ends.{station_cross, till_cross, raw_read}
use Rattle.noise.specs.Worked.{worked_polynomial, worked_till, worked_station, worked_bits, worked_noise}
use Rattle.pack.specs.Packing.{packed}
use Rattle.pack.specs.Trips.{worked_u, worked_v, worked_bytes}
use Rattle.code.specs.Words.{code_word}
use Rattle.code.specs.Correcting.{corrected_message}
use Rattle.calls.specs.Areas.{area_words}
use Rattle.calls.specs.Chains.{Book}
use Rattle.calls.specs.Numbers.{refusal_numbers}
use Rattle.calls.specs.declared.refusal.Refusal.TheVariants.{Short}
use Rattle.lab.specs.Lab.{read_checks, raw_read as raw_read_answer}

-- bytes that a secret of T expands from: the first value is too large, the third finds its position taken
abbrev pub secret_bytes : List ℕ
secret_bytes = 0xfa ∷ 0xff ∷ 0x00 ∷ 0x00 ∷ 0x00 ∷ 0x00 ∷ 0xf9 ∷ 0xff ∷ []

-- a tape of the first six of them: its list for every label and seed
abbrev pub short_tape : Book
short_tape label seed = 0xfa ∷ 0xff ∷ 0x00 ∷ 0x00 ∷ 0x00 ∷ 0x00 ∷ []

-- a code of 8 payload bits with two checks, for T with n = 16 and f = 1
abbrev pub two_checks : ℕ → ℕ → Shape
two_checks first second = record { kappa = 8; f = 1; block = false; lengths = first ∷ second ∷ 0 ∷ 0 ∷ 0 ∷ 0 ∷ 0 ∷ 0 ∷ 0 ∷ 0 ∷ [] }

-- the code word of 80 (hexadecimal) with checks of 3 and 4: 10000000 100 1000; and the same with bit 5 flipped
abbrev pub word_of_80 : List ℕ
word_of_80 = 1 ∷ 0 ∷ 0 ∷ 0 ∷ 0 ∷ 0 ∷ 0 ∷ 0 ∷ 1 ∷ 0 ∷ 0 ∷ 1 ∷ 0 ∷ 0 ∷ 0 ∷ []

abbrev pub bit_5_flipped : List ℕ
bit_5_flipped = 1 ∷ 0 ∷ 0 ∷ 0 ∷ 0 ∷ 1 ∷ 0 ∷ 0 ∷ 1 ∷ 0 ∷ 0 ∷ 1 ∷ 0 ∷ 0 ∷ 0 ∷ []

pub record WorkedCases : Type 0 where
  pub first_constant : h1 worked_moduli ≡ 2
  pub second_constant : h2 worked_moduli ≡ 18
  -- rounding takes 1 to 0, 2 to 1, 253 to 63, 254 to 0
  pub rounds_1 : rounded worked_moduli 1 ≡ 0
  pub rounds_2 : rounded worked_moduli 2 ≡ 1
  pub rounds_253 : rounded worked_moduli 253 ≡ 63
  pub rounds_254 : rounded worked_moduli 254 ≡ 0
  -- +1 at 0 and -1 at 9
  pub secret : expanded_secret 10 2 secret_bytes ≡ Ok (0 ∷ 9 ∷ [])
  -- a raw read over the short tape is refused with 17: label 2, entry 1, bytes 6
  pub runs_short : (s : Set) (parcel seed : List ℕ) → s.n ≡ 10 → s.h ≡ 2
      → read_checks s s.code.mu area_words area_words parcel seed ≡ Ok tt
      → raw_read_answer short_tape s s.code.mu area_words area_words parcel seed
      ≡ Err (Short (record { source = Source.Short; label = 2; entry = 1; bytes = 6 }))
  pub short_numbers : refusal_numbers (Short (record { source = Source.Short; label = 2; entry = 1; bytes = 6 })) ≡ 17 ∷ 2 ∷ 1 ∷ 6 ∷ []
  -- a = 3, 1, then zeros, times that secret: 3, 1, seven zeros, -3, -1; reduced 4, 2, seven ones, -2; rounded 1, 1, then zeros
  pub cyclic_product : listed 11 worked_cyclic ≡ pos 3 ∷ pos 1 ∷ pos 0 ∷ pos 0 ∷ pos 0 ∷ pos 0 ∷ pos 0 ∷ pos 0 ∷ pos 0 ∷ negsuc 2 ∷ negsuc 0 ∷ []
  pub reduced_product : listed 10 (reduced 10 worked_cyclic) ≡ pos 4 ∷ pos 2 ∷ pos 1 ∷ pos 1 ∷ pos 1 ∷ pos 1 ∷ pos 1 ∷ pos 1 ∷ pos 1 ∷ negsuc 1 ∷ []
  pub b : rounded_product worked_moduli 10 worked_polynomial worked_till ≡ 1 ∷ 1 ∷ 0 ∷ 0 ∷ 0 ∷ 0 ∷ 0 ∷ 0 ∷ 0 ∷ 0 ∷ []
  -- the station's secret is +1 at 1, -1 at 2: u is 1 at position 1 only
  pub u : rounded_product worked_moduli 10 worked_polynomial worked_station ≡ 0 ∷ 1 ∷ 0 ∷ 0 ∷ 0 ∷ 0 ∷ 0 ∷ 0 ∷ 0 ∷ 0 ∷ []
  pub x_station : station_cross worked_moduli 10 worked_polynomial worked_till worked_station ≡ 0 ∷ 1 ∷ 0 ∷ 63 ∷ 0 ∷ 0 ∷ 0 ∷ 0 ∷ 0 ∷ 0 ∷ 0 ∷ []
  pub x_till : till_cross worked_moduli 10 worked_polynomial worked_till worked_station ≡ 0 ∷ 1 ∷ 0 ∷ 0 ∷ 0 ∷ 0 ∷ 0 ∷ 0 ∷ 0 ∷ 0 ∷ 63 ∷ []
  -- the message A5 (hexadecimal): its symbols, u and v packed, and the raw bits
  pub symbols_of_a5 : symbols worked_moduli (station_cross worked_moduli 10 worked_polynomial worked_till worked_station) worked_bits ≡ worked_v
  pub packs : packed 6 worked_u 3 worked_v ≡ worked_bytes
  pub raw_bits_of_a5 : raw_read worked_moduli 10 worked_polynomial worked_till worked_station worked_bits ≡ worked_bits
  -- the noise: 8, 4, then six times 8; none is out of band; the bound is 24; -q/4 is in band, q/4 is not
  pub noise : worked_noise ≡ pos 8 ∷ pos 4 ∷ pos 8 ∷ pos 8 ∷ pos 8 ∷ pos 8 ∷ pos 8 ∷ pos 8 ∷ []
  pub none_out : out_of_band worked_moduli worked_noise ≡ 0
  pub bound : noise_bound worked_moduli 2 ≡ 24
  pub lowest_in_band : in_band worked_moduli (negsuc 63) ≡ true
  pub first_out : in_band worked_moduli (pos 64) ≡ false
  -- checks of 3 and 4
  pub codes : code_word (two_checks 3 4) (0x80 ∷ []) ≡ word_of_80
  pub corrects : corrected_message (two_checks 3 4) bit_5_flipped ≡ 0x80 ∷ []
  -- checks of 2 and 4: the positions 0 and 4 share both
  pub shares : SharesTwo (two_checks 2 4) 0 4
