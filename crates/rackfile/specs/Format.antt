-- A rack file, written and read.
use Rattle.std.specs.Prelude.{◌≡◌, ℕ, cond, not, List, [], ◌∷◌, ◌++◌, length, take, drop, Ok, Err, codes, Result, ◌==◌, ◌≢◌, slice_index}
use Rattle.std.specs.Str.{bytes_eq}
use Rattle.params.specs.Limits.{most_checks}
use Rattle.params.specs.Sums.{bit}
use Rattle.shake.specs.Shake.{shake256}
use Rattle.rackfile.specs.Words.{word_bytes, words_from}
use Rattle.rack.specs.Calls.{place_count}
use Rattle.rackfile.specs.Places.{places_bytes, places_from, WholePlaces}
use Rattle.rackfile.specs.declared.image.Image.{Image}
use Rattle.rackfile.specs.Sets.{KeptNumbers}
use Rattle.rackfile.specs.declared.fault.RackFault.{RackFault}
use Rattle.rackfile.specs.declared.fault.RackFault.TheVariants.{Length, NoRack, Damaged}

-- how many bytes a rack file has
abbrev pub file_size : ℕ
file_size = 463

-- what a rack file begins with
abbrev pub letters : List ℕ
letters = codes "sealrack"

-- the numbers of a set in their order, without the check lengths
abbrev pub scalars : KeptNumbers → List ℕ
scalars s = s.n ∷ s.h ∷ s.qb ∷ s.pb ∷ s.tb ∷ s.kappa ∷ s.f ∷ []

-- seven words, the block mark, and a word for each check
abbrev pub number_bytes : KeptNumbers → List ℕ
number_bytes s = word_bytes (scalars s) ++ (bit s.block ∷ word_bytes s.lengths)

-- all but the checksum
unfoldable pub body_bytes : Image → List ℕ
body_bytes x = letters ++ (number_bytes x.numbers ++ places_bytes x.places)

-- what shows damage: the first 32 bytes of SHAKE256 of a label and the body
unfoldable pub checksum_of : List ℕ → List ℕ
checksum_of body = shake256 (0x52 ∷ body) 32

-- the bytes of a rack file
unfoldable pub encoded : Image → List ℕ
encoded x = body_bytes x ++ checksum_of (body_bytes x)

-- the numbers that stand in 35 bytes, whatever they are
abbrev pub numbers_from : List ℕ → KeptNumbers
numbers_from bs =
    let ws = words_from (take 14 bs) in
    record {
      n = slice_index ws 0;
      h = slice_index ws 1;
      qb = slice_index ws 2;
      pb = slice_index ws 3;
      tb = slice_index ws 4;
      kappa = slice_index ws 5;
      f = slice_index ws 6;
      block = not (slice_index bs 14 == 0);
      lengths = words_from (take 20 (drop 15 bs));
    }

-- what stands in the bytes of a rack file, whatever they are
unfoldable pub image_from : List ℕ → Image
image_from bs = record { numbers = numbers_from (take 35 (drop 8 bs)); places = places_from place_count (take 388 (drop 43 bs)) }

-- an image, if these are the bytes that are written for it
abbrev pub confirmed : Image → List ℕ → Result Image RackFault
confirmed x bs = cond (bytes_eq (encoded x) bs) (Ok x) (Err Damaged)

-- what the bytes of a file say
abbrev pub decoded : List ℕ → Result Image RackFault
decoded bs =
    cond (length bs == file_size)
    (cond (bytes_eq (take 8 bs) letters) (confirmed (image_from bs) bs) (Err NoRack))
    (Err (Length (length bs)))

-- the lengths that the type of an image gives; how large its numbers are does not matter
pub record Whole (x : Image) : Type 0 where
  pub lengths : length x.numbers.lengths ≡ most_checks
  pub count : length x.places ≡ place_count
  pub places : WholePlaces x.places

-- no image is written so
abbrev pub NeverWritten : List ℕ → Type 0
NeverWritten bs = (x : Image) → Whole x → encoded x ≢ bs
