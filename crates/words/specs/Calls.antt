-- The bytes that tell why a call was refused: its number, its values, and one plain sentence.
use Rattle.std.specs.Prelude.{ℕ, List, [], ◌∷◌, ◌++◌, codes, decimal}
use Rattle.wire.specs.Faults.{fault_numbers}
use Rattle.wire.specs.declared.fault.WireFault.{WireFault}
use Rattle.wire.specs.declared.fault.WireFault.TheVariants.{Length, Kind, Fill}
use Rattle.calls.specs.Numbers.{refusal_numbers}
use Rattle.calls.specs.declared.refusal.Buffer.{Buffer}
use Rattle.calls.specs.declared.refusal.Buffer.TheVariants.{Output, SecretOutput, SecretArea, ProductArea}
use Rattle.calls.specs.declared.refusal.Refusal.{Refusal}
use Rattle.calls.specs.declared.refusal.Refusal.TheVariants.{NoSuchPlace, EmptyPlace, PlaceInUse, WrongBuffer, WrongInput, Form, Short}

-- what is wrong with a buffer
abbrev pub buffer_words : Buffer → List ℕ
buffer_words Output = codes "the room for the output has a wrong length"
buffer_words SecretOutput = codes "the room for the secret has a wrong length"
buffer_words SecretArea = codes "the secret area has a wrong length"
buffer_words ProductArea = codes "the product area has a wrong length"

-- numbers, each behind a space, and then a text
abbrev pub behind_spaces : List ℕ → List ℕ → List ℕ
behind_spaces [] text = text
behind_spaces (x ∷ xs) text = codes " " ++ (decimal x ++ behind_spaces xs text)

-- a line: the word, the numbers of a refusal, and a sentence
abbrev pub line_of : List ℕ → List ℕ → List ℕ
line_of numbers words = codes "refused" ++ behind_spaces numbers (codes ": " ++ words)

-- the sentence of a fault in the bytes of a key or parcel
abbrev pub form_words : WireFault → List ℕ
form_words (Length had) = codes "an input has a wrong length"
form_words (Kind byte) = codes "the kind byte is wrong"
form_words Fill = codes "a fill bit is not zero"

abbrev pub form_line : WireFault → List ℕ
form_line fault = line_of (fault_numbers fault) (form_words fault)

-- the sentence of a refusal
abbrev pub call_words : Refusal → List ℕ
call_words (NoSuchPlace place) = codes "a rack has the places 0 to 3"
call_words (EmptyPlace place) = codes "the place is empty"
call_words (PlaceInUse place) = codes "the place is in use"
call_words (WrongBuffer buffer) = buffer_words buffer
call_words (WrongInput input long) = codes "an input has a wrong length"
call_words (Form fault) = form_words fault
call_words (Short fault) = codes "too few bytes are left"

-- the line of a refusal has exactly its number and its values
abbrev pub call_line : Refusal → List ℕ
call_line e = line_of (refusal_numbers e) (call_words e)
