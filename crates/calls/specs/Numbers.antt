-- The number of each refusal, and its values: 13 to 20. (15 and 16 are those of a key's or parcel's bytes.)
use Rattle.std.specs.Prelude.{ℕ, List, [], ◌∷◌}
use Rattle.wire.specs.Faults.{fault_numbers}
use Rattle.calls.specs.declared.refusal.Buffer.{Buffer}
use Rattle.calls.specs.declared.refusal.Buffer.TheVariants.{Output, SecretOutput, SecretArea, ProductArea}
use Rattle.calls.specs.declared.refusal.Input.{Input}
use Rattle.calls.specs.declared.refusal.Input.TheVariants.{First, Second}
use Rattle.calls.specs.declared.refusal.Refusal.{Refusal}
use Rattle.calls.specs.declared.refusal.Refusal.TheVariants.{NoSuchPlace, EmptyPlace, PlaceInUse, WrongBuffer, WrongInput, Form, Short}

abbrev pub buffer_number : Buffer → ℕ
buffer_number Output = 1
buffer_number SecretOutput = 2
buffer_number SecretArea = 3
buffer_number ProductArea = 4

abbrev pub input_number : Input → ℕ
input_number First = 1
input_number Second = 2

abbrev pub refusal_numbers : Refusal → List ℕ
refusal_numbers (NoSuchPlace place) = 18 ∷ place ∷ []
refusal_numbers (EmptyPlace place) = 19 ∷ place ∷ []
refusal_numbers (PlaceInUse place) = 20 ∷ place ∷ []
refusal_numbers (WrongBuffer buffer) = 13 ∷ buffer_number buffer ∷ []
refusal_numbers (WrongInput input long) = 14 ∷ input_number input ∷ long ∷ []
refusal_numbers (Form fault) = fault_numbers fault
refusal_numbers (Short fault) = 17 ∷ fault.label ∷ fault.entry ∷ fault.bytes ∷ []
