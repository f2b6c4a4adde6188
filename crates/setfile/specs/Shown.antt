-- The bytes that tell a fault of a set file.
use Rattle.std.specs.Prelude.{ℕ, List, ◌++◌, codes, decimal}
use Rattle.setfile.specs.declared.field.Number.{Number}
use Rattle.setfile.specs.declared.field.Number.TheVariants.{RingSize, Weight, Qb, Pb, Tb, Payload, Flips}
use Rattle.setfile.specs.declared.field.Field.{Field}
use Rattle.setfile.specs.declared.field.Field.TheVariants.{Scalar, Lengths, Block}
use Rattle.setfile.specs.declared.fault.Wrong.{Wrong}
use Rattle.setfile.specs.declared.fault.Wrong.TheVariants.{NoField, NoNumber, TooLarge, NoMark, Twice}
use Rattle.setfile.specs.declared.fault.Fault.{Fault}
use Rattle.setfile.specs.declared.fault.Fault.TheVariants.{Line, Missing}

-- the name of a number in a set file
abbrev pub number_name : Number → List ℕ
number_name RingSize = codes "n"
number_name Weight = codes "h"
number_name Qb = codes "qb"
number_name Pb = codes "pb"
number_name Tb = codes "tb"
number_name Payload = codes "kappa"
number_name Flips = codes "f"

-- the name of a field in a set file
abbrev pub field_name : Field → List ℕ
field_name (Scalar number) = number_name number
field_name Lengths = codes "lengths"
field_name Block = codes "block"

-- what is wrong with a line, in words
abbrev pub wrong_words : Wrong → List ℕ
wrong_words NoField = codes "no field of a set stands here"
wrong_words NoNumber = codes "a number is wanted here"
wrong_words TooLarge = codes "a number is above 65535"
wrong_words NoMark = codes "block is yes or no"
wrong_words (Twice field) = field_name field ++ codes " stands twice"

-- the line that tells a fault
abbrev pub fault_line : Fault → List ℕ
fault_line (Line line wrong) = codes "line " ++ (decimal line ++ (codes ": " ++ wrong_words wrong))
fault_line (Missing number) = number_name number ++ codes " is missing"
