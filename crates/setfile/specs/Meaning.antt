-- What a set file means, line by line.
use Rattle.std.specs.Prelude.{ℕ, ◌+◌, false, cond, List, [], ◌∷◌, replicate, is_some, Some, None, Ok, Err, codes, Option, Result, slice_index_or, slice_set}
use Rattle.std.specs.Option.{unwrap_or}
use Rattle.params.specs.declared.proposal.ProposalOf.{ProposalOf}
use Rattle.setfile.specs.Scan.{blank, before, after, parts, says}
use Rattle.setfile.specs.Values.{bind, number_of, no_lengths, lengths_of, mark_of}
use Rattle.setfile.specs.declared.field.Number.{Number}
use Rattle.setfile.specs.declared.field.Number.TheVariants.{RingSize, Weight, Qb, Pb, Tb, Payload, Flips}
use Rattle.setfile.specs.declared.field.Field.{Field}
use Rattle.setfile.specs.declared.field.Field.TheVariants.{Scalar, Lengths, Block}
use Rattle.setfile.specs.declared.field.Entry.{Entry}
use Rattle.setfile.specs.declared.field.Entry.TheVariants.{Value, List as Many, Mark}
use Rattle.setfile.specs.declared.found.Found.{Found}
use Rattle.setfile.specs.declared.field.Lengths.{Lengths as Held}
use Rattle.setfile.specs.declared.fault.Wrong.{Wrong}
use Rattle.setfile.specs.declared.fault.Wrong.TheVariants.{NoField, Twice}
use Rattle.setfile.specs.declared.fault.Fault.{Fault}
use Rattle.setfile.specs.declared.fault.Fault.TheVariants.{Line, Missing}

-- how many numbers a set has besides its check lengths
abbrev pub number_count : ℕ
number_count = 7

-- the place of a number in the table
abbrev pub place : Number → ℕ
place RingSize = 0
place Weight = 1
place Qb = 2
place Pb = 3
place Tb = 4
place Payload = 5
place Flips = 6

-- the field of a name
abbrev pub field_of : List ℕ → Option Field
field_of name =
    cond (says (codes "n") name) (Some (Scalar RingSize))
    (cond (says (codes "h") name) (Some (Scalar Weight))
    (cond (says (codes "qb") name) (Some (Scalar Qb))
    (cond (says (codes "pb") name) (Some (Scalar Pb))
    (cond (says (codes "tb") name) (Some (Scalar Tb))
    (cond (says (codes "kappa") name) (Some (Scalar Payload))
    (cond (says (codes "f") name) (Some (Scalar Flips))
    (cond (says (codes "lengths") name) (Some Lengths)
    (cond (says (codes "block") name) (Some Block)
    None))))))))

-- what a value says of a field
abbrev pub value_of : Field → List ℕ → Result Entry Wrong
value_of (Scalar which) text = bind (number_of text) (λ x. Ok (Value which x))
value_of Lengths text = bind (lengths_of text) (λ l. Ok (Many l))
value_of Block text = bind (mark_of text) (λ b. Ok (Mark b))

-- the same, where the name is a field's
abbrev pub known_of : Option Field → List ℕ → Result Entry Wrong
known_of None text = Err NoField
known_of (Some field) text = value_of field text

-- a name and the value after the equals sign, where there is one
abbrev pub named_of : List ℕ → Option (List ℕ) → Result Entry Wrong
named_of name None = Err NoField
named_of name (Some text) = known_of (field_of name) text

-- a line without its comment: blank, or a name, an equals sign (61) and a value
abbrev pub bare_of : List ℕ → Result (Option Entry) Wrong
bare_of xs = cond (blank xs) (Ok None) (bind (named_of (before 61 xs) (after 61 xs)) (λ e. Ok (Some e)))

-- what a line says, if anything; a number sign (35) begins a comment
abbrev pub line_of : List ℕ → Result (Option Entry) Wrong
line_of xs = bare_of (before 35 xs)

-- nothing is stated
unfoldable pub nothing : Found
nothing = record { numbers = replicate number_count None; lengths = None; block = None }

-- with a number, a list or a mark that was not stated before
abbrev pub put_number : Found → Number → ℕ → Result Found Wrong
put_number d which x =
    cond (is_some (slice_index_or d.numbers (place which) None))
    (Err (Twice (Scalar which)))
    (Ok (record { numbers = slice_set d.numbers (place which) (Some x); lengths = d.lengths; block = d.block }))

abbrev pub put_in : Found → Entry → Result Found Wrong
put_in d (Value which x) = put_number d which x
put_in d (Many l) =
    cond (is_some d.lengths) (Err (Twice Lengths)) (Ok (record { numbers = d.numbers; lengths = Some l; block = d.block }))
put_in d (Mark b) =
    cond (is_some d.block) (Err (Twice Block)) (Ok (record { numbers = d.numbers; lengths = d.lengths; block = Some b }))

-- the same, where a line says something
abbrev pub put_if : Found → Option Entry → Result Found Wrong
put_if d None = Ok d
put_if d (Some e) = put_in d e

-- what is stated after one more line too
abbrev pub put_row : Found → List ℕ → Result Found Wrong
put_row d row = bind (line_of row) (put_if d)

-- a fault of line k
abbrev pub at_line : ℕ → Result Found Wrong → Result Found Fault
at_line k (Ok d) = Ok d
at_line k (Err w) = Err (Line k w)

-- what is stated after line k too
abbrev pub put_line : ℕ → Found → List ℕ → Result Found Fault
put_line k d row = at_line k (put_row d row)

-- what is stated after the lines from k on
abbrev pub put_lines : ℕ → Found → List (List ℕ) → Result Found Fault
put_lines k d [] = Ok d
put_lines k d (row ∷ rows) = bind (put_line k d row) (λ e. put_lines (k + 1) e rows)

-- a number that is missing is a fault
abbrev pub given_or : Option ℕ → Number → Result ℕ Fault
given_or None which = Err (Missing which)
given_or (Some x) which = Ok x

-- a number that has to be stated
abbrev pub stated : Found → Number → Result ℕ Fault
stated d which = given_or (slice_index_or d.numbers (place which) None) which

-- a set as a file states it
abbrev pub Draft : Type 0
Draft = ProposalOf Held

-- all that has to be stated: a list that is not is empty, and a mark that is not is no
abbrev pub draft_of : Found → Result Draft Fault
draft_of d =
    bind (stated d RingSize) (λ n. bind (stated d Weight) (λ h.
    bind (stated d Qb) (λ qb. bind (stated d Pb) (λ pb. bind (stated d Tb) (λ tb.
    bind (stated d Payload) (λ kappa. bind (stated d Flips) (λ f.
    Ok (record { n = n; h = h; qb = qb; pb = pb; tb = tb; kappa = kappa; f = f; block = unwrap_or d.block false; lengths = unwrap_or d.lengths no_lengths })
    )))))))

-- the set that a text states, its lines apart by newlines (10)
abbrev pub set_of : List ℕ → Result Draft Fault
set_of text = bind (put_lines 1 nothing (parts 10 text)) draft_of
