-- What a seed expands to, worked out from the book's list for it.
use Rattle.std.specs.Prelude.{ℕ, ◌*◌, cond, List, [], length, take, Ok, Err, Result, nat_lt}
use Rattle.source.specs.declared.SourceFault.TheVariants.{Short}
use Rattle.sampler.specs.declared.Label.{Label}
use Rattle.sampler.specs.declared.Label.TheVariants.{Public, Secret}
use Rattle.sampler.specs.declared.SamplerFault.{SamplerFault}
use Rattle.sampler.specs.Values.{values, residues}
use Rattle.sampler.specs.Positions.{kept_from}

-- The label of the public polynomial.
abbrev pub public_label : ℕ
public_label = 1

-- The label of a secret.
abbrev pub secret_label : ℕ
secret_label = 2

-- The label of what a seed is expanded to.
abbrev pub label_number : Label → ℕ
label_number Public = public_label
label_number Secret = secret_label

-- The first `count` of the entries that the values vs make. If there are fewer, the source ran short at the entry after
-- them, with every value drawn, two bytes each.
abbrev pub first_of : (label count : ℕ) (entries vs : List ℕ) → Result (List ℕ) SamplerFault
first_of label count entries vs =
    cond (nat_lt (length entries) count)
    (Err (record { source = Short; label = label; entry = length entries; bytes = 2 * length vs }))
    (Ok (take count entries))

-- The public polynomial: n coefficients modulo 2 ^ qb.
unfoldable pub expanded_public : (qb n : ℕ) (list : List ℕ) → Result (List ℕ) SamplerFault
expanded_public qb n list = first_of public_label n (residues qb (values list)) (values list)

-- A secret of n coefficients: its h positions in the order drawn. They are +1, −1, +1 and so on by turn; the others are 0.
unfoldable pub expanded_secret : (n h : ℕ) (list : List ℕ) → Result (List ℕ) SamplerFault
expanded_secret n h list = first_of secret_label h (kept_from n [] (values list)) (values list)
