-- What each call on a rack answers, and what its places hold then.
use Rattle.std.specs.Prelude.{ℕ, Bool, true, false, cond, ◌&&◌, List, [], ◌∷◌, ◌++◌, length, take, drop, replicate, Ok, Err, Result, ◌==◌, nat_le, slice_index_or, slice_set, Option, Some, None}
use Rattle.params.specs.Sizes.{key_length, parcel_length}
use Rattle.params.specs.declared.set.Set.{Set}
use Rattle.sampler.specs.declared.SamplerFault.{SamplerFault}
use Rattle.rounding.specs.Symbols.{rounded_product}
use Rattle.wire.specs.Parcels.{parcel_content}
use Rattle.calls.specs.Chains.{Book, bind, lift, lift_form, Check, sized, areas_fit}
use Rattle.calls.specs.declared.refusal.Buffer.TheVariants.{Output, SecretOutput}
use Rattle.calls.specs.declared.refusal.Input.TheVariants.{First}
use Rattle.calls.specs.declared.refusal.Refusal.{Refusal}
use Rattle.calls.specs.declared.refusal.Refusal.TheVariants.{NoSuchPlace, EmptyPlace, PlaceInUse, WrongBuffer, WrongInput}
use Rattle.scheme.specs.Scheme.{public_polynomial, secret_positions, key_from, key_of, encrypted, l_of, secret_from, message_in}
use Rattle.rack.specs.declared.record.Coins.{Coins}

-- the places of a rack, each a record
abbrev pub Places : Type 0
Places = List (Option Coins)

-- how many places a rack has
abbrev pub place_count : ℕ
place_count = 4

-- the places of a rack just made
abbrev pub all_empty : Places
all_empty = replicate place_count None

-- the record of a place
abbrev pub at : Places → ℕ → Option Coins
at ps i = slice_index_or ps i None

-- coins: σ, the seed of the till's secret, and z
abbrev pub coins_from : List ℕ → Coins
coins_from xs = record { sigma = take 32 xs; seed = take 32 (drop 32 xs); z = take 32 (drop 64 xs) }

-- the bytes of coins, one part after the other
abbrev pub coin_bytes : Coins → List ℕ
coin_bytes c = c.sigma ++ (c.seed ++ c.z)

-- the key of coins
abbrev pub coins_key : Book → Set → Coins → Result (List ℕ) SamplerFault
coins_key B s c = key_of B s c.sigma c.seed

-- a place that there is
abbrev pub known_place : ℕ → Check
known_place i = cond (nat_le place_count i) (Err (NoSuchPlace i)) (Ok tt)

-- the coins of a record that holds some
abbrev pub held : ℕ → Option Coins → Result Coins Refusal
held i None = Err (EmptyPlace i)
held i (Some c) = Ok c

-- a record that is empty
abbrev pub unused : ℕ → Option Coins → Check
unused i None = Ok tt
unused i (Some c) = Err (PlaceInUse i)

-- the coins at a place
abbrev pub coins_at : Places → ℕ → Result Coins Refusal
coins_at ps i = bind (known_place i) (λ _. held i (at ps i))

-- issue: the places with the coins put in, if both seeds expand
abbrev pub expands : Book → Set → Coins → Result (Unit {0}) SamplerFault
expands B s c = bind (public_polynomial B s c.sigma) (λ _. bind (secret_positions B s c.seed) (λ _. Ok tt))

abbrev pub issue_checks : Places → ℕ → ℕ → ℕ → List ℕ → Check
issue_checks ps i secret_words product_words xs =
    bind (known_place i) (λ _.
    bind (unused i (at ps i)) (λ _.
    bind (areas_fit secret_words product_words) (λ _.
    sized (length xs) 96 (WrongInput First (length xs)))))

abbrev pub issued : Book → Set → Places → ℕ → ℕ → ℕ → List ℕ → Result Places Refusal
issued B s ps i secret_words product_words xs =
    bind (issue_checks ps i secret_words product_words xs) (λ _.
    bind (lift (expands B s (coins_from xs))) (λ _.
    Ok (slice_set ps i (Some (coins_from xs)))))

-- publish: the key of the coins at the place; `key` is the length of its buffer
abbrev pub published : Book → Set → Places → ℕ → ℕ → ℕ → ℕ → Result (List ℕ) Refusal
published B s ps i key secret_words product_words =
    bind (coins_at ps i) (λ c.
    bind (sized key (key_length s) (WrongBuffer Output)) (λ _.
    bind (areas_fit secret_words product_words) (λ _.
    lift (coins_key B s c))))

-- whether two lists are the same, element by element
abbrev pub same : List ℕ → List ℕ → Bool
same [] [] = true
same [] (y ∷ ys) = false
same (x ∷ xs) [] = false
same (x ∷ xs) (y ∷ ys) = x == y && same xs ys

-- what the secret is made of: l of the message found, if sealing that message again gives the same parcel; else z
abbrev pub chosen : Coins → List ℕ → List ℕ → List ℕ → List ℕ → List ℕ
chosen c key m again parcel = cond (same again parcel) (l_of m key) c.z

-- the secret that coins make of a parcel
abbrev pub opening : Book → Set → Coins → List ℕ → Result (List ℕ) SamplerFault
opening B s c parcel =
    bind (public_polynomial B s c.sigma) (λ a.
    bind (secret_positions B s c.seed) (λ x.
    bind (encrypted B s a (rounded_product s.moduli s.n a x) (key_from s c.sigma a x) (message_in s x parcel)) (λ again.
    Ok (secret_from (chosen c (key_from s c.sigma a x) (message_in s x parcel) again parcel) parcel))))

abbrev pub open_checks : Set → ℕ → ℕ → ℕ → List ℕ → Check
open_checks s secret secret_words product_words parcel =
    bind (sized secret 32 (WrongBuffer SecretOutput)) (λ _.
    bind (areas_fit secret_words product_words) (λ _.
    bind (sized (length parcel) (parcel_length s) (WrongInput First (length parcel))) (λ _.
    lift_form (parcel_content s parcel))))

-- open: the secret that the coins at the place make of the parcel
abbrev pub opened : Book → Set → Places → ℕ → ℕ → ℕ → ℕ → List ℕ → Result (List ℕ) Refusal
opened B s ps i secret secret_words product_words parcel =
    bind (coins_at ps i) (λ c.
    bind (open_checks s secret secret_words product_words parcel) (λ _.
    lift (opening B s c parcel)))

-- retire: the places with this one emptied
abbrev pub retired : Places → ℕ → Result Places Refusal
retired ps i = bind (coins_at ps i) (λ _. Ok (slice_set ps i None))
