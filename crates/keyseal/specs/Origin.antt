-- What a call's source means: the bytes of a tape, or those of another source.
use Rattle.std.specs.Prelude.{ℕ, ◌^◌, ◌<◌, Bool, cond, List, length}
use Rattle.sponge.specs.Book.{sponge_book}
use Rattle.calls.specs.Chains.{Book}
use Rattle.keyseal.specs.declared.origin.Origin.{Origin}
use Rattle.keyseal.specs.declared.origin.Origin.TheVariants.{Taped, Other}

abbrev pub origin_book : {T S : Type 0} → (T → Book) → (S → Book) → Origin T S → Book
origin_book tape other (Taped t) = tape t
origin_book tape other (Other s) = other s

abbrev pub origin_rest : {T S : Type 0} → (T → List ℕ) → (S → List ℕ) → Origin T S → List ℕ
origin_rest tape other (Taped t) = tape t
origin_rest tape other (Other s) = other s

pub origin_fits : {T S : Type 0} (tape : T → Book) (other : S → Book) → ((t : T) (label : ℕ) (seed : List ℕ) → length (tape t label seed) < 2 ^ 64)
    → ((s : S) (label : ℕ) (seed : List ℕ) → length (other s label seed) < 2 ^ 64)
    → (o : Origin T S) (label : ℕ) (seed : List ℕ) → length (origin_book tape other o label seed) < 2 ^ 64
origin_fits tape other f g (Taped t) = f t
origin_fits tape other f g (Other s) = g s

-- the book of a call: the tape's bytes for every label and seed, or the sponge's book
abbrev pub book_of : List ℕ → Bool → Book
book_of tape taped = cond taped (λ _ _. tape) sponge_book
