-- What four places of C hold, and what becomes of them.
use Rattle.std.proofs.Common.{◌≡◌, ℕ, ◌<◌, true, false, cond, leb, List, length, get_or, set, Ok, Err, sym, refl, ap, ◌∙◌, arith, Option, Some, None}
use Rattle.std.proofs.lemmas.List.{get_or-map, map-set}
use Rattle.std.proofs.lemmas.Bool.{lt-leb}
use Rattle.params.specs.declared.set.Set.{Set}
use Rattle.calls.specs.Chains.{Book, bind, lift}
use Rattle.calls.specs.declared.refusal.Refusal.TheVariants.{EmptyPlace}
use Rattle.rack.specs.Calls.{Places, place_count, at, coins_from, held, expands, issue_checks, issued, retired}
use Rattle.keyseal.specs.Places.{record_of, records, in_use, with_coins, cleared, emptied}
use Rattle.keyseal.specs.declared.layout.Place.{Place}
use Rattle.rack.specs.declared.record.Coins.{Coins}
use Rattle.keyseal.proofs.Steps.{bind_ok}

-- a place that there is, retired by the record that it has
retired_by : (rs : Places) (i : ℕ) (p : Option Coins) → i < place_count → at rs i ≡ p → retired rs i ≡ bind (held i p) (λ _. Ok (set rs i None))
retired_by rs i p l e = let t : leb place_count i ≡ false = lt-leb place_count i l in rw (t, e) refl

record_at : (ps : List Place) (i : ℕ) (d : Place) → i < length ps → at (records ps) i ≡ record_of (get_or ps i d)
record_at ps i d l = get_or-map record_of ps i d None l

-- an empty place is refused
pub retired_empty : (ps : List Place) (i : ℕ) (d : Place) → length ps ≡ place_count → i < place_count → (get_or ps i d).held ≡ false → retired (records ps) i ≡ Err (EmptyPlace i)
retired_empty ps i d n l e =
    let p = get_or ps i d in
    retired_by (records ps) i None l (record_at ps i d (omega arith) ∙ ap (λ b. cond b (Some (coins_from p.coins)) None) e)

-- and one in use is emptied
pub retired_held : (ps : List Place) (i : ℕ) (d : Place) → length ps ≡ place_count → i < place_count → (get_or ps i d).held ≡ true → retired (records ps) i ≡ Ok (records (emptied ps i))
retired_held ps i d n l e =
    let p = get_or ps i d in
    retired_by (records ps) i (Some (coins_from p.coins)) l (record_at ps i d (omega arith) ∙ ap (λ b. cond b (Some (coins_from p.coins)) None) e)
    ∙ ap Ok (sym (map-set record_of ps i cleared))

-- coins that issue keeps are those put into the place
pub issued_kept : (B : Book) (s : Set) (ps : List Place) (i a b : ℕ) (xs : List ℕ) (qs : Places)
    → issued B s (records ps) i a b xs ≡ Ok qs → issued B s (records ps) i a b xs ≡ Ok (records (with_coins ps i xs))
issued_kept B s ps i a b xs qs e =
    let (_, _, e1) = bind_ok (issue_checks (records ps) i a b xs) _ _ e in
    let (_, _, e2) = bind_ok (lift (expands B s (coins_from xs))) _ _ e1 in
    e ∙ sym e2 ∙ ap Ok (sym (map-set record_of ps i (in_use xs)))
