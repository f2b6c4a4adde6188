-- After any run a publish has bytes enough.
use Rattle.std.proofs.Common.{◌≡◌, ℕ, Bool, true, false, cond, leb, List, Ok, Err, refl, Option, Some, None}
use Rattle.params.specs.Sizes.{key_length}
use Rattle.params.specs.declared.set.Set.{Set}
use Rattle.calls.specs.Areas.{area_words}
use Rattle.calls.specs.Chains.{Book, sized, areas_fit}
use Rattle.calls.specs.declared.refusal.Buffer.TheVariants.{Output, SecretArea, ProductArea}
use Rattle.calls.specs.declared.refusal.Refusal.TheVariants.{WrongBuffer, NoSuchPlace}
use Rattle.scheme.specs.Scheme.{public_polynomial, secret_positions, key_from}
use Rattle.rack.specs.Calls.{Places, place_count, all_empty, at, coins_key, known_place, held, coins_at, expands}
use Rattle.rack.specs.declared.record.Coins.{Coins}
use Rattle.agreement.specs.Runs.{run}
use Rattle.agreement.specs.Agreement.{Publishes}
use Rattle.agreement.proofs.Binds.{bind_ok, bind_is, Enough, enough_bind, enough_sized, enough_lift}
use Rattle.agreement.proofs.Places.{lawful_run, holds_ok}

-- coins whose seeds expand have a key
expands_key : (B : Book) (s : Set) (c : Coins) → expands B s c ≡ Ok tt → (key : List ℕ) × (coins_key B s c ≡ Ok key)
expands_key B s c e =
    let (a, ea, e1) = bind_ok (public_polynomial B s c.sigma) _ _ e in
    let (x, ex, _) = bind_ok (secret_positions B s c.seed) _ _ e1 in
    (key_from s c.sigma a x, bind_is (public_polynomial B s c.sigma) _ ea (bind_is (secret_positions B s c.seed) _ ex refl))

place_test : (i : ℕ) (t : Bool) → Enough {X = Unit {0}} (cond t (Err (NoSuchPlace i)) (Ok (tt {0})))
place_test i true e p = cc
place_test i false e p = cc

held_enough : (i : ℕ) (p : Option Coins) → Enough (held i p)
held_enough i None e q = cc
held_enough i (Some c) e q = cc

areas_enough : (secret_words product_words : ℕ) → Enough (areas_fit secret_words product_words)
areas_enough secret_words product_words =
    enough_bind (sized secret_words area_words (WrongBuffer SecretArea)) _ (enough_sized secret_words area_words SecretArea)
    (λ _ _. enough_sized product_words area_words ProductArea)

-- publish is never refused for want of bytes
pub publishes : (B : Book) (s : Set) → Publishes B s
publishes B s calls i key_buffer secret_words product_words =
    let ps : Places = run B s all_empty calls in
    enough_bind (coins_at ps i) _ (enough_bind (known_place i) _ (place_test i (leb place_count i)) (λ _ _. held_enough i (at ps i))) (λ c f.
    enough_bind (sized key_buffer (key_length s) (WrongBuffer Output)) _ (enough_sized key_buffer (key_length s) Output) (λ _ _.
    enough_bind (areas_fit secret_words product_words) _ (areas_enough secret_words product_words) (λ _ _.
    let (key, ek) = expands_key B s c (lawful_run B s calls i c (holds_ok ps i c f).here).expands in
    enough_lift (coins_key B s c) key ek)))
