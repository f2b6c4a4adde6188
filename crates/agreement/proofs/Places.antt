-- What stands at the places of a rack while calls are made.
use Rattle.std.proofs.Common.{◌≡◌, ℕ, List, [], ◌∷◌, length, set, Ok, Err, Result, sym, refl, ap, ◌∙◌, subst, inl, inr, arith, get_or-set_other, get_or-set_same, Option, Some, None}
use lib.ListN.{get_or-replicate}
use lib.Seq.{set_out}
use Rattle.std.proofs.lemmas.Bool.{cases_eq, cases_lt}
use Rattle.std.proofs.lemmas.List.{get_or_past, length-take-le}
use Rattle.params.specs.declared.set.Set.{Set}
use Rattle.calls.specs.Chains.{Book, lift, areas_fit}
use Rattle.calls.specs.declared.refusal.Input.TheVariants.{First}
use Rattle.calls.specs.declared.refusal.Refusal.{Refusal}
use Rattle.calls.specs.declared.refusal.Refusal.TheVariants.{WrongInput}
use Rattle.rack.specs.Calls.{Places, place_count, all_empty, at, coins_from, known_place, held, unused, coins_at, expands, issue_checks, issued, retired}
use Rattle.rack.specs.declared.record.Coins.{Coins}
use Rattle.agreement.specs.Runs.{Call, issue, publish, open_parcel, retire, or_same, after, run, Unretired}
use Rattle.agreement.proofs.Binds.{bind_ok, bind_is, ok_same, lift_ok, sized_ok}
use Rattle.agreement.proofs.Parts.{length_part}

-- what is so of the places as they were and of those that a call answers is so after the call
by_answer : (P : Places → Type 0) (ps : Places) (r : Result Places Refusal) → P ps → ((qs : Places) → r ≡ Ok qs → P qs) → P (or_same ps r)
by_answer P ps (Ok qs) same other = other qs refl
by_answer P ps (Err e) same other = same

empty_place : (i : ℕ) (p : Option Coins) → unused i p ≡ Ok tt → p ≡ None
empty_place i None e = refl
empty_place i (Some c) e = cc

held_place : (i : ℕ) (p : Option Coins) (c : Coins) → held i p ≡ Ok c → p ≡ Some c
held_place i None c e = cc
held_place i (Some d) c e = ap Some (ok_same e)

held_same : {c d : Coins} → Some c ≡ Some d → c ≡ d
held_same e = cc

not_both : (p : Option Coins) (c : Coins) → p ≡ Some c → p ≡ None → ⊥
not_both p c x y = cc

-- coins as issue leaves them: their parts have 32 bytes, and both seeds expand
pub record Lawful (B : Book) (s : Set) (c : Coins) : Type 0 where
  pub sigma : length c.sigma ≡ 32
  pub seed : length c.seed ≡ 32
  pub expands : expands B s c ≡ Ok tt

-- an issue that is not refused: the place was empty, and lawful coins are put in
record Issued (B : Book) (s : Set) (ps : Places) (i : ℕ) (xs : List ℕ) (qs : Places) : Type 0 where
  free : at ps i ≡ None
  lawful : Lawful B s (coins_from xs)
  is : set ps i (Some (coins_from xs)) ≡ qs

issued_ok : (B : Book) (s : Set) (ps : Places) (i a b : ℕ) (xs : List ℕ) (qs : Places) → issued B s ps i a b xs ≡ Ok qs → Issued B s ps i xs qs
issued_ok B s ps i a b xs qs e =
    let (_, checks, e1) = bind_ok (issue_checks ps i a b xs) _ _ e in
    let (_, h, e2) = bind_ok (lift (expands B s (coins_from xs))) _ _ e1 in
    let (_, _, c1) = bind_ok (known_place i) _ _ checks in
    let (_, u, c2) = bind_ok (unused i (at ps i)) _ _ c1 in
    let (_, _, c3) = bind_ok (areas_fit a b) _ _ c2 in
    let long : length xs ≡ 96 = sized_ok (length xs) 96 (WrongInput First (length xs)) c3 in
    record {
      free = empty_place i (at ps i) u;
      lawful = record {
        sigma = length-take-le 32 xs (omega arith);
        seed = length_part 32 xs (omega arith);
        expands = lift_ok (expands B s (coins_from xs)) tt h;
      };
      is = ok_same e2;
    }

-- a place that there is, with coins in it
pub record Holds (ps : Places) (i : ℕ) (c : Coins) : Type 0 where
  pub place : known_place i ≡ Ok tt
  pub here : at ps i ≡ Some c

pub holds_ok : (ps : Places) (i : ℕ) (c : Coins) → coins_at ps i ≡ Ok c → Holds ps i c
holds_ok ps i c e =
    let (_, p, h) = bind_ok (known_place i) _ _ e in
    record { place = p; here = held_place i (at ps i) c h }

pub holds_is : (ps : Places) (i : ℕ) (c : Coins) → Holds ps i c → coins_at ps i ≡ Ok c
holds_is ps i c f = bind_is (known_place i) _ f.place (ap (held i) f.here)

retired_ok : (ps : Places) (i : ℕ) (qs : Places) → retired ps i ≡ Ok qs → set ps i None ≡ qs
retired_ok ps i qs e = let (_, _, r) = bind_ok (coins_at ps i) _ _ e in ok_same r

-- a call that is no retire of place i leaves the coins there
kept : (B : Book) (s : Set) (ps : Places) (call : Call) (i : ℕ) (c : Coins) → (call ≡ retire i → ⊥) → at ps i ≡ Some c → at (after B s ps call) i ≡ Some c
kept B s ps (issue j a b xs) i c keep h =
    by_answer (λ qs. at qs i ≡ Some c) ps (issued B s ps j a b xs) h (λ qs e.
    let it = issued_ok B s ps j a b xs qs e in
    elim (cases_eq i j) [
      | inl q ↦ absurd (not_both (at ps i) c h (ap (at ps) q ∙ it.free))
      | inr ne ↦ ap (λ (x : Places). at x i) (sym it.is) ∙ get_or-set_other ps j i (Some (coins_from xs)) None ne ∙ h
    ])
kept B s ps (publish j o a b) i c keep h = h
kept B s ps (open_parcel j o a b p) i c keep h = h
kept B s ps (retire j) i c keep h =
    by_answer (λ qs. at qs i ≡ Some c) ps (retired ps j) h (λ qs e.
    elim (cases_eq i j) [
      | inl q ↦ absurd (keep (ap retire (sym q)))
      | inr ne ↦ ap (λ (x : Places). at x i) (sym (retired_ok ps j qs e)) ∙ get_or-set_other ps j i None None ne ∙ h
    ])

-- nor does a run without such a call
pub kept_run : (B : Book) (s : Set) (ps : Places) (calls : List Call) (i : ℕ) (c : Coins) → Unretired i calls → at ps i ≡ Some c → at (run B s ps calls) i ≡ Some c
kept_run B s ps [] i c keep h = h
kept_run B s ps (x ∷ xs) i c keep h = kept_run B s (after B s ps x) xs i c keep.1 (kept B s ps x i c keep.0 h)

-- all coins at the places are lawful
abbrev AllLawful : Book → Set → Places → Type 0
AllLawful B s ps = (i : ℕ) (c : Coins) → at ps i ≡ Some c → Lawful B s c

-- so they are where lawful coins are put in
lawful_set : (B : Book) (s : Set) (ps : Places) (j : ℕ) (d : Coins) → AllLawful B s ps → at ps j ≡ None → Lawful B s d → AllLawful B s (set ps j (Some d))
lawful_set B s ps j d all free has i c h =
    elim (cases_eq i j) [
      | inl q ↦ elim (cases_lt j (length ps)) [
        | inl l ↦ subst (Lawful B s) (held_same (sym (get_or-set_same ps j (Some d) None l) ∙ ap (at (set ps j (Some d))) (sym q) ∙ h)) has
        | inr l ↦ absurd (not_both (at ps j) c (ap (λ (x : Places). at x j) (sym (set_out ps j (Some d) l)) ∙ ap (at (set ps j (Some d))) (sym q) ∙ h) free)
      ]
      | inr ne ↦ all i c (sym (get_or-set_other ps j i (Some d) None ne) ∙ h)
    ]

-- and where a place is emptied
lawful_emptied : (B : Book) (s : Set) (ps : Places) (j : ℕ) → AllLawful B s ps → AllLawful B s (set ps j None)
lawful_emptied B s ps j all i c h =
    elim (cases_eq i j) [
      | inl q ↦ elim (cases_lt j (length ps)) [
        | inl l ↦ absurd (not_both (at (set ps j None) j) c (ap (at (set ps j None)) (sym q) ∙ h) (get_or-set_same ps j None None l))
        | inr l ↦ all i c (ap (λ (x : Places). at x i) (sym (set_out ps j None l)) ∙ h)
      ]
      | inr ne ↦ all i c (sym (get_or-set_other ps j i None None ne) ∙ h)
    ]

lawful_after : (B : Book) (s : Set) (ps : Places) (call : Call) → AllLawful B s ps → AllLawful B s (after B s ps call)
lawful_after B s ps (issue j a b xs) all =
    by_answer (AllLawful B s) ps (issued B s ps j a b xs) all (λ qs e.
    let it = issued_ok B s ps j a b xs qs e in subst (AllLawful B s) it.is (lawful_set B s ps j (coins_from xs) all it.free it.lawful))
lawful_after B s ps (publish j o a b) all = all
lawful_after B s ps (open_parcel j o a b p) all = all
lawful_after B s ps (retire j) all =
    by_answer (AllLawful B s) ps (retired ps j) all (λ qs e. subst (AllLawful B s) (retired_ok ps j qs e) (lawful_emptied B s ps j all))

lawful_from : (B : Book) (s : Set) (ps : Places) (calls : List Call) → AllLawful B s ps → AllLawful B s (run B s ps calls)
lawful_from B s ps [] all = all
lawful_from B s ps (x ∷ xs) all = lawful_from B s (after B s ps x) xs (lawful_after B s ps x all)

nothing : (j : ℕ) → at all_empty j ≡ None
nothing j = elim (cases_lt j place_count) [
  | inl l ↦ get_or-replicate place_count j None None l
  | inr l ↦ get_or_past all_empty j None l
]

-- all coins at the places after a run on a rack just made are lawful
pub lawful_run : (B : Book) (s : Set) (calls : List Call) (i : ℕ) (c : Coins) → at (run B s all_empty calls) i ≡ Some c → Lawful B s c
lawful_run B s calls = lawful_from B s all_empty calls (λ i c h. absurd (not_both (at all_empty i) c h (nothing i)))
