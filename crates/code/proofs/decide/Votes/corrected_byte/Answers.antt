use Rattle.std.proofs.Common.{◌≡◌, ℕ, ◌+◌, ◌-◌, ◌*◌, ◌<◌, List, cond, leb, get_or, take, drop, ap₂, ◌∙◌, arith}
use Rattle.std.proofs.lemmas.List.{get_or-take, get_or-drop}
use Rattle.code.proofs.Numbers.{number_same}
use Rattle.code.proofs.decide.Votes.corrected_byte.Goals as goal

-- an element of a cut of eight
cut : (xs : List ℕ) (at q : ℕ) → q < 8 → get_or (take (at + 8 - at) (drop at xs)) q 0 ≡ get_or xs (at + q) 0
cut xs at q lt = get_or-take (at + 8 - at) (drop at xs) q 0 (omega arith) ∙ get_or-drop at xs q 0

pub returns : goal.returns
returns c =
    let votes = c.args.self.now in
    let word = votes.word.now in
    let at = 8 * c.args.i in
    c.decided_byte.ensures ∙ number_same 8 _ _ (λ q lt.
    ap₂ (λ n x. cond (leb (word.code.now.shape.f + 1) n) (1 - x) x) (cut votes.counts at q lt ∙ votes.counted.votes_of (at + q) (omega arith)) (cut word.payload.now at q lt))
