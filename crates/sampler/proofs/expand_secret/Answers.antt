-- The loop ends with h positions kept, or with no value left.
use Rattle.std.proofs.Common.{◌≡◌, ℕ, ◌+◌, ◌*◌, ◌^◌, ◌<◌, ◌≤◌, List, [], length, take, Ok, Err, sym, ap, ◌∙◌, arith}
use Rattle.std.proofs.lemmas.List.{length-take-le, take_all}
use Rattle.std.proofs.lemmas.Result.{err_from_is_err_and}
use Rattle.source.specs.declared.SourceFault.TheVariants.{Short}
use Rattle.sampler.specs.Values.{values}
use Rattle.sampler.specs.Positions.{kept_from}
use Rattle.sampler.specs.Expanded.{secret_label, expanded_secret}
use Rattle.sampler.proofs.Drawn.{values_span}
use Rattle.sampler.proofs.First.{first_made, first_short}
use Rattle.sampler.proofs.Laws.{secret_picked, secret_shortfall}
use Rattle.sampler.proofs.Table.{kept_from_front}
use Rattle.sampler.proofs.expand_secret.Goals as goal

-- No value is left before h positions are kept.
lacks : (n h count bytes : ℕ) (list out vs : List ℕ) → length out ≡ h → count < h → kept_from n (take count out) vs ≡ kept_from n [] (values list) → bytes + 2 * length vs ≡ 2 * length (values list) → vs ≡ [] → expanded_secret n h list ≡ Err (record { source = Short; label = secret_label; entry = count; bytes = bytes })
unfolding expanded_secret
lacks n h count bytes list out vs r l inv drawn none =
    let entries : kept_from n [] (values list) ≡ take count out = sym inv ∙ ap (kept_from n (take count out)) none in
    let empty = ap length none in
    first_short secret_label h count bytes (kept_from n [] (values list)) (values list) (ap length entries ∙ length-take-le count out (omega arith)) (omega arith) l

-- All h positions are kept.
made : (n h count : ℕ) (list out vs : List ℕ) → length out ≡ h → h ≤ count → kept_from n (take count out) vs ≡ kept_from n [] (values list) → expanded_secret n h list ≡ Ok out
unfolding expanded_secret
made n h count list out vs r l inv =
    let f = kept_from_front n out vs in
    let entries : kept_from n [] (values list) ≡ kept_from n out vs = sym inv ∙ ap (λ x. kept_from n x vs) (take_all count out (omega arith)) in
    first_made secret_label h (kept_from n [] (values list)) (values list) out f.0 (entries ∙ f.1) r

pub overflow_add-bytes : goal.overflow_add-bytes
overflow_add-bytes g c =
    let span = values_span (g.S.Source.rest c.start.new.self) in
    let size : length (g.S.Source.rest c.start.new.self) < 2 ^ 64 = rw c.start.ensures.rest (g.S.Source.fits _ _ _) in
    let value = ap length c.in_ok-value.ensures.cases in
    omega arith

pub returns-in_err-value : goal.returns-in_err-value
returns-in_err-value g c =
    let k = c.loop-chosen.chosen in
    let i = c.loop-chosen.invariant in
    let room = ap length c.none-chosen.ensures.same in
    let p = err_from_is_err_and c.from_residual.result c.from_residual.ensures.1 in
    let e = c.in_err-value.ensures in
    let short = lacks c.args.n (length c.args.positions.now) k.count c.loop-chosen.bytes _ k.positions.now _ (omega arith) (omega arith) i.kept i.drawn e.cases.0 in
    record {
      book = e.book ∙ i.book ∙ c.start.ensures.book;
      cases = rw (p.1, p.2, e.cases.1, ← c.start.ensures.rest) short;
      facts = rw (p.1, p.2, e.cases.1, ← c.start.ensures.rest) (secret_shortfall c.args.n _ _ _ short);
    }

pub returns : goal.returns
returns g c =
    let k = c.loop-chosen.chosen in
    let i = c.loop-chosen.invariant in
    let room = ap length c.none-chosen.ensures.same in
    let same = i.lent ∙ c.none-chosen.ensures.lent in
    let past : length c.args.positions.now ≤ k.count = grind arith in
    let full = made c.args.n (length c.args.positions.now) k.count (g.S.Source.rest c.start.new.self) k.positions.now (values (g.S.Source.rest c.loop-chosen.source)) (omega arith) past i.kept in
    let picked = secret_picked c.args.n (length c.args.positions.now) (g.S.Source.rest c.start.new.self) k.positions.now (omega arith) c.requires.range.1 full in
    record {
      book = i.book ∙ c.start.ensures.book;
      cases = rw (← c.start.ensures.rest) (grind (arith, full));
      facts = grind (arith, picked);
    }
