-- The loop ends with all coefficients made, or with no value left.
use Rattle.std.proofs.Common.{◌≡◌, ℕ, ◌*◌, ◌<◌, ◌≤◌, List, [], ◌++◌, length, take, Ok, Err, sym, ap, ◌∙◌, arith}
use Rattle.std.proofs.lemmas.List.{append-nil, length-map, length-take-le, take_all}
use Rattle.std.proofs.lemmas.Result.{err_from_is_err_and}
use Rattle.source.specs.declared.SourceFault.TheVariants.{Short}
use Rattle.sampler.specs.Values.{values, residues}
use Rattle.sampler.specs.Expanded.{public_label, expanded_public}
use Rattle.sampler.proofs.First.{first_made, first_short}
use Rattle.sampler.proofs.Laws.{public_reduced, public_shortfall}
use Rattle.sampler.proofs.expand_public.Goals as goal

-- No value is left for the coefficient at `index`.
lacks : (qb n index : ℕ) (list out vs : List ℕ) → length out ≡ n → index < n → residues qb (values list) ≡ take index out ++ residues qb vs → vs ≡ [] → expanded_public qb n list ≡ Err (record { source = Short; label = public_label; entry = index; bytes = 2 * index })
unfolding expanded_public
lacks qb n index list out vs r l inv none =
    let made : residues qb (values list) ≡ take index out = inv ∙ ap (λ x. take index out ++ residues qb x) none ∙ append-nil (take index out) in
    let count : length (residues qb (values list)) ≡ index = ap length made ∙ length-take-le index out (omega arith) in
    first_short public_label n index (2 * index) (residues qb (values list)) (values list) count (ap (λ x. 2 * x) (sym (length-map (values list) _) ∙ count)) l

-- Every coefficient is made.
made : (qb n index : ℕ) (list out vs : List ℕ) → length out ≡ n → n ≤ index → residues qb (values list) ≡ take index out ++ residues qb vs → expanded_public qb n list ≡ Ok out
unfolding expanded_public
made qb n index list out vs r l inv =
    first_made public_label n (residues qb (values list)) (values list) out (residues qb vs) (inv ∙ ap (λ x. x ++ residues qb vs) (take_all index out (omega arith))) r

pub returns-in_err-value : goal.returns-in_err-value
returns-in_err-value g c =
    let i = c.loop-index.invariant in
    let p = err_from_is_err_and c.from_residual.result c.from_residual.ensures.1 in
    let e = c.in_err-value.ensures in
    let short = lacks c.args.qb (length c.args.out.now) c.loop-index.index _ c.loop-index.out _ (omega arith) (omega arith) i.made e.cases.0 in
    record {
      book = e.book ∙ i.book ∙ c.start.ensures.book;
      cases = rw (p.1, p.2, e.cases.1, ← c.start.ensures.rest) short;
      facts = rw (p.1, p.2, e.cases.1, ← c.start.ensures.rest) (public_shortfall c.args.qb _ _ _ short);
    }

pub returns : goal.returns
returns g c =
    let i = c.loop-index.invariant in
    let full = made c.args.qb (length c.args.out.now) c.loop-index.index _ c.loop-index.out _ (omega arith) (omega arith) i.made in
    record {
      book = i.book ∙ c.start.ensures.book;
      cases = rw (← c.start.ensures.rest) full;
      facts = public_reduced c.args.qb _ _ _ full;
    }
