use Rattle.std.proofs.Common.{◌≡◌, ℕ, eqb, ap, ◌∙◌, bit_or, bit_xor, rules}
use Rattle.std.specs.List.{fold, zip}
use Rattle.std.proofs.lemmas.Iterator.{YieldsList-from_slice, YieldsList-from_zip}
use Rattle.std.proofs.lemmas.Iterator.Consumers.{fold_from_yields_List}
use Rattle.rack.proofs.Bytes.{differs}
use Rattle.rack.proofs.opening.difference.Goals as goal

pub returns : goal.returns
returns c =
    let xs = c.args.first.now in
    let ys = c.args.second.now in
    let all : c.fold.result ≡ fold (λ (a : ℕ) (p : ℕ × ℕ). bit_or a (bit_xor p.0 p.1)) 0 (zip xs ys) =
    fold_from_yields_List _ (λ a p. bit_or a (bit_xor p.0 p.1)) 0 c.fold.result c.fold.ensures.ran (YieldsList-from_zip (YieldsList-from_slice xs cc) (YieldsList-from_slice ys cc)) (λ a p b q k. search rules) in
    ap (λ n. eqb n 0) all ∙ differs 0 xs ys c.requires
