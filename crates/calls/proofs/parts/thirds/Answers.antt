use Rattle.std.proofs.Common.{◌∷◌, [], ◌/◌, take, drop, slice_index_or, ap, ◌∙◌}
use Rattle.std.proofs.lemmas.List.{drop-drop}
use Rattle.std.specs.Simd.{first_chunks}
use Rattle.calls.proofs.parts.thirds.Goals as goal

pub returns : goal.returns
returns c =
    let bs = c.args.bytes.now in
    let parts = c.as_chunks.ensures.front ∙ ap (λ n. first_chunks 32 (n / 32) bs) c.told-bytes in
    ap (λ ps. slice_index_or ps 0 [] ∷ slice_index_or ps 1 [] ∷ slice_index_or ps 2 [] ∷ []) parts
    ∙ ap (λ l. take 32 bs ∷ take 32 (drop 32 bs) ∷ take 32 l ∷ []) (drop-drop 32 32 bs)
