use Rattle.std.proofs.Common.{◌∷◌, ◌++◌, ap, ◌∙◌, arith}
use Rattle.wire.specs.Keys.{key_bytes}
use Rattle.wire.proofs.Parts.{put_parts}
use Rattle.wire.proofs.key.write_key.Goals as goal

pub returns : goal.returns
unfolding key_bytes
returns c =
    put_parts 75 c.args.out.now c.copy_from_slice.new.self c.pack.new.out 32 33 (omega arith) (omega arith) (omega arith)
    ∙ ap (λ l. 75 ∷ l ++ c.pack.new.out) c.copy_from_slice.ensures.after
    ∙ ap (λ l. 75 ∷ c.args.seed.now ++ l) c.pack.ensures
