use Rattle.std.proofs.Common.{ℕ, List, ◌∷◌, ap, ◌∙◌, append-nil}
use Rattle.shake.specs.Shake.{shake256}
use Rattle.rackfile.specs.Format.{checksum_of}
use Rattle.rackfile.proofs.writing.checksum.Goals as goal

pub returns : goal.returns
unfolding checksum_of
returns c = c.hash.ensures ∙ ap (λ (l : List ℕ). shake256 (0x52 ∷ l) 32) (append-nil c.args.body.now)
