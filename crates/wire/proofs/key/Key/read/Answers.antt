use Rattle.std.proofs.Common.{length, take, drop, subst, ap, ◌∙◌, arith}
use Rattle.std.proofs.lemmas.Slice.{between_to_end}
use Rattle.pack.specs.Bits.{Below}
use Rattle.pack.specs.Packing.{fields_at}
use Rattle.wire.specs.Keys.{key_seed, key_b}
use Rattle.wire.proofs.KeyLaws.{key_read}
use Rattle.wire.proofs.key.Key.read.Goals as goal

pub returns : goal.returns
unfolding key_seed key_b
returns c =
    let s = c.args.self.now.set.now in
    let key = c.args.self.now.bytes.now in
    let all = between_to_end key 1 (length key) (omega arith) in
    let seed = c.read_key_rest.ensures.seed ∙ ap (take 32) all in
    let fields = c.read_key_rest.ensures.fields ∙ ap (λ r. fields_at 0 s.n s.moduli.pb (drop 32 r)) all in
    let bytes = subst (Below 256) all c.read_key_rest.ensures.bytes in
    record {
      seed = seed;
      fields = fields;
      again = key_read s key _ _ bytes c.args.self.now.long c.args.self.now.content seed fields;
    }
