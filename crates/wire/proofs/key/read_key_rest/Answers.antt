use Rattle.std.proofs.Common.{ℕ, ◌<◌, map, length, drop, refl, ap, ◌∙◌, arith}
use Rattle.std.proofs.ByRecursion.{All-from_get_or}
use Rattle.std.proofs.lemmas.Slice.{between_to_end}
use Rattle.ring.specs.declared.sorts.Rounded.{Rounded}
use Rattle.pack.specs.Packing.{fields_at}
use Rattle.wire.proofs.Parts.{words_of}
use Rattle.wire.proofs.key.read_key_rest.Goals as goal

pub returns : goal.returns
returns c =
    let rest = c.args.rest.now in
    let v = c.args.set.now.moduli.pb in
    record {
      seed = c.copy_from_slice.ensures.after;
      fields =
          words_of (λ (x : Rounded). x.0) (λ x. record { 0 = x }) (λ x. refl) _ _ c.fields.new.xs (λ n. fields_at 0 n v (drop 32 rest)) c.requires.room
          (c.fields.ensures.first ∙ ap (λ r. map (λ (x : ℕ). record { 0 = x }) (fields_at 0 (length c.args.b.now) v r)) (between_to_end rest 32 (length rest) (omega arith)));
      bytes = All-from_get_or (λ x. x < 256) rest 0 (λ i h. omega (arith, c.type_inv.rest i));
    }
