use Rattle.std.proofs.Common.{◌≡◌, ℕ, ◌<◌, ◌-◌, ◌*◌, map, length, take, refl, ap, ◌∙◌, arith}
use Rattle.std.proofs.ByRecursion.{All-from_get_or}
use Rattle.std.proofs.lemmas.Slice.{between_to_end}
use Rattle.ring.specs.declared.sorts.Rounded.{Rounded}
use Rattle.ring.specs.declared.sorts.Symbol.{Symbol}
use Rattle.pack.specs.Packing.{fields_at}
use Rattle.wire.specs.Parcels.{run_of}
use Rattle.wire.proofs.Parts.{words_of}
use Rattle.wire.proofs.parcel.read_parcel_rest.Goals as goal

pub returns : goal.returns
returns c =
    let s = c.args.set.now in
    let rest = c.args.rest.now in
    let run = run_of rest in
    let m = length c.args.v.now in
    let end : length rest - 32 - 0 ≡ length rest - 32 = omega arith in
    record {
      first =
          words_of (λ (x : Rounded). x.0) (λ x. record { 0 = x }) (λ x. refl) _ _ c.fields.new.xs (λ n. fields_at 0 n s.moduli.pb run) c.requires.first
          (c.fields.ensures.first ∙ ap (λ e. map (λ (x : ℕ). record { 0 = x }) (fields_at 0 (length c.args.u.now) s.moduli.pb (take e rest))) end);
      second =
          words_of (λ (x : Symbol). x.0) (λ x. record { 0 = x }) (λ x. refl) _ _ c.fields.new.ys (λ n. fields_at (n * s.moduli.pb) m s.moduli.tb run) c.requires.first
          (c.fields.ensures.second ∙ ap (λ e. map (λ (x : ℕ). record { 0 = x }) (fields_at (length c.args.u.now * s.moduli.pb) m s.moduli.tb (take e rest))) end)
          ∙ ap (λ k. fields_at (s.n * s.moduli.pb) k s.moduli.tb run) c.requires.second;
      tag = c.copy_from_slice.ensures.after ∙ between_to_end rest (length rest - 32) (length rest) (omega arith);
      bytes = All-from_get_or (λ x. x < 256) rest 0 (λ i h. omega (arith, c.type_inv.rest i));
    }
