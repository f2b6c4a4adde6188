use Rattle.std.proofs.Common.{◌-◌, ◌*◌, length, subst, drop, ap, ◌∙◌, arith}
use Rattle.std.proofs.lemmas.Slice.{between_to_end}
use Rattle.pack.specs.Bits.{Below}
use Rattle.pack.specs.Packing.{fields_at}
use Rattle.wire.specs.Parcels.{parcel_u, parcel_v, parcel_tag, run_of}
use Rattle.wire.proofs.ParcelLaws.{parcel_read}
use Rattle.wire.proofs.parcel.Parcel.read.Goals as goal

pub returns : goal.returns
unfolding parcel_u parcel_v parcel_tag
returns c =
    let s = c.args.self.now.set.now in
    let parcel = c.args.self.now.bytes.now in
    let all = between_to_end parcel 1 (length parcel) (omega arith) in
    let first = c.read_parcel_rest.ensures.first ∙ ap (λ r. fields_at 0 s.n s.moduli.pb (run_of r)) all in
    let second = c.read_parcel_rest.ensures.second ∙ ap (λ r. fields_at (s.n * s.moduli.pb) s.code.mu s.moduli.tb (run_of r)) all in
    let tag = c.read_parcel_rest.ensures.tag ∙ ap (λ r. drop (length r - 32) r) all in
    let bytes = subst (Below 256) all c.read_parcel_rest.ensures.bytes in
    record {
      first = first;
      second = second;
      tag = tag;
      again = parcel_read s parcel _ _ _ bytes c.args.self.now.long c.args.self.now.content first second tag;
    }
