use Rattle.std.proofs.Common.{take, drop, ap, ◌∙◌, arith}
use Rattle.pack.specs.Bits.{value}
use Rattle.pack.specs.Places.{unread}
use Rattle.pack.proofs.Steps.{masked, taken_off}
use Rattle.pack.proofs.bit_reader.BitReader.get.Goals as goal

pub returns : goal.returns
returns g c =
    let q = c.refill.new.self in
    let w = c.field_width-w.result in
    let bits = unread c.args.self.now in
    let t = taken_off q.acc q.held w _ bits (omega arith) c.refill.ensures.unread in
    record {
      value = c.of.ensures ∙ ap g.F.Residue.made (masked _ w 64 (omega (arith, g.met.F.Field.narrow c.args.moduli)) ∙ t.0 ∙ ap (λ k. value (take k bits)) c.field_width-w.ensures);
      unread = t.1 ∙ ap (λ k. drop k bits) c.field_width-w.ensures;
    }
