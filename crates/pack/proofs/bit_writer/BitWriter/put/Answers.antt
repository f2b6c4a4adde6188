use Rattle.std.proofs.Common.{◌≡◌, ◌+◌, ◌-◌, ◌≤◌, ◌++◌, length, ap, ap₂, refl, ◌∙◌, arith}
use Rattle.std.proofs.lemmas.Slice.{take-put_mid}
use Rattle.pack.specs.Bits.{bits}
use Rattle.pack.specs.Places.{written}
use Rattle.pack.proofs.Steps.{length_written, length_put, kept_written, word_written}
use Rattle.pack.proofs.bit_writer.BitWriter.put.Goals as goal

pub slice_bounds-copy_from_slice-end : goal.slice_bounds-copy_from_slice-end
slice_bounds-copy_from_slice-end g c =
    let self = c.args.self.now in
    omega (arith, length_written self.out.now self.at self.acc self.held (omega arith))

pub returns-then-self-ge32-clause-wrote : goal.returns-then-self-ge32-clause-wrote
returns-then-self-ge32-clause-wrote g c =
    let self = c.args.self.now in
    let w = c.field_width-w.result in
    let narrow = g.met.F.Field.narrow c.args.moduli in
    let four : length c.copy_from_slice.new.self ≡ 4 = ap length (c.copy_from_slice.ensures.after ∙ c.to_be_bytes.ensures) in
    let room : self.at + 4 ≤ length self.out.now = omega (arith, length_written self.out.now self.at self.acc self.held (omega arith)) in
    record {
      more =
          word_written self.out.now _ _ self.at _ (self.held + w) _ (take-put_mid self.at (self.at + 4 - self.at) self.out.now c.copy_from_slice.new.self (self.at + 4) (omega arith) (omega arith)) (c.copy_from_slice.ensures.after ∙ c.to_be_bytes.ensures) (omega arith) refl
          ∙ kept_written self.out.now self.at self.acc self.held w c.number.result (omega arith) (omega arith)
          ∙ ap₂ (λ k y. written self ++ bits k y) c.field_width-w.ensures c.number.ensures;
      long = length_put self.at (self.at + 4 - self.at) self.out.now c.copy_from_slice.new.self (omega arith) (omega arith);
    }

pub returns-else-self-ge32-clause-wrote : goal.returns-else-self-ge32-clause-wrote
returns-else-self-ge32-clause-wrote g c =
    let self = c.args.self.now in
    let w = c.field_width-w.result in
    let narrow = g.met.F.Field.narrow c.args.moduli in
    record {
      more = kept_written self.out.now self.at self.acc self.held w c.number.result (omega arith) (omega arith) ∙ ap₂ (λ k y. written self ++ bits k y) c.field_width-w.ensures c.number.ensures;
      long = refl;
    }
