use Rattle.std.proofs.Common.{◌≡◌, ◌-◌, ◌++◌, List, [], length, take, drop, ap, ◌∙◌, refl, arith, ℕ}
use borrow.Rule.Slice.PartMut.{put_mid}
use Rattle.std.proofs.lemmas.List.{length-take, length-drop, append-nil, drop_all}
use Rattle.pack.specs.Bits.{run}
use Rattle.pack.proofs.Steps.{length_written, finished}
use Rattle.pack.proofs.bit_writer.BitWriter.finish.Goals as goal

pub slice_bounds-copy_from_slice-end : goal.slice_bounds-copy_from_slice-end
slice_bounds-copy_from_slice-end c =
    let self = c.args.self.now in
    let long = length_written self.out.now self.at self.acc self.held (omega arith) in
    simp (length-take, length-drop) (omega (arith, ap length c.to_be_bytes.ensures))

pub slice_bounds-copy_from_slice-end-2 : goal.slice_bounds-copy_from_slice-end-2
slice_bounds-copy_from_slice-end-2 c =
    let self = c.args.self.now in
    let long = length_written self.out.now self.at self.acc self.held (omega arith) in
    simp (length-take, length-drop) (omega (arith, ap length c.to_be_bytes.ensures))

pub copy_from_slice-requires : goal.copy_from_slice-requires
copy_from_slice-requires c =
    let self = c.args.self.now in
    let long = length_written self.out.now self.at self.acc self.held (omega arith) in
    simp (length-take, length-drop) (omega (arith, ap length c.to_be_bytes.ensures))

pub returns-clause-bytes : goal.returns-clause-bytes
returns-clause-bytes c =
    let self = c.args.self.now in
    let os = self.out.now in
    let k : ℕ = length os - self.at in
    let ns : List ℕ = c.copy_from_slice.new.self in
    let long = length_written os self.at self.acc self.held (omega arith) in
    let rest : length (take k (drop self.at os)) ≡ k = simp (length-take, length-drop) (omega arith) in
    let is : ns ≡ take k c.to_be_bytes.result = c.copy_from_slice.ensures.after ∙ ap (λ n. take n c.to_be_bytes.result) rest in
    let end : drop k (drop self.at os) ≡ [] = drop_all k (drop self.at os) (omega (arith, length-drop self.at os)) in
    let all : put_mid self.at k os ns ≡ take self.at os ++ ns = ap (λ l. take self.at os ++ (ns ++ l)) end ∙ ap (λ l. take self.at os ++ l) (append-nil ns) in
    ap (run 8) all ∙ finished os ns self.at self.acc self.held _ (omega arith) (omega arith) c.requires (is ∙ ap (take k) c.to_be_bytes.ensures) refl
