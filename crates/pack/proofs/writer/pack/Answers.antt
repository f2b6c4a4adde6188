use Rattle.std.proofs.Common.{◌≡◌, ◌+◌, ◌*◌, map, length, sym, ap, ◌∙◌, arith, rules}
use Rattle.std.proofs.lemmas.List.{length-map, length-append}
use Rattle.params.specs.Sizes.{bytes_for}
use Rattle.pack.specs.Bits.{run}
use Rattle.pack.specs.Places.{written}
use Rattle.pack.proofs.Runs.{length_run}
use Rattle.pack.proofs.Steps.{packed_by}
use Rattle.pack.proofs.writer.pack.Goals as goal

pub put_all-requires-2 : goal.put_all-requires-2
put_all-requires-2 g c =
    let v = g.F.Field.width c.args.moduli in
    let first = c.put_all.ensures.wrote in
    let xs = map g.F.Residue.bare c.args.xs.now in
    omega (arith, ap length c.new-writer.ensures.written, ap length first.more, length-append (written c.new-writer.result) (run v xs), length_run v xs, ap (λ k. k * v) (length-map c.args.xs.now g.F.Residue.bare), first.long)

pub finish-requires : goal.finish-requires
finish-requires g c =
    let v = g.F.Field.width c.args.moduli in
    let w = g.G.Field.width c.args.moduli in
    let first = c.put_all.ensures.wrote in
    let second = c.put_all-2.ensures.wrote in
    let xs = map g.F.Residue.bare c.args.xs.now in
    let ys = map g.G.Residue.bare c.args.ys.now in
    let x : length (written c.put_all.new.self) ≡ length xs * v = omega (arith, ap length c.new-writer.ensures.written, ap length first.more, length-append (written c.new-writer.result) (run v xs), length_run v xs) in
    let y : length (written c.put_all-2.new.self) ≡ length xs * v + length ys * w = omega (arith, ap length second.more, length-append (written c.put_all.new.self) (run w ys), length_run w ys) in
    let lx = ap (λ k. k * v) (length-map c.args.xs.now g.F.Residue.bare) in
    let ly = ap (λ k. k * w) (length-map c.args.ys.now g.G.Residue.bare) in
    let all : length (written c.put_all-2.new.self) ≡ length c.args.xs.now * v + length c.args.ys.now * w = omega arith in
    second.long ∙ first.long ∙ c.new-writer.ensures.long ∙ c.requires ∙ ap bytes_for (sym all)

pub returns : goal.returns
returns g c =
    let v = g.F.Field.width c.args.moduli in
    let w = g.G.Field.width c.args.moduli in
    let xs = map g.F.Residue.bare c.args.xs.now in
    let ys = map g.G.Residue.bare c.args.ys.now in
    let lx = ap (λ n. n * v) (length-map c.args.xs.now g.F.Residue.bare) in
    let ly = ap (λ n. n * w) (length-map c.args.ys.now g.G.Residue.bare) in
    packed_by v w xs ys _ c.finish.new.self.out.now _ _ _ (search rules) c.new-writer.ensures.written c.put_all.ensures.wrote.more c.put_all-2.ensures.wrote.more c.finish.ensures.bytes (omega arith) (λ i. omega (arith, c.type_inv.out i))
