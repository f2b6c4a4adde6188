use Rattle.std.proofs.Common.{◌*◌, map, length, drop, ap, ◌∙◌, arith}
use Rattle.std.proofs.lemmas.List.{length-drop}
use Rattle.pack.specs.Bits.{cut}
use Rattle.pack.specs.Packing.{fields_at}
use Rattle.pack.specs.Places.{unread}
use Rattle.pack.proofs.Runs.{length_run}
use Rattle.pack.proofs.reader.fields.Goals as goal

pub get_all-requires : goal.get_all-requires
get_all-requires g c = omega (arith, ap length c.new-reader.ensures, length_run 8 c.args.bytes.now)

pub get_all-requires-2 : goal.get_all-requires-2
get_all-requires-2 g c =
    omega (arith, ap length c.get_all.ensures.unread, length-drop (length c.args.xs.now * g.F.Field.width c.args.moduli) (unread c.new-reader.result), ap length c.new-reader.ensures, length_run 8 c.args.bytes.now)

pub returns : goal.returns
unfolding fields_at
returns g c =
    let n = length c.args.xs.now in
    let m = length c.args.ys.now in
    let v = g.F.Field.width c.args.moduli in
    let w = g.G.Field.width c.args.moduli in
    let all = c.new-reader.ensures in
    record {
      first = c.get_all.ensures.value ∙ ap (λ l. map g.F.Residue.made (cut n v l)) all;
      second = c.get_all-2.ensures.value ∙ ap (λ l. map g.G.Residue.made (cut m w l)) (c.get_all.ensures.unread ∙ ap (drop (n * v)) all);
    }
