use Rattle.std.proofs.Common.{◌≡◌, ◌^◌, ◌<◌, map, length, sym, ap, ◌∙◌}
use Rattle.std.proofs.lemmas.List.{length-map}
use Rattle.std.proofs.ByRecursion.{All-map}
use Rattle.pack.specs.Packing.{packed, unpacked}
use Rattle.pack.proofs.Laws.{unpacks_packed, reads, same_bare}
use Rattle.pack.proofs.trips.pack_unpack.Goals as goal

pub returns : goal.returns
returns g c =
    let v = g.F.Field.width c.args.moduli in
    let w = g.G.Field.width c.args.moduli in
    let xs = map g.F.Residue.bare c.args.xs.now in
    let ys = map g.G.Residue.bare c.args.ys.now in
    let n : length c.args.us.now ≡ length xs = c.requires.same.0 ∙ sym (length-map c.args.xs.now g.F.Residue.bare) in
    let m : length c.args.vs.now ≡ length ys = c.requires.same.1 ∙ sym (length-map c.args.ys.now g.G.Residue.bare) in
    let t = unpacks_packed v w xs ys (All-map (λ x. x < 2 ^ v) g.F.Residue.bare c.args.xs.now c.requires.below.0) (All-map (λ y. y < 2 ^ w) g.G.Residue.bare c.args.ys.now c.requires.below.1) in
    let e = ap (λ b. unpacked (length c.args.us.now) v (length c.args.vs.now) w b) c.pack.ensures ∙ ap (λ i. unpacked i v (length c.args.vs.now) w (packed v xs w ys)) n ∙ ap (λ j. unpacked (length xs) v j w (packed v xs w ys)) m ∙ t in
    let r = reads c.unpack.result _ _ _ xs ys _ _ c.unpack.ensures e in
    record {
      ok = r.0;
      first = same_bare g.F.Residue.bare g.F.Residue.made g.met.F.Residue.forth c.unpack.new.xs c.args.xs.now r.1;
      second = same_bare g.G.Residue.bare g.G.Residue.made g.met.G.Residue.forth c.unpack.new.ys c.args.ys.now r.2;
    }
