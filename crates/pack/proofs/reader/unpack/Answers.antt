use Rattle.std.proofs.Common.{map, length, sym, ap, ◌∙◌}
use Rattle.ring.proofs.Listing.{map_undone}
use Rattle.pack.proofs.Fills.{passed_fill, unpacked_ok}
use Rattle.pack.proofs.reader.unpack.Goals as goal

pub returns : goal.returns
returns g c =
    unpacked_ok (length c.args.xs.now) (g.F.Field.width c.args.moduli) (length c.args.ys.now) (g.G.Field.width c.args.moduli) c.args.bytes.now _ _
    (passed_fill _ c.args.bytes.now _ _ c.check_fill.ensures c.in_ok-check_fill.was)
    (sym (ap (map g.F.Residue.bare) c.fields.ensures.first ∙ map_undone g.F.Residue.bare g.F.Residue.made g.met.F.Residue.back _))
    (sym (ap (map g.G.Residue.bare) c.fields.ensures.second ∙ map_undone g.G.Residue.bare g.G.Residue.made g.met.G.Residue.back _))
