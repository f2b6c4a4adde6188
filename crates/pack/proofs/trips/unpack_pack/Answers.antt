use Rattle.std.proofs.Common.{◌<◌, length, ◌∙◌, arith}
use Rattle.std.proofs.ByRecursion.{All-from_get_or}
use Rattle.pack.proofs.Laws.{packs_unpacked}
use Rattle.pack.proofs.trips.unpack_pack.Goals as goal

pub returns : goal.returns
returns g c =
    c.pack.ensures
    ∙ packs_unpacked (length c.args.xs.now) (g.F.Field.width c.args.moduli) (length c.args.ys.now) (g.G.Field.width c.args.moduli) c.args.bytes.now _ _
    (All-from_get_or (λ x. x < 256) c.args.bytes.now 0 (λ i h. omega (arith, c.type_inv.bytes i))) c.requires.room c.in_ok-unpack.ensures
