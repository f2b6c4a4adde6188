use Rattle.std.proofs.Common.{◌∙◌}
use Rattle.ring.proofs.Bridge.{words_product}
use Rattle.ring.proofs.whole.multiply_operands.Goals as goal

pub returns : goal.returns
returns g c =
    let r = g.R.Residue in
    c.multiply.ensures ∙ words_product r.bare (r.made 0) (g.met.R.Residue.back 0) c.args.poly.now c.args.secret.now
