use Rattle.pack.proofs.Fills.{fill_count}
use Rattle.pack.proofs.reader.fill_count.Goals as goal

pub returns-clause-ends : goal.returns-clause-ends
returns-clause-ends g c = fill_count c.args.n (g.F.Field.width c.args.moduli) c.args.m (g.G.Field.width c.args.moduli) _ _ c.field_width-v.ensures c.field_width-w.ensures
