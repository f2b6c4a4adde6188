use Rattle.std.proofs.Common.{rules}
use Rattle.rounding.proofs.lists.fill_reduced.Goals as goal

pub returns : goal.returns
returns g c i d lt = let h = c.fill_each.ensures i d lt in search rules
