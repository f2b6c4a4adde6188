use Rattle.rackfile.proofs.shown.RackFaultDisplay.fmt.Goals as goal

pub returns-in-Length-clause-writes : goal.returns-in-Length-clause-writes
returns-in-Length-clause-writes g c = rw c.in-Length.is c.write.ensures.writes

pub returns-in-NoRack-clause-writes : goal.returns-in-NoRack-clause-writes
returns-in-NoRack-clause-writes g c = rw c.in-NoRack.is c.write-in-NoRack.ensures.writes

pub returns-in-Damaged-clause-writes : goal.returns-in-Damaged-clause-writes
returns-in-Damaged-clause-writes g c = rw c.in-Damaged.is c.write-in-Damaged.ensures.writes
