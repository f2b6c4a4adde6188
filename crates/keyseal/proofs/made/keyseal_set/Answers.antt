use Rattle.std.proofs.Common.{refl}
use Rattle.keyseal.specs.Exported.{on_set, no_set}
use Rattle.keyseal.proofs.made.keyseal_set.Goals as goal

pub returns-in-Ok : goal.returns-in-Ok
returns-in-Ok c = let made = c.in-Ok.ensures in on_set c.in-Ok.set made.0 made.1 (record { says = c.tell.ensures; leaves = c.facts_of.ensures })

pub returns-in-Err : goal.returns-in-Err
returns-in-Err c = let told = c.in-Err.ensures in no_set c.in-Err.fault told.0 told.1 c.tell_fault.ensures refl
