use Rattle.std.proofs.Common.{refl}
use Rattle.keyseal.specs.Exported.{no_set}
use Rattle.keyseal.specs.Places.{records, with_coins}
use Rattle.keyseal.proofs.Exports.{exported, by_number, by_fault}
use Rattle.keyseal.proofs.till.keyseal_issue.Goals as goal

pub returns-in-Ok : goal.returns-in-Ok
returns-in-Ok c =
    let a = c.args in
    let done = c.issue_on-outcome.ensures in
    record {
      secret_wiped = done.secret_wiped;
      product_wiped = done.product_wiped;
      answer = exported c.in-Ok.set c.issue_on-outcome.result c.in-Ok.ensures (rw c.bytes_from.ensures at done.cases) c.tell.ensures;
      bytes = by_number c.issue_on-outcome.result (with_coins a.places.now a.place a.coins.now) a.places.now done.bytes c.tell.ensures;
    }

pub returns-in-Err : goal.returns-in-Err
returns-in-Err c =
    let a = c.args in
    let told = c.in-Err.ensures in
    record {
      secret_wiped = c.refuse.ensures.secret_wiped;
      product_wiped = c.refuse.ensures.product_wiped;
      answer = no_set c.in-Err.fault told.0 told.1 c.refuse.ensures.says (refl {a = records c.args.places.now});
      bytes = by_fault c.in-Err.fault (with_coins a.places.now a.place a.coins.now) a.places.now c.refuse.ensures.says;
    }
