use Rattle.std.proofs.Common.{refl}
use Rattle.keyseal.specs.Exported.{no_set}
use Rattle.keyseal.proofs.Exports.{exported}
use Rattle.keyseal.proofs.till.keyseal_publish.Goals as goal

pub returns-in-Ok : goal.returns-in-Ok
returns-in-Ok c =
    let rack = c.rack_from-rack.ensures in
    let done = c.publish-outcome.ensures in
    record {
      secret_wiped = done.secret_wiped;
      product_wiped = done.product_wiped;
      answer = exported c.in-Ok.set c.publish-outcome.result c.in-Ok.ensures (rw (rack.numbers, rack.source, c.bytes_from.ensures, rack.places) at done.cases) c.tell.ensures;
    }

pub returns-in-Err : goal.returns-in-Err
returns-in-Err c =
    let told = c.in-Err.ensures in
    record {
      secret_wiped = c.refuse.ensures.secret_wiped;
      product_wiped = c.refuse.ensures.product_wiped;
      answer = no_set c.in-Err.fault told.0 told.1 c.refuse.ensures.says (refl {a = c.args.key.now});
    }
