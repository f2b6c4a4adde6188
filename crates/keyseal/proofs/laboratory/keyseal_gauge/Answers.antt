use Rattle.std.proofs.Common.{refl}
use Rattle.keyseal.specs.Exported.{no_set}
use Rattle.keyseal.specs.Gauged.{counted}
use Rattle.keyseal.proofs.Exports.{exported}
use Rattle.keyseal.proofs.laboratory.keyseal_gauge.Goals as goal

pub returns-in-Ok : goal.returns-in-Ok
returns-in-Ok c =
    let done = c.gauge_on-outcome.ensures in
    record {
      secret_wiped = done.secret_wiped;
      product_wiped = done.product_wiped;
      answer = exported {is = counted c.gauge_on-outcome.new.noise c.gauge_on-outcome.new.out_of_band} c.in-Ok.set c.gauge_on-outcome.result c.in-Ok.ensures (rw c.bytes_from.ensures at done.cases) c.tell.ensures;
    }

pub returns-in-Err : goal.returns-in-Err
returns-in-Err c =
    let told = c.in-Err.ensures in
    record {
      secret_wiped = c.refuse.ensures.secret_wiped;
      product_wiped = c.refuse.ensures.product_wiped;
      answer = no_set c.in-Err.fault told.0 told.1 c.refuse.ensures.says (refl {a = counted c.args.noise.now c.args.out_of_band.now});
    }
