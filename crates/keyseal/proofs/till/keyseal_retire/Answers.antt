use Rattle.rack.specs.Calls.{retired}
use Rattle.keyseal.specs.Places.{records, emptied}
use Rattle.keyseal.proofs.Exports.{told, by_number}
use Rattle.keyseal.proofs.till.keyseal_retire.Goals as goal

pub returns : goal.returns
returns c =
    let ps = c.args.places.now in
    let done = c.retire-outcome.ensures in
    record {
      answer = told (retired (records ps) c.args.place) c.retire-outcome.result done.cases c.tell.ensures;
      bytes = by_number c.retire-outcome.result (emptied ps c.args.place) ps done.bytes c.tell.ensures;
    }
