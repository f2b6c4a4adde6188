use Rattle.std.proofs.Common.{false, [], refl}
use Rattle.keyseal.specs.Places.{no_coins}
use Rattle.keyseal.proofs.Records.{retired_empty, retired_held}
use Rattle.keyseal.proofs.places.retire.Goals as goal

pub returns-then-not-places-at : goal.returns-then-not-places-at
returns-then-not-places-at c =
    let ps = c.args.places.now in
    record {
      cases = (retired_empty ps c.args.place (record { held = false; coins = [] }) c.told-places c.if-at-ge-PLACES.false c.if-not-places-at.true, refl);
      bytes = refl;
    }

pub returns : goal.returns
unfolding no_coins
returns c =
    let ps = c.args.places.now in
    record {
      cases = retired_held ps c.args.place (record { held = false; coins = [] }) c.told-places c.if-at-ge-PLACES.false c.if-not-places-at.false;
      bytes = refl;
    }
