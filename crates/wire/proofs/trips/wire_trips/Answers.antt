use Rattle.wire.proofs.KeyLaws.{key_trips}
use Rattle.wire.proofs.ParcelLaws.{parcel_trips}
use Rattle.wire.proofs.trips.wire_trips.Goals as goal

pub returns : goal.returns
returns c = record { keys = key_trips; parcels = parcel_trips }
