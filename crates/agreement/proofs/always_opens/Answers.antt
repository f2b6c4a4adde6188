use Rattle.std.proofs.Common.{rules}
use Rattle.agreement.proofs.Laboratory.{noise_tells, noise_bounded, never_out}
use Rattle.agreement.proofs.Runs.{publishes}
use Rattle.agreement.proofs.Opens.{opens}
use Rattle.agreement.proofs.always_opens.Goals as goal

pub returns : goal.returns
returns g c =
    let C = g.T.Source.book c.args.station.now in
    let B = g.K.Source.book c.args.rack.now.source in
    let s = c.args.rack.now.set in
    record {
      verdict = search rules;
      noise_tells = noise_tells C B s;
      noise_bounded = noise_bounded B s;
      opens = opens C B s;
      never_out = never_out B s;
      publishes = publishes B s;
    }
