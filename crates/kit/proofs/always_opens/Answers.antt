use Rattle.std.proofs.Common.{refl}
use Rattle.kit.proofs.always_opens.Goals as goal

pub returns : goal.returns
returns c =
    let a = c.always_opens.ensures in
    record {
      verdict = a.verdict;
      noise_tells = a.noise_tells refl;
      noise_bounded = a.noise_bounded;
      opens = a.opens refl;
      never_out = a.never_out;
      publishes = a.publishes;
    }
