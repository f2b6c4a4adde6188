use Rattle.noise.proofs.AnyProduct.{agreement}
use Rattle.noise.proofs.Laws.{exact, bounded, safe}
use Rattle.noise.proofs.noise_laws.Goals as goal

pub returns : goal.returns
returns c =
    let M = c.args.moduli in
    record { exact = exact M; bounded = bounded M; safe = safe M; product = agreement M }
